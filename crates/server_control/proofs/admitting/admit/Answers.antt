use Rattle.std.proofs.Common.{length, ◌∙◌}
use Rattle.server_table.specs.ControlDatagrams as server
use Rattle.server_control.specs.Packets.{packet_of}
use Rattle.server_control.proofs.Admitted.{here_admitted}
use Rattle.server_control.proofs.Taken.{told_in_all}
use Rattle.server_control.proofs.admitting.admit.Goals as goal

pub returns-in-Ok-clause-admitted : goal.returns-in-Ok-clause-admitted
returns-in-Ok-clause-admitted g c before course bytes lacks h =
    let o = server.session_begun course.table c.args.draw.now in
    told_in_all g.S.ClientSession.stands before c.admit_first.new.core c.tell.new.core c.admit_first.new.out c.tell.new.out (length course.table.clients) c.admit_first.new.core.turn.0
    (packet_of c.args.opened.now c.args.view.now) (server.opened_for c.args.from course o) (server.client_begun course.table c.args.from o.peer) c.in-Ok.answer
    (here_admitted c.args.from course o) (c.in-Ok.ensures.admitted before course h) (c.in-Ok.ensures.turn ∙ h.table.admitted) c.tell.ensures.told
