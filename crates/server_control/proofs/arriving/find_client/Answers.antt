use Rattle.std.proofs.Common.{Option, option_map, subst, sym, ap, ◌∙◌}
use Rattle.vpn_base.specs.declared.names.Cid.{Cid}
use Rattle.server_table.specs.ControlDatagrams as server
use Rattle.server_table.specs.Courses.{outs}
use Rattle.server_table.specs.Runs.{is_refusal}
use Rattle.server_state.specs.Core.{CourseStands}
use Rattle.server_control.specs.Packets.{packet_of}
use Rattle.server_control.proofs.Arrived.{on_err, on_ok}
use Rattle.server_control.proofs.arriving.find_client.Goals as goal

pub returns-in-None-clause-found : goal.returns-in-None-clause-found
returns-in-None-clause-found g c =
    on_ok c.of_nobody.result c.of_nobody.ensures.nobody
    (λ nobody before course bytes lacks h.
    subst (λ o. CourseStands g.S.ClientSession.stands before c.of_nobody.new.core c.of_nobody.new.out
    (server.control_at (record { from = c.args.from; bytes = bytes; lacks = lacks }) c.args.draw.now c.args.op (packet_of c.args.opened.now c.args.view.now) course o))
    (sym (ap (λ (o : Option Cid). option_map (λ cid. cid.0) o) c.in-None.is) ∙ c.by_session.ensures course.table h.table)
    (nobody before course bytes lacks h))

pub returns-in-Some-clause-lacking : goal.returns-in-Some-clause-lacking
returns-in-Some-clause-lacking g c =
    on_err c.to_client.result
    (λ before course bytes lacks h fresh.
    ap
    (λ o. is_refusal (outs
    (server.control_at (record { from = c.args.from; bytes = bytes; lacks = lacks }) c.args.draw.now c.args.op (packet_of c.args.opened.now c.args.view.now) course o)))
    (sym (c.by_session.ensures course.table h.table) ∙ ap (λ (o : Option Cid). option_map (λ cid. cid.0) o) c.in-Some.is)
    ∙ c.what_is_done_is_no_refusal.ensures.packet (packet_of c.args.opened.now c.args.view.now) c.in-Some.cid.0 course fresh)
