use Rattle.std.proofs.Common.{ℕ, List, subst, sym}
use Rattle.opcode_codec.specs.ControlText.{control_of}
use Rattle.tls_crypt.specs.Unwrapping.{packet_of}
use Rattle.server_table.specs.ControlDatagrams as server
use Rattle.server_state.specs.Core.{CourseStands}
use Rattle.server_control.proofs.Arrived.{on_ok}
use Rattle.server_control.proofs.arriving.unwrap_datagram.Goals as goal

pub returns-in-Ok-clause-unwrapped : goal.returns-in-Ok-clause-unwrapped
returns-in-Ok-clause-unwrapped g c =
    on_ok c.read_text.result c.read_text.ensures.read
    (λ read before course lacks h.
    subst (λ o. CourseStands g.S.ClientSession.stands before c.read_text.new.core c.read_text.new.out
    (server.control_unwrapped (record { from = c.args.from; bytes = c.args.datagram.now; lacks = lacks }) c.args.draw.now c.args.op course o))
    (sym c.in-Ok.ensures.exact)
    (subst (λ (plain : List ℕ). CourseStands g.S.ClientSession.stands before c.read_text.new.core c.read_text.new.out
    (server.control_read (record { from = c.args.from; bytes = c.args.datagram.now; lacks = lacks }) c.args.draw.now c.args.op (packet_of c.in-Ok.header plain) course
    (control_of c.args.op plain))) c.plain_of.ensures.plain
    (read before course c.args.datagram.now lacks c.first_of-first.ensures h)))
