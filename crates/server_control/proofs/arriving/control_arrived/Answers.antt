use Rattle.std.proofs.Common.{◌≡◌, ℕ, List, false, subst}
use Rattle.vpn_base.specs.declared.names.Role.TheVariants.{Server}
use Rattle.tls_crypt.specs.Packets.{Directions}
use Rattle.tls_crypt.specs.Unwrapping.{unwrapping}
use Rattle.tls_crypt.specs.Wrapped.{half, keys_of, read_half, wrapped}
use Rattle.server_table.specs.ControlDatagrams as server
use Rattle.server_table.specs.Courses.{outs}
use Rattle.server_table.specs.Runs.{is_refusal}
use Rattle.server_state.specs.Core.{CourseStands}
use Rattle.server_control.proofs.Arrived.{on_err_then, on_ok}
use Rattle.server_control.proofs.arriving.control_arrived.Goals as goal

pub returns-clause-arrived : goal.returns-clause-arrived
unfolding server.control_arrived
returns-clause-arrived g c =
    on_ok c.unwrap_datagram.result c.unwrap_datagram.ensures.unwrapped
    (λ unwrapped before course lacks h.
    let so = λ (k : List ℕ). CourseStands g.S.ClientSession.stands before c.unwrap_datagram.new.core c.unwrap_datagram.new.out
    (server.control_unwrapped (record { from = c.args.from; bytes = c.args.datagram.now; lacks = lacks }) c.args.draw.now c.args.op course
    (unwrapping (wrapped (keys_of (half k (read_half Server)))) c.args.datagram.now)) in
    subst so h.table.key
    (subst (λ (w : Directions). CourseStands g.S.ClientSession.stands before c.unwrap_datagram.new.core c.unwrap_datagram.new.out
    (server.control_unwrapped (record { from = c.args.from; bytes = c.args.datagram.now; lacks = lacks }) c.args.draw.now c.args.op course
    (unwrapping (wrapped w.reads) c.args.datagram.now))) c.new-wrapper.ensures
    (unwrapped before course lacks h)))

pub returns-clause-lacking : goal.returns-clause-lacking
unfolding server.control_arrived
returns-clause-lacking g c =
    on_err_then c.unwrap_datagram.result c.unwrap_datagram.ensures.lacking
    (λ lacking before course lacks h fresh.
    let so = λ (k : List ℕ). is_refusal (outs
    (server.control_unwrapped (record { from = c.args.from; bytes = c.args.datagram.now; lacks = lacks }) c.args.draw.now c.args.op course
    (unwrapping (wrapped (keys_of (half k (read_half Server)))) c.args.datagram.now))) ≡ false in
    subst so h.table.key
    (subst (λ (w : Directions). is_refusal (outs
    (server.control_unwrapped (record { from = c.args.from; bytes = c.args.datagram.now; lacks = lacks }) c.args.draw.now c.args.op course
    (unwrapping (wrapped w.reads) c.args.datagram.now))) ≡ false) c.new-wrapper.ensures
    (lacking before course lacks h fresh)))
