use Rattle.std.proofs.Common.{sym, subst, ◌∙◌}
use Rattle.server_table.specs.InnerPackets as server
use Rattle.server_state.specs.Core.{CourseStands}
use Rattle.server_time.proofs.Pinged.{is_pinged}
use Rattle.server_time.proofs.pinging.ping.Goals as goal

pub returns-then-is_due-clause-pinged : goal.returns-then-is_due-clause-pinged
returns-then-is_due-clause-pinged g c before course h =
    is_pinged g.S.ClientSession.stands before c.seal_to.new.self c.seal_to.new.out course c.args.cid.0 (sym c.if-is_due.true ∙ c.is_due.ensures.due course.table h.table)
    (subst (λ inner. CourseStands g.S.ClientSession.stands before c.seal_to.new.self c.seal_to.new.out (server.sealed_to c.args.cid.0 inner course))
    c.ping_payload-payload.ensures (c.seal_to.ensures.sealed before course h))
