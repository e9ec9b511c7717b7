use Rattle.std.proofs.Common.{subst, sym, ◌∙◌}
use Rattle.server_table.specs.InnerPackets.{queued}
use Rattle.server_state.specs.Core.{CourseStands}
use Rattle.server_state.proofs.Waiting.{full_is, put_is}
use Rattle.server_state.proofs.state.ServerCore.enqueue.Goals as goal

pub returns-then-is_full-clause-queued : goal.returns-then-is_full-clause-queued
returns-then-is_full-clause-queued g c before course h =
    full_is g.S.ClientSession.stands before c.args.self.now course c.args.out.now c.report.new.out c.args.cid.0 c.args.inner.now
    (sym c.is_full.ensures ∙ c.if-is_full.true) h (c.report.ensures.reported before)

pub returns-else-is_full-clause-queued : goal.returns-else-is_full-clause-queued
returns-else-is_full-clause-queued g c before course h =
    subst (λ q. CourseStands g.S.ClientSession.stands before (record c.args.self.now { queue = q }) c.args.out.now (queued c.args.cid.0 c.args.inner.now course))
    (sym c.put.ensures)
    (put_is g.S.ClientSession.stands before c.args.self.now course c.args.out.now c.args.cid.0 c.args.inner.now (sym c.is_full.ensures ∙ c.if-is_full.false) h)
