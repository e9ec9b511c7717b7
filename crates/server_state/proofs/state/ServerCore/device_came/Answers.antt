use Rattle.std.proofs.Common.{None, subst, ◌∙◌}
use Rattle.server_table.specs.Step.{device_came, device_passed}
use Rattle.server_state.specs.Core.{CourseStands}
use Rattle.server_state.proofs.Short.{verdict_same}
use Rattle.server_state.proofs.state.ServerCore.device_came.Goals as goal

pub returns-clause-came : goal.returns-clause-came
unfolding device_came
returns-clause-came g c before course h =
    let means = g.S.ClientSession.stands in
    subst (λ v. CourseStands means before c.device_passed.new.self c.device_passed.new.out (device_passed c.args.inner.now course v))
    (c.verdict_on-verdict.ensures.verdict ∙ verdict_same means c.args.self.now course.table None c.args.inner.now h.table)
    (c.device_passed.ensures.passed before course h)
