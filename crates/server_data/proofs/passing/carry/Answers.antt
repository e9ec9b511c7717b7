use Rattle.std.proofs.Common.{false, subst, sym, ◌∙◌}
use Rattle.server_data.proofs.Passed.{by_ping, by_verdict, may_pass}
use Rattle.server_data.specs.internal.Passing.{MayPass}
use Rattle.server_data.proofs.passing.carry.Goals as goal

pub returns-then-is_ping-clause-carried : goal.returns-then-is_ping-clause-carried
returns-then-is_ping-clause-carried g c before course h =
    by_ping g.S.ClientSession.stands before c.args.core.now c.args.core.now c.args.out.now c.report.new.out course c.args.cid.0 c.args.inner.now false
    (sym c.is_ping.ensures ∙ c.if-is_ping.true) (c.report.ensures.reported before course h)

pub pass-requires-clause-may : goal.pass-requires-clause-may
pass-requires-clause-may g c =
    let core = c.args.core.now in
    subst (MayPass core.routes.rows c.args.cid c.args.inner.now) (sym c.verdict_on-verdict.ensures.verdict)
    (may_pass core.routes.rows core.settings.net core.settings.between c.args.cid c.args.inner.now)

pub returns-clause-carried : goal.returns-clause-carried
returns-clause-carried g c before course h =
    by_verdict g.S.ClientSession.stands before c.args.core.now c.pass.new.core c.args.out.now c.pass.new.out course c.args.cid.0 c.args.inner.now c.pass.result
    c.verdict_on-verdict.result (sym c.is_ping.ensures ∙ c.if-is_ping.false) h.table c.verdict_on-verdict.ensures.verdict
    (c.pass.ensures.passed before course h)
