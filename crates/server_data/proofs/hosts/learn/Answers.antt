use Rattle.std.proofs.Common.{false, sym, ◌∙◌}
use Rattle.server_data.proofs.Learned.{lacking, none_learned, one_learned}
use Rattle.server_data.proofs.hosts.learn.Goals as goal

pub returns-then-not-is_host-clause-learned : goal.returns-then-not-is_host-clause-learned
returns-then-not-is_host-clause-learned g c before course h =
    none_learned g.S.ClientSession.stands c.args.core.now before course c.args.cid.0 c.args.host c.args.out.now false
    (sym (c.is_host.ensures course.table h.table) ∙ c.if-not-is_host.true) h

pub returns-in-Ok-clause-learned : goal.returns-in-Ok-clause-learned
returns-in-Ok-clause-learned g c before course h =
    one_learned g.S.ClientSession.stands c.args.core.now before course c.args.cid.0 c.args.host c.args.out.now c.learn.new.self
    (sym (c.is_host.ensures course.table h.table) ∙ c.if-not-is_host.false) c.in-Ok.ensures.ok h

pub returns-in-Err-clause-learned : goal.returns-in-Err-clause-learned
returns-in-Err-clause-learned g c before course h =
    lacking g.S.ClientSession.stands c.args.core.now before course c.args.cid.0 c.args.host c.args.out.now c.report.new.out c.learn.new.self
    (sym (c.is_host.ensures course.table h.table) ∙ c.if-not-is_host.false) c.in-Err.ensures.err c.in-Err.ensures.there h (c.report.ensures.reported before)
