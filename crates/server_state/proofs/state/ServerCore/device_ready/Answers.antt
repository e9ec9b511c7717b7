use Rattle.std.proofs.Common.{subst, sym, ap, ◌∙◌}
use Rattle.std.specs.Option.{option_copied}
use Rattle.server_table.specs.InnerPackets.{device_ready}
use Rattle.server_state.specs.Core.{CourseStands}
use Rattle.server_state.proofs.Waiting.{given_is, none_is}
use Rattle.server_state.proofs.state.ServerCore.device_ready.Goals as goal

pub returns-in-None-clause-given : goal.returns-in-None-clause-given
returns-in-None-clause-given g c before course h =
    none_is g.S.ClientSession.stands before c.args.self.now course c.args.out.now (sym c.front.ensures.front ∙ ap option_copied c.in-None.is) h

pub returns-in-Some-clause-given : goal.returns-in-Some-clause-given
returns-in-Some-clause-given g c before course h =
    subst (λ q. CourseStands g.S.ClientSession.stands before (record c.args.self.now { queue = q }) c.put.new.out (device_ready course))
    (sym c.pass.ensures)
    (given_is g.S.ClientSession.stands before c.args.self.now course c.args.out.now c.put.new.out c.in-Some.bytes.now
    (sym c.front.ensures.front ∙ ap option_copied c.in-Some.is) h c.put.ensures.put)
