use Rattle.std.proofs.Common.{sym, ◌∙◌}
use Rattle.server_state.proofs.Sealed.{no_value_for, none_sealed}
use Rattle.server_state.proofs.state.ServerCore.seal_to.Goals as goal

pub returns-in-None-clause-sealed : goal.returns-in-None-clause-sealed
returns-in-None-clause-sealed g c before course h =
    none_sealed g.S.ClientSession.stands before c.args.self.now c.args.out.now course h c.args.target.0 c.args.inner.now (sym c.place.ensures.place ∙ c.in-None.is)

pub returns-in-None-clause-value : goal.returns-in-None-clause-value
returns-in-None-clause-value g c = no_value_for c.args.target.0 c.args.self.now.clients (sym c.place.ensures.place ∙ c.in-None.is)
