use Rattle.std.proofs.Common.{sym, subst}
use Rattle.reliable_send.specs.Sides.{IsKeptOf, Side, Stands}
use Rattle.reliable_send.proofs.Standing.{stands_started}
use Rattle.reliable_send.proofs.side.SendSide.peer_started.Goals as goal

pub returns-clause-stands : goal.returns-clause-stands
unfolding Stands
returns-clause-stands c = λ h s. stands_started _ h (subst (λ (w : Side). IsKeptOf w.kept h) (sym c.self.view_is) s)
