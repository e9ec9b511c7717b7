use Rattle.reliable_recv.specs.Sides.{Stands}
use Rattle.reliable_recv.proofs.Standing.{stands_begun}
use Rattle.reliable_recv.proofs.receiving.RecvSide.new.Goals as goal

pub returns-clause-stands : goal.returns-clause-stands
unfolding Stands
returns-clause-stands c = rw (c.in_ok-held.ensures.items, c.in_ok-waiting.ensures.items) stands_begun
