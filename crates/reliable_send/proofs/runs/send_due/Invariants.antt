use Rattle.reliable_send.specs.Sending.{Sending, due}
use Rattle.reliable_send.specs.Sides.{Stands}
use Rattle.reliable_send.proofs.RunLaws.{IsUnderway}
use Rattle.reliable_send.proofs.runs.send_due.Given as goal

abbrev pub invariant-loop-i : goal.invariant-loop-i
invariant-loop-i l = (h : Sending) → Stands l.fn.side h → IsUnderway (λ (k : Sending). due k l.now.0) l.now h l.fn.log.items l.log.items l.side l._i
