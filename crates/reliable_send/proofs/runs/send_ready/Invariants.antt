use Rattle.reliable_send.specs.Sending.{Sending, ready}
use Rattle.reliable_send.specs.Sides.{Stands}
use Rattle.reliable_send.proofs.RunLaws.{IsUnderway}
use Rattle.reliable_send.proofs.runs.send_ready.Given as goal

abbrev pub invariant-loop-i : goal.invariant-loop-i
invariant-loop-i l = (h : Sending) → Stands l.fn.side h → IsUnderway ready l.now h l.fn.log.items l.log.items l.side l._i
