use Rattle.std.proofs.Common.{◌≡◌, take}
use Rattle.reliable_send.specs.Sending.{begun}
use Rattle.reliable_send.specs.Sides.{Stands}
use Rattle.reliable_send.specs.Runs.{after_all, sent_in}
use Rattle.reliable_send.proofs.runs.run_sending.Given as goal

abbrev pub invariant-loop-event : goal.invariant-loop-event
invariant-loop-event l = record {
  told : l.log.items ≡ sent_in (take l.event-index l.events) (begun l.timeout_secs);
  stands : Stands l.side (after_all (take l.event-index l.events) (begun l.timeout_secs));
}
