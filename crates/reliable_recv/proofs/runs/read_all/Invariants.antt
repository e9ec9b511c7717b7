use Rattle.std.proofs.Common.{◌≡◌, [], take}
use Rattle.reliable_recv.specs.Receiving.{all_taken, text_of}
use Rattle.reliable_recv.specs.Sides.{Stands}
use Rattle.reliable_recv.specs.Runs.{reached}
use Rattle.reliable_recv.proofs.runs.read_all.Given as goal

abbrev pub invariant-loop-id : goal.invariant-loop-id
invariant-loop-id l = record {
  waiting : l.side.kept.waiting ≡ [];
  stands : Stands l.side (reached (all_taken [] (take l.id-index l.arrivals)));
  text : l.text.items ≡ text_of (take l.id-index l.arrivals);
}
