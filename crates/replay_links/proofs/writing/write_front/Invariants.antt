use Rattle.std.proofs.Common.{◌≡◌, ◌≤◌, ◌-◌, length, take}
use Rattle.vpn_base.specs.Sink.{appended}
use Rattle.replay_links.proofs.writing.write_front.Given as goal

abbrev pub invariant-loop-at : goal.invariant-loop-at
invariant-loop-at g l =
    let contents = g.S.Sink.contents in
    let faults = g.S.Sink.faults in
    record {
      within : l.at ≤ length l.text;
      wrote : contents l.sink ≡ appended (contents l.fn.sink) (take l.at l.text);
      count : faults l.fn.sink ≤ faults l.sink;
    }

abbrev pub decreases-loop-at : goal.decreases-loop-at
decreases-loop-at g l = length l.text - l.at
