use Rattle.std.proofs.Common.{◌≡◌, ◌-◌, ◌≤◌, ℕ, List, length, take}
use Rattle.vpn_top.proofs.Fronts.{IsReadFrom}
use Rattle.vpn_top.proofs.front.read_front.Given as goal

-- so many bytes stand at the front of the buffer
abbrev pub invariant-loop-at : goal.invariant-loop-at
invariant-loop-at g l =
    let holds = g.F.Files.holds in
    record {
      front : IsReadFrom (holds l.fn.files l.name) l.at (take l.at l.buffer);
      size : length l.buffer ≡ length l.fn.buffer;
      within : l.at ≤ length l.buffer;
      kept : (n : List ℕ) → holds l.files n ≡ holds l.fn.files n;
      count : g.F.Files.faults l.fn.files ≤ g.F.Files.faults l.files;
    }

abbrev pub decreases-loop-at : goal.decreases-loop-at
decreases-loop-at g l = length l.buffer - l.at
