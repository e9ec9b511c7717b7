use Rattle.std.proofs.Common.{◌≡◌, ◌+◌, ◌-◌, ◌^◌, ◌≤◌, ◌<◌, ℕ, List, length}
use Rattle.replay_links.specs.Fronts.{ReadFrom}
use Rattle.replay_links.proofs.file.read_pieces.Given as goal

abbrev pub invariant-loop-files : goal.invariant-loop-files
invariant-loop-files g l =
    let holds = g.F.Files.holds in
    record {
      front : ReadFrom (holds l.fn.files l.name) l.text.items;
      some : 0 < length l.buffer;
      kept : (n : List ℕ) → holds l.files n ≡ holds l.fn.files n;
      count : g.F.Files.faults l.fn.files ≤ g.F.Files.faults l.files;
    }

abbrev pub decreases-loop-files : goal.decreases-loop-files
decreases-loop-files g l = 2 ^ 40 + 1 - length l.text.items
