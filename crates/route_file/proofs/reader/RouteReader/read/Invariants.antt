use Rattle.std.proofs.Common.{◌≡◌, ℕ, ◌+◌, ◌++◌, List, length}
use Rattle.route_file.specs.Progress.{outcome_with}
use Rattle.route_file.proofs.reader.RouteReader.read.Given as goal

abbrev pub invariant-loop-line : goal.invariant-loop-line
invariant-loop-line l = record {
  told : (more : List ℕ) → outcome_with l.fn.self (l.piece ++ more) ≡ outcome_with l.self (l.rest ++ more);
  fed : l.self.bytes + length l.self.kept + length l.rest ≡ l.fn.self.bytes + length l.fn.self.kept + length l.piece;
}

abbrev pub decreases-loop-line : goal.decreases-loop-line
decreases-loop-line l = length l.rest
