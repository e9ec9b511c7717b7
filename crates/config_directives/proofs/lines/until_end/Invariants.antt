use Rattle.std.proofs.Common.{◌≡◌, ◌≤◌, ◌-◌, ◌++◌, ℕ, List, length}
use Rattle.std.specs.Prelude.{option_map}
use Rattle.vpn_base.specs.Lines.{lines_of}
use Rattle.config_directives.specs.Entries.{until_end}
use Rattle.config_directives.proofs.lines.until_end.Given as goal

-- the lines so far are others, and their bytes are kept
pub record Kept (size : ℕ) (last text bytes rest : List ℕ) : Type 0 where
  pub within : length rest ≤ size
  pub kept : until_end last (size - length text) (lines_of text) ≡ option_map (λ (more : List ℕ). bytes ++ more) (until_end last (size - length rest) (lines_of rest))

abbrev pub invariant-lines : goal.invariant-lines
invariant-lines l = Kept l.size l.last l.text l.bytes.items l.rest

abbrev pub decreases-lines : goal.decreases-lines
decreases-lines l = length l.rest
