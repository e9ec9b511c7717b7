-- What a reader keeps within its limits, and how its steps refuse.
use Rattle.std.specs.Prelude.{◌≡◌, ℕ, ◌+◌, ◌^◌, ◌==◌, ◌≤◌, List, [], ◌∷◌, length}
use Rattle.std.specs.List.{slice_split}
use Rattle.vpn_base.specs.declared.errors.Or.{Or}
use Rattle.vpn_base.specs.declared.errors.Or.TheVariants.{Memory, Why}
use Rattle.schedule_text.specs.declared.kind.TextKind.{TextKind}
use Rattle.route_file.specs.declared.state.RouteFault.{RouteFault}
use Rattle.route_file.specs.Progress.{Progress}

-- no line feed stands in the text
abbrev pub IsOneLine : List ℕ → Type 0
IsOneLine text = slice_split (λ c. c == 10) text ≡ text ∷ []

-- what the limits of a line and of a file leave room for
pub record IsWithin (p : Progress) : Type 0 where
  pub one_line : IsOneLine p.kept
  pub short : length p.kept ≤ 140001
  pub small : p.bytes + length p.kept ≤ 2 ^ 40
  pub counted : p.count ≤ p.bytes

-- the fault of a line, where it is no want of memory, has this fact of its line and its kind
abbrev pub Faults : Or RouteFault → (ℕ → TextKind → Type 0) → Type 0
Faults Memory P = Unit {0}
Faults (Why fault) P = P fault.line fault.kind
