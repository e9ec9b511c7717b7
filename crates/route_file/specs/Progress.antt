-- How far the reading of a route file has come.
use Rattle.std.specs.Prelude.{◌≡◌, ℕ, List, ◌++◌, Option}
use Rattle.std.specs.String.{string_bytes}
use Rattle.vpn_base.specs.declared.errors.Or.{Or}
use Rattle.vpn_base.specs.declared.errors.Or.TheVariants.{Memory, Why}
use Rattle.schedule_text.specs.declared.kind.TextKind.{TextKind}
use Rattle.route_file.specs.declared.reader.Refused.{Refused}
use Rattle.vpn_base.specs.Lines.{Line, lines_of}
use Rattle.route_file.specs.Output.{Table, Outcome, printed_before, outcome_from}

-- what was printed and not taken yet, what is set up, how many lines were read and their bytes, and the front of the next line
pub record Progress : Type 0 where
  pub printed : List ℕ
  pub table : Table
  pub count : ℕ
  pub bytes : ℕ
  pub kept : List ℕ

-- the outcome of these lines behind what was printed
abbrev pub outcome_of : Progress → List Line → Outcome
outcome_of p lines = printed_before p.printed (outcome_from lines p.count p.bytes p.table)

-- the outcome of the rest of the file behind what was printed
unfoldable pub outcome_with : Progress → List ℕ → Outcome
outcome_with p rest = outcome_of p (lines_of (p.kept ++ rest))

-- the outcome is this text and this fault
abbrev pub Ends : Outcome → List ℕ → Option (ℕ × TextKind) → Type 0
Ends outcome printed fault = outcome ≡ record { printed = printed; fault = fault }

-- a refusal that is no want of memory has this fact of what was printed before it, of its line and of its fault
abbrev pub Refuses : Or Refused → (List ℕ → ℕ → TextKind → Type 0) → Type 0
Refuses Memory P = Unit {0}
Refuses (Why refused) P = P (string_bytes refused.printed) refused.fault.line refused.fault.kind
