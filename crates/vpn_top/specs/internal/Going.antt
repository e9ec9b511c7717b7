-- How far a run has come: what it has read of the file and written to the output.
use Rattle.std.specs.Prelude.{◌≡◌, ℕ, ◌≤◌, List, [], ◌++◌, length, take, drop, Option}
use Rattle.schedule_text.specs.declared.kind.TextKind.{TextKind}
use Rattle.vpn_base.specs.Files.{Holding, Untold, Absent, Held}
use Rattle.vpn_base.specs.Sink.{appended}
use Rattle.route_file.specs.Output.{printed_before, routes}
use Rattle.route_file.specs.Progress.{Progress, outcome_with}
use Rattle.vpn_top.specs.Written.{IsWhole}

-- so many bytes are the front of the file, where it is told
abbrev pub IsFront : Holding → ℕ → List ℕ → Type 0
IsFront Untold at bytes = Unit {0}
IsFront Absent at bytes = bytes ≡ []
IsFront (Held held) at bytes = (bytes ≡ take at held) × (at ≤ length held)

-- so many bytes were read, and what was written and what the reader keeps give the file's output, whatever follows
pub record Going (holding : Holding) (before after : Option (List ℕ)) (at : ℕ) (reader : Progress) : Type 0 where
  pub bytes : List ℕ
  pub written : List ℕ
  pub front : IsFront holding at bytes
  pub contents : after ≡ appended before written
  pub outcome : (rest : List ℕ) → routes (bytes ++ rest) ≡ printed_before written (outcome_with reader rest)

-- the place is at the end of the file, where it is told
abbrev pub IsEnd : Holding → ℕ → Type 0
IsEnd Untold at = Unit {0}
IsEnd Absent at = ⊥
IsEnd (Held held) at = length held ≤ at

-- the bytes stand in the file from the place on, where it is told
abbrev pub IsNext : Holding → ℕ → List ℕ → Type 0
IsNext Untold at piece = Unit {0}
IsNext Absent at piece = ⊥
IsNext (Held held) at piece = (piece ≡ take (length piece) (drop at held)) × (length piece ≤ length (drop at held))

-- the file was judged as far as it has to be, and this text of its output is still to be written
pub record Settled (holding : Holding) (before after : Option (List ℕ)) (text : List ℕ) (fault : Option (ℕ × TextKind)) : Type 0 where
  pub bytes : List ℕ
  pub written : List ℕ
  pub whole : IsWhole holding bytes
  pub contents : after ≡ appended before written
  pub outcome : routes bytes ≡ record { printed = written ++ text; fault = fault }
