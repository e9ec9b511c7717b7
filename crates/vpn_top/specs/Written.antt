-- What a run has written for the file that it read.
use Rattle.std.specs.Prelude.{◌≡◌, ℕ, List, [], take, Option}
use Rattle.schedule_text.specs.declared.kind.TextKind.{TextKind}
use Rattle.vpn_base.specs.Files.{Holding, Untold, Absent, Held}
use Rattle.vpn_base.specs.Sink.{appended}
use Rattle.route_file.specs.Output.{routes}

-- these are all the bytes of the file, where it is told
abbrev pub IsWhole : Holding → List ℕ → Type 0
IsWhole Untold bytes = Unit {0}
IsWhole Absent bytes = ⊥
IsWhole (Held held) bytes = bytes ≡ held

-- the same, where the reading may have been cut short; no bytes of a file that is not there
abbrev pub IsFile : Holding → List ℕ → Type 0
IsFile Untold bytes = Unit {0}
IsFile Absent bytes = bytes ≡ []
IsFile (Held held) bytes = bytes ≡ held

-- what the output holds before and after: all that the file prints, and its first fault is this
pub record Printed (holding : Holding) (before after : Option (List ℕ)) (fault : Option (ℕ × TextKind)) : Type 0 where
  pub bytes : List ℕ
  pub whole : IsWhole holding bytes
  pub faulty : (routes bytes).fault ≡ fault
  pub written : after ≡ appended before (routes bytes).printed

-- what the output holds before and after: a front of what the file prints
pub record PrintedPart (holding : Holding) (before after : Option (List ℕ)) : Type 0 where
  pub bytes : List ℕ
  pub length : ℕ
  pub file : IsFile holding bytes
  pub written : after ≡ appended before (take length (routes bytes).printed)

-- what a call did to the output, before and after, and the counts of faults of files, output and error output before and after it
pub record Run : Type 0 where
  pub before : Option (List ℕ)
  pub after : Option (List ℕ)
  pub files : ℕ × ℕ
  pub out : ℕ × ℕ
  pub err : ℕ × ℕ
