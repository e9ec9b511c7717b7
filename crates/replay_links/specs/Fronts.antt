-- The front of a file that is read.
use Rattle.std.specs.Prelude.{◌≡◌, ℕ, ◌+◌, ◌≤◌, List, [], length, take}
use Rattle.vpn_base.specs.Files.{Holding, Untold, Absent, Held}
use Rattle.replay_links.specs.Schedule.{longest_file}

-- these are all bytes of a file, or those up to the first one past its limit, where it is told
abbrev pub IsFrontOf : Holding → List ℕ → Type 0
IsFrontOf Untold bytes = length bytes ≤ longest_file + 1
IsFrontOf Absent bytes = ⊥
IsFrontOf (Held held) bytes = (bytes ≡ take (longest_file + 1) held) × (length bytes ≤ longest_file + 1)

-- these bytes of it were read so far; of a file that is not there none were
abbrev pub ReadFrom : Holding → List ℕ → Type 0
ReadFrom Untold bytes = Unit {0}
ReadFrom Absent bytes = bytes ≡ []
ReadFrom (Held held) bytes = bytes ≡ take (length bytes) held

-- they are all of it
abbrev pub IsAll : Holding → List ℕ → Type 0
IsAll Untold bytes = Unit {0}
IsAll Absent bytes = ⊥
IsAll (Held held) bytes = bytes ≡ held
