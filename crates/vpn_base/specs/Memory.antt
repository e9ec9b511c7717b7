-- Files and sinks in memory, which tell everything and fail at the calls that they are told to.
use Rattle.std.specs.Prelude.{ℕ, ◌+◌, ◌-◌, ◌^◌, ◌==◌, ◌||◌, nat_lt, min, Bool, true, false, List, [], ◌∷◌, ◌++◌, length, take, drop, Result, Ok, Err, if◌then◌else◌}
use Rattle.std.specs.List.{list_any}
use Rattle.std.specs.Str.{bytes_eq}
use Rattle.vpn_base.specs.declared.outside.FileFault.{FileFault}
use Rattle.vpn_base.specs.declared.outside.FileFault.TheVariants as faults
use Rattle.vpn_base.specs.declared.outside.Failed.{Failed}
use Rattle.vpn_base.specs.Files.{Holding, Untold, Absent, Held}

-- files by name, the numbers of the calls that are to fail, and how many calls came and failed
pub record FileStore : Type 0 where
  pub held : List (List ℕ × List ℕ)
  pub failing : List ℕ
  pub calls : ℕ
  pub faults : ℕ

-- a count that stands still at the end of its type
abbrev pub counted : ℕ → ℕ
counted n = if nat_lt n (2 ^ 64 - 1) then n + 1 else n

-- what a name holds: of equal names the first one counts
abbrev pub holding : List (List ℕ × List ℕ) → List ℕ → Holding
holding [] name = Absent
holding (file ∷ files) name = if bytes_eq file.0 name then Held file.1 else holding files name

-- whether the call of this number is to fail
abbrev pub is_failing : List ℕ → ℕ → Bool
is_failing failing call = list_any (λ k. k == call) failing

-- what is given of a file: as many bytes as there is room for
abbrev pub given_of : Holding → Bool → ℕ → ℕ → Result (List ℕ) FileFault
given_of Untold failing at room = Err faults.Missing
given_of Absent failing at room = Err faults.Missing
given_of (Held bytes) true at room = Err faults.Failed
given_of (Held bytes) false at room = Ok (take room (drop at bytes))

-- what a call gives of a file, from a place on
abbrev pub given : FileStore → List ℕ → ℕ → ℕ → Result (List ℕ) FileFault
given store name at room = given_of (holding store.held name) (is_failing store.failing store.calls) at room

-- how many bytes that is
abbrev pub answer_of : Result (List ℕ) FileFault → Result ℕ FileFault
answer_of (Ok bytes) = Ok (length bytes)
answer_of (Err e) = Err e

-- the buffer with them at its front
abbrev pub placed : Result (List ℕ) FileFault → List ℕ → List ℕ
placed (Ok bytes) buffer = bytes ++ drop (length bytes) buffer
placed (Err e) buffer = buffer

-- the files after the call
abbrev pub after_take : FileStore → Result (List ℕ) FileFault → FileStore
after_take store (Ok bytes) = record store { calls = counted store.calls }
after_take store (Err faults.Missing) = record store { calls = counted store.calls }
after_take store (Err faults.Failed) = record store { calls = counted store.calls; faults = counted store.faults }

-- what was written, how much there is room for, the numbers of the calls that are to fail, and how many came and failed
pub record SinkStore : Type 0 where
  pub held : List ℕ
  pub room : ℕ
  pub failing : List ℕ
  pub calls : ℕ
  pub faults : ℕ

-- a write fails where it is to, and where nothing is left of the room
abbrev pub fails : SinkStore → Bool
fails sink = (sink.room - length sink.held == 0) || is_failing sink.failing sink.calls

-- how many bytes of a piece are written: as many as there is room for
abbrev pub accepted : SinkStore → List ℕ → Result ℕ Failed
accepted sink piece = if fails sink then Err (record {}) else Ok (min (length piece) (sink.room - length sink.held))

-- the sink after the call
abbrev pub after_write : SinkStore → List ℕ → SinkStore
after_write sink piece =
    if fails sink then record sink { calls = counted sink.calls; faults = counted sink.faults }
    else record sink { held = sink.held ++ take (sink.room - length sink.held) piece; calls = counted sink.calls }
