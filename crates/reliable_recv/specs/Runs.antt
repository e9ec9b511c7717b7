-- Whole runs: all that is in order is read, and its text.
use Rattle.std.specs.Prelude.{ℕ, zero, suc, ◌<◌, List, [], length, drop, IsSome}
use Rattle.std.specs.List.{concat}
use Rattle.reliable_recv.specs.Receiving.{Arrival, Receiving, in_order, payload_of, payloads}

-- what the payload of an id carries: that of the id 0 carries no text
abbrev pub carried : ℕ → List ℕ → List ℕ
carried zero payload = []
carried (suc id) payload = payload

-- the text of the payloads that were read
unfoldable pub text_read : Receiving → List ℕ
text_read r = concat (drop 1 (in_order r.read r.taken 0))

-- after everything that is in order was read
unfoldable pub all_read : Receiving → Receiving
all_read r = record r { read = length (payloads r.taken) }

-- every payload that was read had been taken
abbrev pub IsRead : Receiving → Type 0
IsRead r = (id : ℕ) → id < r.read → IsSome (payload_of r.taken id)

-- everything that was taken of some packets, all that is in order read, and no acknowledgement waiting
unfoldable pub reached : List Arrival → Receiving
reached taken = record { taken = taken; read = length (payloads taken); waiting = [] }
