-- Reading the text of a link: what is here in order, and what was read.
use Rattle.std.specs.Prelude.{◌≡◌, ℕ, zero, suc, ◌+◌, ◌<◌, List, [], ◌∷◌, drop, Option, Some, None, IsSome}
use Rattle.std.specs.List.{concat}
use Rattle.reliable_recv.specs.Receiving.{Arrival, Receiving, next_payload, payload_of, taken_after}
use Rattle.reliable_recv.specs.Runs.{IsRead}
use Rattle.control_link.specs.Links.{Link, read_of}
use Rattle.control_link.specs.Calls.{after_text, next_text}

-- a payload of the text, if it is here, and those behind it
abbrev pub texts_with : Option (List ℕ) → List (List ℕ) → List (List ℕ)
texts_with None rest = []
texts_with (Some payload) rest = payload ∷ rest

-- the payloads of the text that are here, in order; no more than so many
unfoldable pub texts_here : ℕ → Link → List (List ℕ)
texts_here zero l = []
texts_here (suc most) l = texts_with (next_text l) (texts_here most (after_text l))

-- the link once the next payload was looked for, or once those behind it were read
abbrev pub read_with : Option (List ℕ) → Link → Link → Link
read_with None l rest = l
read_with (Some payload) l rest = rest

-- the link after they were read
unfoldable pub read_here : ℕ → Link → Link
read_here zero l = l
read_here (suc most) l = read_with (next_text l) (after_text l) (read_here most (after_text l))

-- ---- what was read

-- the text of a link that was read: the payloads that were read but that of packet 0, joined
abbrev pub text_read_of : Link → List ℕ
text_read_of l = concat (drop 1 (read_of l))

-- no packet that was taken has an id of this number or above
abbrev pub AreBelow : ℕ → List Arrival → Type 0
AreBelow most taken = (id : ℕ) → IsSome (payload_of taken id) → id < most

-- everything that is here in order was read: the next payload is not here, no packet lies 12 or more ahead, and no acknowledgement waits
pub record IsReadUp (r : Receiving) : Type 0 where
  pub read : IsRead r
  pub none : next_payload r ≡ None
  pub near : AreBelow (r.read + 12) r.taken
  pub acknowledged : r.waiting ≡ []

-- nothing waits on a link to be read
abbrev pub NothingWaits : Link → Type 0
NothingWaits l = IsReadUp l.receiving

-- what was taken once a packet came; one without a packet id is not taken
abbrev pub taken_with : List Arrival → Option ℕ → List ℕ → List Arrival
taken_with taken None payload = taken
taken_with taken (Some id) payload = taken_after taken (id, payload)
