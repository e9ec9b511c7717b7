-- The receiving side of the reliable layer: what was taken, how much of it was read, and which acknowledgements wait
-- (OpenVPN network protocol, reliability layer of the control channel).
use Rattle.std.specs.Prelude.{ℕ, zero, suc, ◌+◌, ◌==◌, ◌||◌, nat_lt, nat_le, min, List, [], ◌∷◌, ◌++◌, length, take, drop, Option, Some, None, is_some, if◌then◌else◌}
use Rattle.std.specs.List.{concat}
use Rattle.reliable_recv.specs.declared.receiving.Got.{Got}
use Rattle.reliable_recv.specs.declared.receiving.Got.TheVariants.{New, Repeat, Ahead}

-- the id of a control packet, and its payload
abbrev pub Arrival : Type 0
Arrival = ℕ × List ℕ

-- everything that was taken, in order; how many payloads were read, which are those of the ids below that number; the ids that wait to be acknowledged, in order
pub record Receiving : Type 0 where
  pub taken : List Arrival
  pub read : ℕ
  pub waiting : List ℕ

-- nothing was taken yet
abbrev pub begun : Receiving
begun = record { taken = []; read = 0; waiting = [] }

-- the payload of the first of these packets that has the id
abbrev pub payload_of : List Arrival → ℕ → Option (List ℕ)
payload_of [] id = None
payload_of (a ∷ arrivals) id = if a.0 == id then Some a.1 else payload_of arrivals id

-- what comes of a packet with this id: too far ahead of what was read, here already, or new
abbrev pub got : Receiving → ℕ → Got
got r id =
    if nat_le (r.read + 12) id then Ahead
    else if nat_lt id r.read || is_some (payload_of r.taken id) then Repeat
    else New

-- a packet that is not too far ahead is taken and waits to be acknowledged, be it new or repeated
abbrev pub taken_as : Got → Receiving → ℕ → List ℕ → Receiving
taken_as Ahead r id payload = r
taken_as g r id payload = record r { taken = r.taken ++ (id, payload) ∷ []; waiting = r.waiting ++ id ∷ [] }

-- after a packet came
unfoldable pub put_into : Receiving → ℕ → List ℕ → Receiving
put_into r id payload = taken_as (got r id) r id payload

-- the payload that is read next, if it is here
abbrev pub next_payload : Receiving → Option (List ℕ)
next_payload r = payload_of r.taken r.read

-- after that payload was read, if it is there
abbrev pub read_as : Option (List ℕ) → Receiving → Receiving
read_as None r = r
read_as (Some payload) r = record r { read = r.read + 1 }

-- after the next payload was read, and nothing changes where it is not here
unfoldable pub after_next : Receiving → Receiving
after_next r = read_as (next_payload r) r

-- the ids that are given out to be acknowledged: so many of those that wait, the oldest first, and at most 8
abbrev pub acks_of : Receiving → ℕ → List ℕ
acks_of r most = take (min most 8) r.waiting

-- after they were given out
unfoldable pub after_acks : Receiving → ℕ → Receiving
after_acks r most = record r { waiting = drop (min most 8) r.waiting }

-- ---- the text that was read

-- a payload, if it is here, and those behind it
abbrev pub in_order_with : Option (List ℕ) → List (List ℕ) → List (List ℕ)
in_order_with None rest = []
in_order_with (Some payload) rest = payload ∷ rest

-- the payloads from this id on, up to the first that is not here; no more than so many
unfoldable pub in_order : ℕ → List Arrival → ℕ → List (List ℕ)
in_order zero taken id = []
in_order (suc most) taken id = in_order_with (payload_of taken id) (in_order most taken (id + 1))

-- the payloads of the ids 0, 1, 2, .. up to the first that is not here
abbrev pub payloads : List Arrival → List (List ℕ)
payloads taken = in_order (length taken) taken 0

-- the text: the payloads of the ids 1, 2, 3, .. once the id 0 is here, which carries no text
unfoldable pub text : List Arrival → List ℕ
text taken = concat (drop 1 (payloads taken))

-- of packets that come one after the other, those that are taken: the id lies less than 12 above the least that is not here yet
abbrev pub taken_after : List Arrival → Arrival → List Arrival
taken_after taken a = if nat_lt a.0 (length (payloads taken) + 12) then taken ++ a ∷ [] else taken

-- what is taken of all of them, behind what was taken before
unfoldable pub all_taken : List Arrival → List Arrival → List Arrival
all_taken taken [] = taken
all_taken taken (a ∷ arrivals) = all_taken (taken_after taken a) arrivals

-- the text that is read of packets that come one after the other
unfoldable pub text_of : List Arrival → List ℕ
text_of arrivals = text (all_taken [] arrivals)
