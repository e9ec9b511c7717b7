-- A text that one end writes, and the control packets that carry its pieces.
use Rattle.std.specs.Prelude.{◌≡◌, ℕ, List, [], ◌∷◌, Option, Some, None, slice_get}
use Rattle.std.specs.List.{flat_map}
use Rattle.opcode_codec.specs.ControlText.{ControlForm}
use Rattle.reliable_send.specs.Sending.{cut}
use Rattle.reliable_recv.specs.Receiving.{Arrival}

-- the pieces of a text that was offered in these parts: piece 0 has no bytes
abbrev pub pieces_of : List (List ℕ) → List (List ℕ)
pieces_of parts = [] ∷ flat_map cut parts

-- the piece of this id is the payload
abbrev pub CarriesPiece : List (List ℕ) → Option ℕ → List ℕ → Type 0
CarriesPiece pieces None payload = Unit {0}
CarriesPiece pieces (Some id) payload = slice_get pieces id ≡ Some payload

-- a packet that has a packet id carries the piece of that id
abbrev pub Carries : List (List ℕ) → ControlForm → Type 0
Carries pieces v = CarriesPiece pieces v.id v.payload

-- what packets bring: those without a packet id bring nothing
abbrev pub arrival_of : Option ℕ → List ℕ → List Arrival
arrival_of None payload = []
arrival_of (Some id) payload = (id, payload) ∷ []

-- what all of these bring, in order
abbrev pub arrivals_of : List ControlForm → List Arrival
arrivals_of packets = flat_map (λ v. arrival_of v.id v.payload) packets
