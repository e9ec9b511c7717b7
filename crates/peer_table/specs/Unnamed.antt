-- Before the name of the other end is known.
use Rattle.std.specs.Prelude.{◌≡◌, ℕ, List, [], ◌∷◌, Option, Some, None}
use Rattle.peer_table.specs.KeySessions.{Opening, Session}
use Rattle.peer_table.specs.Peer.{Peer}

-- each of these sessions is in its first stage
abbrev pub EachOpening : List Session → Type 0
EachOpening [] = Unit {0}
EachOpening (s ∷ ss) = (s.stage ≡ Opening) × EachOpening ss

-- where no name is known, each session is: none is prepared for its key exchange, and none has keys
abbrev pub OpeningUnlessNamed : Option (List ℕ) → List Session → Type 0
OpeningUnlessNamed None ss = EachOpening ss
OpeningUnlessNamed (Some name) ss = Unit {0}

-- the name comes first: until it is known, no session of this peer gets beyond its first stage
unfoldable pub NameComesFirst : Peer → Type 0
NameComesFirst p = OpeningUnlessNamed p.name p.sessions
