-- How a key session is told apart from all others, for those who look at both ends.
use Rattle.std.specs.Prelude.{ℕ, Option, Some, None, length, slice_get}
use Rattle.vpn_base.specs.declared.names.Place.{Place}
use Rattle.peer_table.specs.KeySessions.{Session, open_numbers, session_at, with_kid}
use Rattle.peer_table.specs.Peer.{Peer}

-- a key session by its connection, both session ids and its number
abbrev pub place_of : Peer → ℕ → Session → Place
place_of p n s = record { conn = s.link.conn; own = p.envelope.own; peer = p.remote; number = n }

-- the place of a session, if there is one
abbrev pub place_at : Peer → Option ℕ → Option Session → Option Place
place_at p (Some n) (Some s) = Some (place_of p n s)
place_at p n s = None

-- the place of the session of this number
unfoldable pub place_numbered : ℕ → Peer → Option Place
place_numbered n p = place_at p (Some n) (slice_get p.sessions n)

-- the place of the open session with this key id
unfoldable pub place : ℕ → Peer → Option Place
place kid p = place_at p (with_kid kid (open_numbers p.sessions)) (session_at p.sessions (with_kid kid (open_numbers p.sessions)))

-- the number of the session to which a control packet goes that is taken: the live one with its key id, or the next one
abbrev pub number_of : Peer → Option ℕ → ℕ
number_of p None = length p.sessions
number_of p (Some n) = n
