-- A client's session as a core knows it.
use Rattle.std.specs.Prelude.{ℕ, Bool}
use Rattle.tls_crypt.specs.Packets.{Directions}
use Rattle.vpn_links.specs.declared.events.Kind.{Kind}
use Rattle.peer_table.specs.Peer.{Peer}
use Rattle.peer_table.specs.Unnamed.{NameComesFirst}
use Rattle.session_state.specs.Ready.{IsReady}
use Rattle.session_state.specs.Standing.{RetiredBy, SessionStands}
use Rattle.session_state.specs.Standing as standing
use Rattle.peer_session.specs.declared.session.PeerSession.{PeerSession}

-- the session stands for a client, what it closed as no longer usable is so from then on, and the client's name comes first
pub record IsClientOf (s : PeerSession Directions) (p : Peer) : Type 0 where
  pub session : SessionStands s.state p
  pub retired : RetiredBy (standing.since s.state) p
  pub named : NameComesFirst p

-- the same as one word
unfoldable pub ClientStands : PeerSession Directions → Peer → Type 0
ClientStands s p = IsClientOf s p

-- how many key sessions it ever had
abbrev pub count : PeerSession Directions → ℕ
count s = standing.count s.state

-- it did not end, and goes on
abbrev pub GoesOn : PeerSession Directions → Type 0
GoesOn s = standing.GoesOn s.state

-- the moment in milliseconds at which it last closed what may no longer be used
abbrev pub since : PeerSession Directions → ℕ
since s = standing.since s.state

-- whether the client is established makes no difference for what memory an event takes
abbrev pub IsReadyFor : PeerSession Directions → Kind → Bool → ℕ → ℕ → Type 0
IsReadyFor s kind established effects bytes = IsReady s.state kind effects bytes
