-- A client's session as a core knows it: until the client's name is known, no key session is beyond its first stage.
use Rattle.tls_crypt.specs.Packets.{Directions}
use Rattle.peer_table.specs.Peer.{Peer}
use Rattle.peer_table.specs.Unnamed.{NameComesFirst}
use Rattle.peer_session.specs.declared.session.PeerSession.{PeerSession}
use Rattle.peer_session.specs.Client.{ClientStands}

pub name_comes_first : (s : PeerSession Directions) (p : Peer) → ClientStands s p → NameComesFirst p
unfolding ClientStands
name_comes_first s p stands = stands.named
