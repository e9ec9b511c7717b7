-- A client whose session 0 has begun.
use Rattle.std.specs.Prelude.{◌≡◌, ℕ, true, false, [], ◌∷◌, None}
use Rattle.vpn_base.specs.declared.names.Role.{Role}
use Rattle.vpn_base.specs.declared.names.Timers.{Timers}
use Rattle.control_link.specs.Envelope.{EnvelopeHistory}
use Rattle.peer_table.specs.KeySessions.{Opening, Session}
use Rattle.peer_table.specs.Peer.{Peer}

-- a session with key id 0 that began at this moment
pub record IsFirst (moment : ℕ) (s : Session) : Type 0 where
  pub began : s.began ≡ moment
  pub is_open : s.is_open ≡ true
  pub stage : s.stage ≡ Opening
  pub kid : s.link.kid ≡ 0
  pub spent : s.link.spent ≡ false

-- the client that has just this session
abbrev pub peer_of : Role → Timers → EnvelopeHistory → Session → Peer
peer_of role timers h s = record {
  role = role;
  timers = timers;
  envelope = h;
  remote = None;
  name = None;
  asks_push = false;
  sessions = s ∷ [];
}
