-- The session of one client in code, and the clients for which it stands.
use Rattle.std.specs.Prelude.{◌≡◌, ◌≢◌, ◌≤◌, ℕ, suc, ◌+◌, Bool, true, false, List, [], ◌∷◌, Option, Some, None, slice_get}
use Rattle.vpn_base.specs.declared.names.Timers.{Timers}
use Rattle.tls_crypt.specs.Packets.{Directions, Wrapping}
use Rattle.tls_crypt.specs.Wrapped.{wrapped}
use Rattle.control_link.specs.Envelope.{EnvelopeStands}
use Rattle.peer_table.specs.KeySessions.{Session, has_keys, in_transition, kid_of, retiring}
use Rattle.peer_table.specs.Peer.{Peer}
use Rattle.key_sessions.specs.Slots.{IsWhole, SlotsStand, newest_number}
use Rattle.peer_lines.specs.declared.blank.SessionBlank.{SessionBlank}
use Rattle.peer_lines.specs.Standing.{BlankFor, StandsFor}
use Rattle.session_state.specs.declared.session.SessionState.{SessionState}

-- ---- what holds of every key session of a client

-- the link of the session of this number has its key id, and of one that has keys something was read
pub record IsSound (number : ℕ) (s : Session) : Type 0 where
  pub kid : s.link.kid ≡ kid_of number
  pub read : has_keys s ≡ true → s.read ≢ 0

-- the same of each of these sessions, of which the first has this number
abbrev pub EachIsSound : ℕ → List Session → Type 0
EachIsSound n [] = Unit {0}
EachIsSound n (s ∷ ss) = IsSound n s × EachIsSound (suc n) ss

-- the wrap ids ended on none of these sessions' links
abbrev pub EachGoesOn : List Session → Type 0
EachGoesOn [] = Unit {0}
EachGoesOn (s ∷ ss) = (s.link.spent ≡ false) × EachGoesOn ss

-- the same, where no link has ended the client
abbrev pub EachGoesOnUnless : Bool → List Session → Type 0
EachGoesOnUnless true ss = Unit {0}
EachGoesOnUnless false ss = EachGoesOn ss

-- ---- the whole

-- envelope and slots stand for those of the client, all texts are there, and the rest is equal
pub record IsPeerOf {W : Type 0} (wrapped : W → Wrapping) (s : SessionState W) (p : Peer) : Type 0 where
  pub role_is : s.role ≡ p.role
  pub timers_are : s.timers ≡ p.timers
  pub own_is : s.own ≡ p.envelope.own
  pub envelope_stands : EnvelopeStands wrapped s.envelope p.envelope
  pub remote_is : s.remote ≡ p.remote
  pub name_is : s.name ≡ p.name
  pub asks_is : s.asks_push ≡ p.asks_push
  pub slots_stand : SlotsStand StandsFor s.slots p.sessions
  pub whole : IsWhole s.slots
  pub sound : EachIsSound 0 p.sessions
  pub each_goes_on : EachGoesOnUnless s.is_over p.sessions

-- the same as one word, which callers do not look into
unfoldable pub PeerStands : {W : Type 0} → (W → Wrapping) → SessionState W → Peer → Type 0
PeerStands wrapped s p = IsPeerOf wrapped s p

-- the same where control packets are wrapped under a static key
abbrev pub SessionStands : SessionState Directions → Peer → Type 0
SessionStands s p = PeerStands (λ d. wrapped d.writes) s p

-- ---- what the calls need of a session

-- a blank that is there is one for sessions with these timers
abbrev pub BlankIsFor : Option SessionBlank → Timers → Type 0
BlankIsFor None timers = Unit {0}
BlankIsFor (Some b) timers = BlankFor b timers

-- it did not end, all texts are there, and a key session may begin with its timers
pub record IsGoingOn {W : Type 0} (s : SessionState W) : Type 0 where
  pub not_over : s.is_over ≡ false
  pub whole : IsWhole s.slots
  pub some_ids : 1 ≤ s.timers.win
  pub some_timeout : 1 ≤ s.timers.timeout
  pub short_timeout : s.timers.timeout ≤ 60
  pub blank_for : BlankIsFor s.blank s.timers

-- the same as one word
unfoldable pub GoesOn : {W : Type 0} → SessionState W → Type 0
GoesOn s = IsGoingOn s

-- how many key sessions it ever had
unfoldable pub count : {W : Type 0} → SessionState W → ℕ
count s = newest_number s.slots + 1

-- the moment in milliseconds at which it last closed what may no longer be used
abbrev pub since : {W : Type 0} → SessionState W → ℕ
since s = s.since.0

-- ---- time

-- the one before the last with keys is open while it may be used, which it is at no moment before the one at which it was closed
abbrev pub UsableAreOpen : Peer → ℕ → Type 0
UsableAreOpen p at = (n : ℕ) (s : Session) → retiring p.sessions ≡ Some n → slice_get p.sessions n ≡ Some s →
    in_transition p.timers at p.sessions ≡ true → s.is_open ≡ true

-- a session that was closed as no longer usable is not usable later: the one before the last with keys is open, or it could no longer be
-- used at this moment
unfoldable pub RetiredBy : ℕ → Peer → Type 0
RetiredBy at p = (n : ℕ) (s : Session) → retiring p.sessions ≡ Some n → slice_get p.sessions n ≡ Some s → s.is_open ≡ false →
    in_transition p.timers at p.sessions ≡ false
