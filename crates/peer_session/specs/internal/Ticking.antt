-- Time passes for a client's session: what holds along the way, and what is done in one step.
use Rattle.std.specs.Prelude.{◌≡◌, ◌≤◌, ℕ, suc, Bool, true, false, List, [], ◌∷◌, Option, Some, None, slice_get}
use Rattle.vpn_base.specs.declared.address.Addr.{Addr}
use Rattle.vpn_links.specs.Actions.{Contents}
use Rattle.tls_crypt.specs.Packets.{Wrapping}
use Rattle.key_sessions.specs.Slots.{newest_number, newest_stage, room}
use Rattle.peer_table.specs.Exchange.{session_closed}
use Rattle.peer_table.specs.KeySessions.{Session}
use Rattle.peer_table.specs.Outboxes.{Leaves}
use Rattle.peer_table.specs.Peer.{Outcome, Peer, answered}
use Rattle.peer_table.specs.Time.{Ticking, renewed, resent, resent_in, retired, staying}
use Rattle.peer_table.specs.declared.outcomes.Turn.{Turn}
use Rattle.peer_table.specs.declared.outcomes.Turn.TheVariants.{Going, Ignored, Named, Exchange, Over}
use Rattle.session_state.specs.declared.session.SessionState.{SessionState}
use Rattle.session_state.specs.Standing.{GoesOn, PeerStands}

-- whether a turn ends the client
abbrev pub is_end : Turn → Bool
is_end Going = false
is_end Ignored = false
is_end Named = false
is_end Exchange = false
is_end (Over cause) = true

-- all that a session needs to go on, whether or not it is over
unfoldable pub MayGoOn : {W : Type 0} → SessionState W → Type 0
MayGoOn s = GoesOn (record s { is_over = false })

-- the session and the outbox, which held this before, are left as the outcome says, and the turn is its answer
pub record HasDone {W : Type 0} (wrapped : W → Wrapping) (session : SessionState W) (turn : Turn) (before after : Contents) (to : Addr) (o : Outcome Turn) : Type 0 where
  pub left : Leaves (PeerStands wrapped) session before after to o
  pub answer : turn ≡ o.answer

-- how far the newest key session has come, and the memory for a next one, are as before
pub record KeepsNext {W : Type 0} (before after : SessionState W) : Type 0 where
  pub stage : newest_stage after.slots ≡ newest_stage before.slots
  pub number : newest_number after.slots ≡ newest_number before.slots
  pub place : room after.slots ≡ room before.slots
  pub blank : after.blank ≡ before.blank

-- ---- what is due is sent again

-- a session is open, and the wrap ids did not end on its link
abbrev pub IsOpenYet : Option Session → Type 0
IsOpenYet None = ⊥
IsOpenYet (Some s) = (s.is_open ≡ true) × (s.link.spent ≡ false)

-- so are the sessions of these numbers, each of which is greater than the one before it, and none of them less than the least
abbrev pub AreOpenYet : ℕ → List ℕ → List Session → Type 0
AreOpenYet least [] ss = Unit {0}
AreOpenYet least (n ∷ numbers) ss = (least ≤ n) × IsOpenYet (slice_get ss n) × AreOpenYet (suc n) numbers ss

-- in one session, unless it is the retired one
abbrev pub resent_unless : Bool → ℕ → ℕ → Outcome Turn → Outcome Turn
resent_unless true n at o = o
resent_unless false n at o = resent_in n at o (slice_get o.peer.sessions n)

-- ---- the whole

-- what is done once it is known whether the next session begins
abbrev pub gone_with : Peer → Ticking → Bool → Outcome Turn
gone_with p t renews = renewed t renews (session_closed (retired p t.at) (resent t.at (staying p (retired p t.at)) (answered p Going)))
