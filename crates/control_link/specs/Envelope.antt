-- The wrapping of one end's control packets: the wrap ids that it has used, and those of the other end that it has accepted.
use Rattle.std.specs.Prelude.{◌≡◌, ℕ, ◌+◌}
use Rattle.vpn_base.specs.declared.names.Moment.{Moment}
use Rattle.vpn_base.specs.declared.names.Sid.{Sid}
use Rattle.packet_ids.specs.LongFreshness.{LongHistory, long_begun, long_recorded}
use Rattle.packet_ids.specs.LongWindows.{LongStands}
use Rattle.tls_crypt.specs.Packets.{Wrapping}
use Rattle.control_link.specs.declared.envelope.Envelope.{Envelope}

-- how this end wraps, its session id, the time of all its wraps in seconds, the last wrap id that it has used, and everything of the other end that was accepted
pub record EnvelopeHistory : Type 0 where
  pub wraps : Wrapping
  pub own : Sid
  pub time : ℕ
  pub last : ℕ
  pub accepted : LongHistory

-- no wrap id was used, and nothing was accepted
abbrev pub envelope_begun : Wrapping → Sid → ℕ → ℕ → ℕ → EnvelopeHistory
envelope_begun wraps own time width seconds = record { wraps = wraps; own = own; time = time; last = 0; accepted = long_begun width seconds }

-- a pair of time and id of the other end was accepted
abbrev pub with_accepted : EnvelopeHistory → ℕ → ℕ → Moment → EnvelopeHistory
with_accepted h time id now = record h { accepted = long_recorded h.accepted time id now }

-- the next wrap id was used
abbrev pub with_used : EnvelopeHistory → EnvelopeHistory
with_used h = record h { last = h.last + 1 }

-- what an envelope keeps of a history: the last id, and a window that stands for what was accepted
pub record IsEnvelopeOf {W : Type 0} (wrapped : W → Wrapping) (env : Envelope W) (h : EnvelopeHistory) : Type 0 where
  pub wraps : wrapped env.wrap ≡ h.wraps
  pub own : env.own ≡ h.own
  pub time : env.time ≡ h.time
  pub last : env.ids ≡ h.last
  pub window : LongStands env.window h.accepted

-- the same as one word, which callers do not look into
unfoldable pub EnvelopeStands : {W : Type 0} → (W → Wrapping) → Envelope W → EnvelopeHistory → Type 0
EnvelopeStands wrapped env h = IsEnvelopeOf wrapped env h
