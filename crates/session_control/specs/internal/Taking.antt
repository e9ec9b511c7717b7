-- What a control packet leaves that one key session of a client takes.
use Rattle.std.specs.Prelude.{◌≡◌, ◌++◌, ℕ, Bool, true, false, List, Option, Some, None, Result, Ok, Err}
use Rattle.vpn_base.specs.declared.address.Addr.{Addr}
use Rattle.vpn_base.specs.declared.errors.NoMemory.{NoMemory}
use Rattle.vpn_base.specs.declared.errors.Or.{Or}
use Rattle.vpn_base.specs.declared.errors.Or.TheVariants.{Memory, Why}
use Rattle.vpn_base.specs.declared.names.Freshness.{Freshness}
use Rattle.vpn_base.specs.declared.names.Freshness.TheVariants.{Fresh}
use Rattle.vpn_base.specs.declared.names.Moment.{Moment}
use Rattle.vpn_base.specs.declared.names.Role.{Role}
use Rattle.vpn_links.specs.Actions.{Contents, Holds}
use Rattle.packet_ids.specs.LongFreshness.{long_freshness}
use Rattle.tls_crypt.specs.Packets.{Wrapping}
use Rattle.tls_crypt.specs.declared.wrapping.Opened.{Opened}
use Rattle.control_link.specs.declared.envelope.Envelope.{Envelope}
use Rattle.control_link.specs.declared.link.LinkEnd.{LinkEnd}
use Rattle.control_link.specs.Calls.{datagrams_to}
use Rattle.control_link.specs.Envelope.{EnvelopeHistory, EnvelopeStands}
use Rattle.peer_table.specs.KeySessions.{Session}
use Rattle.peer_table.specs.Outboxes.{actions_of}
use Rattle.peer_table.specs.Places.{changed_at}
use Rattle.key_sessions.specs.declared.slots.Slots.{Slots}
use Rattle.key_sessions.specs.Slots.{SlotsStand}
use Rattle.peer_lines.specs.declared.channels.SessionChannels.{SessionChannels}
use Rattle.peer_lines.specs.Calls.{LineOutcome}
use Rattle.peer_lines.specs.Standing.{StandsFor}

-- whether it is fresh
abbrev pub is_fresh : Freshness → Bool
is_fresh Fresh = true
is_fresh kind = false

-- the wrap of a packet is fresh by all wraps that were accepted
abbrev pub IsFreshIn : EnvelopeHistory → Opened → Moment → Type 0
IsFreshIn h o now = long_freshness h.accepted o.time o.id now ≡ Fresh

-- slots, envelope and outbox are left as the outcome of a call in the session of this number says
pub record LineLeft {W : Type 0} (wrapped : W → Wrapping) (slots : Slots SessionChannels) (env : Envelope W) (before after : Contents) (to : Addr) (ss : List Session) (n : ℕ) (o : LineOutcome) : Type 0 where
  pub slots_stand : SlotsStand StandsFor slots (changed_at n (λ _. o.session) ss)
  pub envelope : EnvelopeStands wrapped env o.envelope
  pub outbox : (role : Role) → Holds after (before.effects ++ actions_of role o.doings) (before.staged ++ datagrams_to to o.datagrams)

-- they stand as before, and so does the outbox
pub record LineKept {W : Type 0} (wrapped : W → Wrapping) (slots : Slots SessionChannels) (env : Envelope W) (before after : Contents) (ss : List Session) (h : EnvelopeHistory) : Type 0 where
  pub slots_stand : SlotsStand StandsFor slots ss
  pub envelope : EnvelopeStands wrapped env h
  pub outbox : Holds after before.effects before.staged

-- the end that a link's answer tells, if it tells one, or want of memory
abbrev pub end_told : Result (Unit {0}) (Or LinkEnd) → Result (Option LinkEnd) NoMemory
end_told (Ok done) = Ok None
end_told (Err (Why end)) = Ok (Some end)
end_told (Err Memory) = Err (record {})

-- the same where there is no want of memory
abbrev pub end_only : Result (Unit {0}) (Or LinkEnd) → Option LinkEnd
end_only (Err (Why end)) = Some end
end_only _ = None
