-- What a data channel keeps of its history, and what its calls leave in the bytes that they were lent.
use Rattle.std.specs.Prelude.{◌≡◌, ℕ, List, length, drop, Option, Some, None, Result, Ok, Err}
use Rattle.vpn_base.specs.declared.names.Role.{Role}
use Rattle.vpn_base.specs.declared.names.Role.TheVariants.{Server, Client}
use Rattle.gcm_seal.specs.AnyGcm.{key_of}
use Rattle.gcm_seal.specs.declared.gcm.AnyGcm.{AnyGcm}
use Rattle.gcm_seal.specs.Gcm.{gcm}
use Rattle.packet_ids.specs.Freshness.{History}
use Rattle.packet_ids.specs.Window.{Stands}
use Rattle.peer_table.specs.KeySessions.{Keys}
use Rattle.sealed_packet.specs.SealedPacket.{Sealing}
use Rattle.data_channel.specs.declared.channel.DataChannel.{DataChannel}
use Rattle.data_channel.specs.declared.channel.DataFault.{DataFault}
use Rattle.data_channel.specs.declared.channel.DataFault.TheVariants.{NotSealed, Stale}
use Rattle.data_channel.specs.Channels.{Channel, channel_of}

-- the one for this role
abbrev pub by_role : {X : Type 0} → X → X → Role → X
by_role client server Client = client
by_role client server Server = server

-- its role, ciphers for both directions, both ids of its packets, a window that stands for what was accepted, and the last id
pub record IsChannelOf {C : Type 0} (seals : C → Sealing) (channel : DataChannel C) (c : Channel) : Type 0 where
  pub role : channel.role ≡ c.role
  pub sealing : (role : Role) → seals (by_role channel.client channel.server role).cipher ≡ (c.of_role role).sealing
  pub implicit : (role : Role) → (by_role channel.client channel.server role).implicit ≡ (c.of_role role).implicit
  pub kid : channel.head.kid ≡ c.kid
  pub peer_id : channel.head.peer_id ≡ c.peer_id
  pub received : Stands channel.window c.received
  pub sealed : channel.ids ≡ c.sealed

-- the same as one word, which callers do not look into
unfoldable pub ChannelStands : {C : Type 0} → (C → Sealing) → DataChannel C → Channel → Type 0
ChannelStands seals channel c = IsChannelOf seals channel c

-- the same for the channel of a session's keys and key id, whatever the role that it was made with: everything of the other end that
-- was accepted, and the last id sealed
abbrev pub KeysStand : {C : Type 0} → (C → Sealing) → DataChannel C → Keys → ℕ → History → ℕ → Type 0
KeysStand seals channel keys kid received sealed = ChannelStands seals channel (channel_of channel.role keys kid received sealed)

-- the same for a cipher that negotiation finds
abbrev pub GcmStands : DataChannel AnyGcm → Channel → Type 0
GcmStands channel c = ChannelStands (λ g. gcm (key_of g)) channel c

-- the same for the channel of a session's keys
abbrev pub GcmKeysStand : DataChannel AnyGcm → Keys → ℕ → History → ℕ → Type 0
GcmKeysStand channel keys kid received sealed = KeysStand (λ g. gcm (key_of g)) channel keys kid received sealed

-- the length of the inner packet, which stands behind the first 24 bytes, or the refusal
abbrev pub TellsInner : Result ℕ DataFault → List ℕ → Result (List ℕ) DataFault → Type 0
TellsInner (Ok size) bytes (Ok inner) = (size ≡ length inner) × (drop 24 bytes ≡ inner)
TellsInner (Err fault) bytes (Err wanted) = fault ≡ wanted
TellsInner _ bytes _ = ⊥

-- behind the first 24 bytes stands what was opened, be its id stale
abbrev pub ShowsInner : List ℕ → Option (ℕ × List ℕ) → Type 0
ShowsInner bytes None = Unit {0}
ShowsInner bytes (Some o) = drop 24 bytes ≡ o.1

-- no byte has changed where nothing opened
abbrev pub IsUnchanged : Result ℕ DataFault → List ℕ → List ℕ → Type 0
IsUnchanged (Ok size) before after = Unit {0}
IsUnchanged (Err (Stale kind id greatest)) before after = Unit {0}
IsUnchanged (Err NotSealed) before after = after ≡ before
