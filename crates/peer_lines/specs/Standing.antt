-- What a key session carries of its own, its control link, its unread plain text and its data channel, and the sessions for which that stands.
use Rattle.std.specs.Prelude.{◌≡◌, ℕ, ◌≤◌, Bool, true, false, List, [], ◌∷◌, length, drop, Option, Some, None, vec_capacity}
use Rattle.vpn_base.specs.declared.names.Timers.{Timers}
use Rattle.gcm_seal.specs.declared.gcm.AnyGcm.{AnyGcm}
use Rattle.packet_ids.specs.Freshness.{begun}
use Rattle.packet_ids.specs.Window.{Kept, Stands}
use Rattle.reliable_recv.specs.Receiving.{Arrival}
use Rattle.control_link.specs.Links.{BlankStands, LinkStands}
use Rattle.data_channel.specs.declared.channel.DataChannel.{DataChannel}
use Rattle.data_channel.specs.Standing.{GcmKeysStand}
use Rattle.peer_table.specs.KeySessions.{Keys, Session, keys_of}
use Rattle.peer_lines.specs.declared.channels.SessionChannels.{SessionChannels}
use Rattle.peer_lines.specs.declared.blank.SessionBlank.{SessionBlank}

-- ---- the data channel

-- a data channel is that of the session's keys
abbrev pub IsKeyedBy : DataChannel AnyGcm → Session → Option Keys → Type 0
IsKeyedBy channel s None = ⊥
IsKeyedBy channel s (Some keys) = GcmKeysStand channel keys s.link.kid s.received s.sealed

-- before there is a data channel nothing of the session was read, accepted or sealed
pub record IsBefore (w : Kept) (s : Session) : Type 0 where
  pub read : s.read ≡ 0
  pub received : Stands w s.received
  pub sealed : s.sealed ≡ 0

-- the window of a channel that is to come is there
abbrev pub IsBeforeWith : Option Kept → Session → Type 0
IsBeforeWith None s = ⊥
IsBeforeWith (Some w) s = IsBefore w s

-- the data channel, if it is there, or the window that it will be made over
abbrev pub DataStands : Option Kept → List (DataChannel AnyGcm) → Session → Type 0
DataStands window [] s = IsBeforeWith window s
DataStands window (channel ∷ more) s = IsKeyedBy channel s (keys_of s.stage)

-- ---- the whole

-- no payload that was taken is longer
abbrev pub NoneIsLonger : ℕ → List Arrival → Type 0
NoneIsLonger longest [] = Unit {0}
NoneIsLonger longest (a ∷ taken) = (length a.1 ≤ longest) × NoneIsLonger longest taken

-- its link and its data channel stand for those of the session, it holds the plain text that was not read, no payload is longer than it says,
-- and it has room for a data channel
pub record IsOfSession (c : SessionChannels) (s : Session) : Type 0 where
  pub link : LinkStands c.link s.link
  pub plain : c.plain.items ≡ drop s.read s.plain
  pub read_inside : s.read ≤ length s.plain
  pub longest : NoneIsLonger c.longest s.link.receiving.taken
  pub packets : DataStands c.window c.packets.items s
  pub room : 1 ≤ vec_capacity c.packets

-- the same as one word, which callers do not look into
unfoldable pub StandsFor : SessionChannels → Session → Type 0
StandsFor c s = IsOfSession c s

-- whether its data channel is there
abbrev pub is_there : List (DataChannel AnyGcm) → Bool
is_there [] = false
is_there (channel ∷ more) = true

-- the same of a session's channels
unfoldable pub has_data : SessionChannels → Bool
has_data c = is_there c.packets.items

-- ---- the memory of a session that is to come

-- a blank link and a window, for sessions with these timers
pub record IsBlankFor (b : SessionBlank) (timers : Timers) : Type 0 where
  pub link : BlankStands b.link timers.timeout
  pub window : Stands b.window (begun timers.win timers.win_secs)

-- the same as one word, which callers do not look into
unfoldable pub BlankFor : SessionBlank → Timers → Type 0
BlankFor b timers = IsBlankFor b timers
