-- A session that changes its stage, or is closed.
use Rattle.std.proofs.Common.{List, [], ◌∷◌, Option, Some, None}
use Rattle.gcm_seal.specs.declared.gcm.AnyGcm.{AnyGcm}
use Rattle.packet_ids.specs.Window.{Kept}
use Rattle.data_channel.specs.declared.channel.DataChannel.{DataChannel}
use Rattle.peer_table.specs.KeySessions.{Keys, Session, closed, keys_of}
use Rattle.peer_lines.specs.declared.channels.SessionChannels.{SessionChannels}
use Rattle.peer_lines.specs.Standing.{DataStands, IsBeforeWith, IsKeyedBy, StandsFor}

before_closed : (window : Option Kept) (s : Session) → IsBeforeWith window s → IsBeforeWith window (closed s)
before_closed None s before = before
before_closed (Some w) s before = record { read = before.read; received = before.received; sealed = before.sealed }

keyed_closed : (channel : DataChannel AnyGcm) (s : Session) (keys : Option Keys) → IsKeyedBy channel s keys → IsKeyedBy channel (closed s) keys
keyed_closed channel s None stands = stands
keyed_closed channel s (Some keys) stands = stands

data_closed : (window : Option Kept) (packets : List (DataChannel AnyGcm)) (s : Session) → DataStands window packets s → DataStands window packets (closed s)
data_closed window [] s stands = before_closed window s stands
data_closed window (channel ∷ more) s stands = keyed_closed channel s (keys_of s.stage) stands

pub closed_stands : (c : SessionChannels) (s : Session) → StandsFor c s → StandsFor c (closed s)
unfolding StandsFor
closed_stands c s stands = record {
  link = stands.link;
  plain = stands.plain;
  read_inside = stands.read_inside;
  longest = stands.longest;
  packets = data_closed c.window c.packets.items s stands.packets;
  room = stands.room;
}
