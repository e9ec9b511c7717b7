-- A client's session as a core knows it: nothing is read before the key exchange.
use Rattle.std.proofs.Common.{◌≡◌, ℕ, zero, suc, true, false, List, [], ◌∷◌, Option, Some, None, refl, sym, subst, ◌∙◌}
use Rattle.std.specs.Prelude.{is_some, slice_get}
use Rattle.std.proofs.lemmas.Bool.{false≢true}
use Rattle.std.proofs.lemmas.Option.{none-some}
use Rattle.tls_crypt.specs.Packets.{Directions}
use Rattle.peer_table.specs.Exchange.{NothingReadBefore}
use Rattle.peer_table.specs.KeySessions.{Session, Stage, has_keys, keys_of, newest, newest_session}
use Rattle.peer_table.specs.KeySessions as sessions
use Rattle.peer_table.specs.Peer.{Peer}
use Rattle.key_sessions.specs.declared.slot.Slot.{Slot}
use Rattle.key_sessions.specs.declared.slot.SlotStage.{SlotStage}
use Rattle.key_sessions.specs.declared.slot.SlotStage.TheVariants as slot_stages
use Rattle.key_sessions.specs.Slots.{EachStands, HasTextAt, IsStage, IsWhole, SlotStands, SlotsStand, StandsIfThere, all_slots, is_open_stage}
use Rattle.data_channel.specs.declared.channel.DataChannel.{DataChannel}
use Rattle.gcm_seal.specs.declared.gcm.AnyGcm.{AnyGcm}
use Rattle.packet_ids.specs.Window.{Kept}
use Rattle.peer_lines.specs.declared.channels.SessionChannels.{SessionChannels}
use Rattle.peer_lines.specs.Standing.{DataStands, IsKeyedBy, StandsFor}
use Rattle.peer_session.specs.declared.session.PeerSession.{PeerSession}
use Rattle.peer_session.specs.Client.{ClientStands}
use Rattle.session_state.specs.Standing.{PeerStands}

no_keys : (s : Session) → has_keys s ≡ false → keys_of s.stage ≡ None
no_keys s none = by_stage s.stage none
  where
    by_stage : (stage : Stage) → sessions.is_keyed stage ≡ false → keys_of stage ≡ None
    by_stage sessions.Opening none = refl
    by_stage sessions.Named none = refl
    by_stage (sessions.Keyed keys) none = absurd (false≢true (sym none))

-- channels of a session without keys have read nothing
unread_by : (window : Option Kept) (packets : List (DataChannel AnyGcm)) (s : Session) → keys_of s.stage ≡ None → DataStands window packets s → s.read ≡ 0
unread_by None [] s none stands = absurd stands
unread_by (Some w) [] s none stands = stands.read
unread_by window (channel ∷ more) s none stands = by_keys (keys_of s.stage) none stands
  where
    by_keys : (keys : Option sessions.Keys) → keys ≡ None → IsKeyedBy channel s keys → s.read ≡ 0
    by_keys None none stands = absurd stands
    by_keys (Some keys) none stands = absurd (none-some keys (sym none))

channels_unread : (c : SessionChannels) (s : Session) → has_keys s ≡ false → StandsFor c s → s.read ≡ 0
unfolding StandsFor
channels_unread c s none stands = unread_by c.window c.packets.items s (no_keys s none) stands.packets

-- a slot of a session without keys is open
open_by : (stage : SlotStage) (s : Stage) → sessions.is_keyed s ≡ false → IsStage stage s → is_open_stage stage ≡ true
open_by (slot_stages.Opening k) s none is = refl
open_by (slot_stages.Named k) s none is = refl
open_by (slot_stages.Keyed k) s none is = refl
open_by (slot_stages.Closed cipher) sessions.Opening none is = absurd is
open_by (slot_stages.Closed cipher) sessions.Named none is = absurd is
open_by (slot_stages.Closed cipher) (sessions.Keyed keys) none is = absurd (false≢true (sym none))

slot_unread : (slot : Slot SessionChannels) (s : Session) → has_keys s ≡ false → SlotStands StandsFor slot s → HasTextAt (Some slot) → s.read ≡ 0
slot_unread slot s none stands has = by_text slot.text (has ∙ open_by slot.stage s.stage none stands.stage) stands.text
  where
    by_text : (text : Option SessionChannels) → is_some text ≡ true → StandsIfThere StandsFor text s → s.read ≡ 0
    by_text None some there = absurd (false≢true some)
    by_text (Some c) some there = channels_unread c s none there

each_unread : (slots : List (Slot SessionChannels)) (ss : List Session) (n : ℕ) (s : Session) → EachStands StandsFor slots ss → slice_get ss n ≡ Some s → has_keys s ≡ false
    → HasTextAt (slice_get slots n) → s.read ≡ 0
each_unread [] [] n s each at none has = absurd (none-some s at)
each_unread [] (x ∷ ss) n s each at none has = absurd each
each_unread (slot ∷ slots) [] n s each at none has = absurd each
each_unread (slot ∷ slots) (x ∷ ss) zero s each at none has =
    let same : x ≡ s = cc at in slot_unread slot s none (subst (SlotStands StandsFor slot) same each.0) has
each_unread (slot ∷ slots) (x ∷ ss) (suc n) s each at none has = each_unread slots ss n s each.1 at none has

pub nothing_read_before : (s : PeerSession Directions) (p : Peer) → ClientStands s p → NothingReadBefore p.sessions
unfolding ClientStands PeerStands SlotsStand IsWhole
nothing_read_before s p stands x at none =
    each_unread (all_slots s.state.slots) p.sessions (newest p.sessions) x stands.session.slots_stand.each at none (stands.session.whole (newest p.sessions))
