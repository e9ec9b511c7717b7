-- A call of the control link, as one of a session.
use Rattle.std.proofs.Common.{◌≡◌, ℕ, Bool, true, false, List, [], ◌∷◌, Option, Some, None, Result, Ok, Err, if◌then◌else◌, refl, sym, subst, ◌∙◌}
use Rattle.std.proofs.lemmas.List.{append-nil}
use Rattle.vpn_base.specs.declared.address.Addr.{Addr}
use Rattle.vpn_base.specs.declared.errors.Or.{Or}
use Rattle.vpn_base.specs.declared.errors.Or.TheVariants.{Memory, Why}
use Rattle.vpn_base.specs.declared.names.Sid.{Sid}
use Rattle.vpn_links.specs.Actions.{Contents}
use Rattle.gcm_seal.specs.declared.gcm.AnyGcm.{AnyGcm}
use Rattle.packet_ids.specs.Window.{Kept}
use Rattle.reliable_recv.specs.Receiving.{Arrival}
use Rattle.reliable_send.specs.Sending.{is_full, offered}
use Rattle.tls_crypt.specs.Packets.{Wrapping}
use Rattle.control_link.specs.declared.envelope.Envelope.{Envelope}
use Rattle.control_link.specs.declared.link.LinkEnd.{LinkEnd}
use Rattle.control_link.specs.declared.link.LinkEnd.TheVariants.{TextFull}
use Rattle.control_link.specs.Calls.{Left, Outcome, said, ticked, unchanged, unless_memory, with_ready}
use Rattle.control_link.specs.Envelope.{EnvelopeHistory}
use Rattle.control_link.specs.Links.{KeptLink, Link, LinkStands}
use Rattle.data_channel.specs.declared.channel.DataChannel.{DataChannel}
use Rattle.data_channel.specs.Standing.{GcmKeysStand}
use Rattle.peer_table.specs.KeySessions.{Keys, Session, keys_of}
use Rattle.peer_lines.specs.declared.channels.SessionChannels.{SessionChannels}
use Rattle.peer_lines.specs.Calls.{Leaves, linked, still, unless_wanting}
use Rattle.peer_lines.specs.Standing.{DataStands, IsBeforeWith, IsKeyedBy, IsOfSession, NoneIsLonger, StandsFor}

-- a link of the same key id on which the same was taken
pub record Frame (before after : Link) : Type 0 where
  pub kid : after.kid ≡ before.kid
  pub taken : after.receiving.taken ≡ before.receiving.taken

pub same_frame : (l : Link) → Frame l l
same_frame l = record { kid = refl; taken = refl }

frame_if : (l : Link) (b : Bool) (o p : Outcome) → Frame l o.link → Frame l p.link → Frame l (if b then o else p).link
frame_if l true o p f g = f
frame_if l false o p f g = g

pub frame_ready : (l : Link) (h : EnvelopeHistory) (remote : Sid) (now : ℕ) → Frame l (with_ready l h [] remote now).link
frame_ready l h remote now = record { kid = refl; taken = refl }

pub frame_ticked : (l : Link) (h : EnvelopeHistory) (remote : Sid) (now : ℕ) → Frame l (ticked l h remote now).link
unfolding ticked
frame_ticked l h remote now = record { kid = refl; taken = refl }

pub frame_said : (l : Link) (h : EnvelopeHistory) (bytes : List ℕ) (remote : Sid) (now : ℕ) → Frame l (said l h bytes remote now).link
unfolding said
frame_said l h bytes remote now =
    frame_if l (is_full l.sending bytes) (unchanged l h (Some TextFull)) (with_ready (record l { sending = offered l.sending bytes }) h [] remote now)
    (record { kid = refl; taken = refl }) (record { kid = refl; taken = refl })

-- ---- the session with another link

relinked : (channel : DataChannel AnyGcm) (s : Session) (l : Link) (keys : Option Keys) → l.kid ≡ s.link.kid → IsKeyedBy channel s keys → IsKeyedBy channel (record s { link = l }) keys
relinked channel s l None same stands = stands
relinked channel s l (Some keys) same stands = subst (λ (n : ℕ). GcmKeysStand channel keys n s.received s.sealed) (sym same) stands

before_relinked : (window : Option Kept) (s : Session) (l : Link) → IsBeforeWith window s → IsBeforeWith window (record s { link = l })
before_relinked None s l before = before
before_relinked (Some w) s l before = record { read = before.read; received = before.received; sealed = before.sealed }

pub data_relinked : (window : Option Kept) (packets : List (DataChannel AnyGcm)) (s : Session) (l : Link) → l.kid ≡ s.link.kid →
    DataStands window packets s → DataStands window packets (record s { link = l })
data_relinked window [] s l same stands = before_relinked window s l stands
data_relinked window (channel ∷ more) s l same stands = relinked channel s l (keys_of s.stage) same stands

stands_relinked : (c : SessionChannels) (k : KeptLink) (s : Session) (l : Link) → IsOfSession c s → Frame s.link l → LinkStands k l → IsOfSession (record c { link = k }) (record s { link = l })
stands_relinked c k s l stands frame link = record {
  link = link;
  plain = stands.plain;
  read_inside = stands.read_inside;
  longest = subst (λ (taken : List Arrival). NoneIsLonger c.longest taken) (sym frame.taken) stands.longest;
  room = stands.room;
  packets = data_relinked c.window c.packets.items s l frame.kid stands.packets;
}

pub linked_left : {W A : Type 0} (wrapped : W → Wrapping) (c : SessionChannels) (k : KeptLink) (env : Envelope W) (before after : Contents) (to : Addr)
    (s : Session) (h : EnvelopeHistory) (o : Outcome) (r : Result A (Or LinkEnd)) → IsOfSession c s → Frame s.link o.link →
    Left wrapped k env before after to (unless_memory r o (unchanged s.link h None)) →
    Leaves wrapped (record c { link = k }) env before after to (unless_wanting r (linked s o) (still s h))
unfolding StandsFor
linked_left wrapped c k env before after to s h o (Ok a) stands frame left = record {
  session = stands_relinked c k s o.link stands frame left.link;
  envelope = left.envelope;
  outbox = λ role. (left.outbox.0 ∙ sym (append-nil before.effects), left.outbox.1);
}
linked_left wrapped c k env before after to s h o (Err (Why e)) stands frame left = record {
  session = stands_relinked c k s o.link stands frame left.link;
  envelope = left.envelope;
  outbox = λ role. (left.outbox.0 ∙ sym (append-nil before.effects), left.outbox.1);
}
linked_left wrapped c k env before after to s h o (Err Memory) stands frame left = record {
  session = stands_relinked c k s s.link stands (same_frame s.link) left.link;
  envelope = left.envelope;
  outbox = λ role. (left.outbox.0 ∙ sym (append-nil before.effects), left.outbox.1);
}

-- a link stands for one on which the wrap ids did not end
pub still_open : (k : KeptLink) (l : Link) → LinkStands k l → l.spent ≡ false → k.spent ≡ false
unfolding LinkStands
still_open k l stands is = stands.spent ∙ is
