-- What a control packet that is taken keeps of the envelope: the own session id, and the wraps that were accepted.
use Rattle.std.proofs.Common.{◌≡◌, ℕ, Bool, true, false, List, [], ◌∷◌, refl, ap, ◌∙◌}
use Rattle.std.specs.Prelude.{if◌then◌else◌}
use Rattle.std.proofs.lemmas.Bool.{false≢true}
use Rattle.vpn_base.specs.declared.names.Freshness.{Freshness}
use Rattle.vpn_base.specs.declared.names.Freshness.TheVariants.{Fresh, Zero, Old, Seen, Late}
use Rattle.vpn_base.specs.declared.names.Moment.{Moment}
use Rattle.vpn_base.specs.declared.names.Sid.{Sid}
use Rattle.opcode_codec.specs.ControlText.{ControlForm}
use Rattle.packet_ids.specs.LongFreshness.{LongHistory, long_freshness}
use Rattle.reliable_send.specs.Sending.{Numbered, Sending, sent}
use Rattle.tls_crypt.specs.declared.wrapping.Opened.{Opened}
use Rattle.control_link.specs.Calls.{received}
use Rattle.control_link.specs.Envelope.{EnvelopeHistory, with_used}
use Rattle.control_link.specs.Messages.{Flush, Head, flushed, is_spent, send_ack, send_pieces}
use Rattle.peer_table.specs.KeySessions.{Session}
use Rattle.peer_lines.specs.Calls.{packet_taken}
use Rattle.session_control.specs.internal.Taking.{IsFreshIn, is_fresh}
use Rattle.session_state.proofs.Lines.{received_keeps}

accepted_if : (b : Bool) (x y : Flush) (a : LongHistory) → x.envelope.accepted ≡ a → y.envelope.accepted ≡ a → (if b then x else y).envelope.accepted ≡ a
accepted_if true x y a first second = first
accepted_if false x y a first second = second

pieces_accepted : (head : Head) (ids : List ℕ) (now : ℕ) (pieces : List Numbered) (s : Sending) (h : EnvelopeHistory) → (send_pieces head ids now pieces s h).envelope.accepted ≡ h.accepted
unfolding send_pieces
pieces_accepted head ids now [] s h = refl
pieces_accepted head ids now (p ∷ pieces) s h = accepted_if (is_spent h) _ _ h.accepted refl (pieces_accepted head [] now pieces (sent s p.0 now) (with_used h))

ack_accepted : (head : Head) (ids : List ℕ) (s : Sending) (h : EnvelopeHistory) → (send_ack head ids s h).envelope.accepted ≡ h.accepted
unfolding send_ack
ack_accepted head [] s h = refl
ack_accepted head (id ∷ ids) s h = accepted_if (is_spent h) _ _ h.accepted refl refl

flushed_accepted : (head : Head) (ids : List ℕ) (now : ℕ) (pieces : List Numbered) (s : Sending) (h : EnvelopeHistory) → (flushed head ids now pieces s h).envelope.accepted ≡ h.accepted
unfolding flushed
flushed_accepted head ids now [] s h = ack_accepted head ids s h
flushed_accepted head ids now (p ∷ pieces) s h = pieces_accepted head ids now (p ∷ pieces) s h

received_accepted : (s : Session) (h : EnvelopeHistory) (v : ControlForm) (remote : Sid) (now : ℕ) → (received s.link h v remote now).envelope.accepted ≡ h.accepted
unfolding received
received_accepted s h v remote now = flushed_accepted _ _ now _ _ h

pub packet_accepted : (s : Session) (h : EnvelopeHistory) (v : ControlForm) (remote : Sid) (now : ℕ) → (packet_taken s h v remote now).envelope.accepted ≡ h.accepted
unfolding packet_taken
packet_accepted s h v remote now = received_accepted s h v remote now

pub packet_own : (s : Session) (h : EnvelopeHistory) (v : ControlForm) (remote : Sid) (now : ℕ) → (packet_taken s h v remote now).envelope.own ≡ h.own
unfolding packet_taken
packet_own s h v remote now = (received_keeps s.link h v remote now).own

-- the packet's wrap is fresh still
pub still_fresh : (s : Session) (h : EnvelopeHistory) (v : ControlForm) (remote : Sid) (now : ℕ) (o : Opened) (moment : Moment) → IsFreshIn h o moment →
    IsFreshIn (packet_taken s h v remote now).envelope o moment
still_fresh s h v remote now o moment fresh = ap (λ (a : LongHistory). long_freshness a o.time o.id moment) (packet_accepted s h v remote now) ∙ fresh

pub fresh_of : (kind : Freshness) → is_fresh kind ≡ true → kind ≡ Fresh
fresh_of Fresh is = refl
fresh_of Zero is = absurd (false≢true is)
fresh_of Old is = absurd (false≢true is)
fresh_of Seen is = absurd (false≢true is)
fresh_of Late is = absurd (false≢true is)
