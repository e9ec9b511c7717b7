-- What no call of a control link changes: the own session id of the envelope, and the link's key id. A link that did not end the client
-- goes on.
use Rattle.std.proofs.Common.{◌≡◌, ℕ, Bool, true, false, List, [], ◌∷◌, Some, None, refl, sym}
use Rattle.std.specs.Prelude.{if◌then◌else◌}
use Rattle.std.proofs.lemmas.Option.{none-some}
use Rattle.vpn_base.specs.declared.names.Sid.{Sid}
use Rattle.opcode_codec.specs.ControlText.{ControlForm}
use Rattle.reliable_send.specs.Sending.{Numbered, Sending, is_full, offered, sent}
use Rattle.control_link.specs.declared.link.LinkEnd.TheVariants.{TextFull, WrapSpent}
use Rattle.control_link.specs.Calls.{Outcome, received, said, ticked, unchanged, with_ready}
use Rattle.control_link.specs.Envelope.{EnvelopeHistory, with_used}
use Rattle.control_link.specs.Links.{Link}
use Rattle.control_link.specs.Messages.{Flush, Head, flushed, is_spent, send_ack, send_pieces}

own_if : (b : Bool) (x y : Flush) (own : Sid) → x.envelope.own ≡ own → y.envelope.own ≡ own → (if b then x else y).envelope.own ≡ own
own_if true x y own first second = first
own_if false x y own first second = second

pieces_own : (head : Head) (ids : List ℕ) (now : ℕ) (pieces : List Numbered) (s : Sending) (h : EnvelopeHistory) → (send_pieces head ids now pieces s h).envelope.own ≡ h.own
unfolding send_pieces
pieces_own head ids now [] s h = refl
pieces_own head ids now (p ∷ pieces) s h = own_if (is_spent h) _ _ h.own refl (pieces_own head [] now pieces (sent s p.0 now) (with_used h))

ack_own : (head : Head) (ids : List ℕ) (s : Sending) (h : EnvelopeHistory) → (send_ack head ids s h).envelope.own ≡ h.own
unfolding send_ack
ack_own head [] s h = refl
ack_own head (id ∷ ids) s h = own_if (is_spent h) _ _ h.own refl refl

flushed_own : (head : Head) (ids : List ℕ) (now : ℕ) (pieces : List Numbered) (s : Sending) (h : EnvelopeHistory) → (flushed head ids now pieces s h).envelope.own ≡ h.own
unfolding flushed
flushed_own head ids now [] s h = ack_own head ids s h
flushed_own head ids now (p ∷ pieces) s h = pieces_own head ids now (p ∷ pieces) s h

not_spent : (spent : Bool) → (if spent then Some WrapSpent else None) ≡ None → spent ≡ false
not_spent true is = absurd (none-some WrapSpent (sym is))
not_spent false is = refl

-- what a call of a link keeps
pub record Keeps (l : Link) (h : EnvelopeHistory) (o : Outcome) : Type 0 where
  pub own : o.envelope.own ≡ h.own
  pub kid : o.link.kid ≡ l.kid
  pub goes_on : l.spent ≡ false → o.end ≡ None → o.link.spent ≡ false

pub ready_keeps : (l : Link) (h : EnvelopeHistory) (ids : List ℕ) (remote : Sid) (now : ℕ) → Keeps l h (with_ready l h ids remote now)
ready_keeps l h ids remote now = record {
  own = flushed_own _ ids now _ l.sending h;
  kid = refl;
  goes_on = λ spent end. not_spent _ end;
}

pub ticked_keeps : (l : Link) (h : EnvelopeHistory) (remote : Sid) (now : ℕ) → Keeps l h (ticked l h remote now)
unfolding ticked
ticked_keeps l h remote now = record {
  own = flushed_own _ [] now _ l.sending h;
  kid = refl;
  goes_on = λ spent end. not_spent _ end;
}

pub received_keeps : (l : Link) (h : EnvelopeHistory) (v : ControlForm) (remote : Sid) (now : ℕ) → Keeps l h (received l h v remote now)
unfolding received
received_keeps l h v remote now = record {
  own = flushed_own _ _ now _ _ h;
  kid = refl;
  goes_on = λ spent end. not_spent _ end;
}

said_by : (l : Link) (h : EnvelopeHistory) (bytes : List ℕ) (remote : Sid) (now : ℕ) (full : Bool) →
    Keeps l h (if full then unchanged l h (Some TextFull) else with_ready (record l { sending = offered l.sending bytes }) h [] remote now)
said_by l h bytes remote now true = record { own = refl; kid = refl; goes_on = λ spent end. spent }
said_by l h bytes remote now false = record {
  own = flushed_own _ [] now _ _ h;
  kid = refl;
  goes_on = λ spent end. not_spent _ end;
}

pub said_keeps : (l : Link) (h : EnvelopeHistory) (bytes : List ℕ) (remote : Sid) (now : ℕ) → Keeps l h (said l h bytes remote now)
unfolding said
said_keeps l h bytes remote now = said_by l h bytes remote now (is_full l.sending bytes)
