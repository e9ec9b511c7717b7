-- What is written of a control packet is its message.
use Rattle.std.proofs.Common.{◌≡◌, ℕ, ◌==◌, false, List, [], length, Some, None, if◌then◌else◌, ap, sym, subst, ◌∙◌, refl}
use Rattle.std.proofs.lemmas.Bool.{ne_eqb}
use Rattle.vpn_base.specs.declared.names.Acks.{Acks}
use Rattle.vpn_base.specs.declared.names.Sid.{Sid}
use Rattle.vpn_base.specs.Acks.{acked}
use Rattle.opcode_codec.specs.declared.opcodes.Opcode.{Opcode}
use Rattle.opcode_codec.specs.declared.opcodes.Opcode.TheVariants.{SoftReset, Control, Ack, ClientReset, ServerReset, DataV2}
use Rattle.opcode_codec.specs.ControlText.{ControlForm, sent_form, sent_remote}
use Rattle.control_link.specs.Links.{IsReset}
use Rattle.control_link.specs.Messages.{Head, ack_message, piece_message}

-- the fields of a packet that has them
abbrev pub whole_form : Acks → Sid → ℕ → List ℕ → ControlForm
whole_form acks remote id payload =
    record { ids = acked acks; remote = sent_remote acks.count remote; id = Some id; payload = payload }

reset_form : (op : Opcode) → IsReset op → (acks : Acks) (remote : Sid) (id : ℕ) (payload : List ℕ) → sent_form op acks remote id payload ≡ whole_form acks remote id payload
reset_form SoftReset reset acks remote id payload = refl
reset_form ClientReset reset acks remote id payload = refl
reset_form ServerReset reset acks remote id payload = refl
reset_form Control reset acks remote id payload = elim reset [ ]
reset_form Ack reset acks remote id payload = elim reset [ ]
reset_form DataV2 reset acks remote id payload = elim reset [ ]

not_zero : (n : ℕ) → ¬ (n ≡ 0) → (n == 0) ≡ false
not_zero n other = ne_eqb n 0 other

-- the receiver's session id is there as the count says
counted_form : (acks : Acks) (remote : Sid) (id : ℕ) (payload : List ℕ) → length (acked acks) ≡ acks.count
    → whole_form acks remote id payload ≡ record { ids = acked acks; remote = sent_remote (length (acked acks)) remote; id = Some id; payload = payload }
counted_form acks remote id payload count =
    ap (λ (n : ℕ). record { ids = acked acks; remote = sent_remote n remote; id = Some id; payload = payload }) (sym count)

-- piece 0 is a reset
pub first_piece : (head : Head) (acks : Acks) (id : ℕ) (payload : List ℕ) (op : Opcode) → length (acked acks) ≡ acks.count → IsReset head.first
    → id ≡ 0 → op ≡ head.first → record { op = op; form = sent_form op acks head.remote id payload } ≡ piece_message head (acked acks) (id, payload)
first_piece head acks id payload op count reset none same =
    ap (λ (o : Opcode). record { op = o; form = sent_form o acks head.remote id payload }) same
    ∙ ap (λ (f : ControlForm). record { op = head.first; form = f }) (reset_form head.first reset acks head.remote id payload ∙ counted_form acks head.remote id payload count)
    ∙ subst (λ (n : ℕ). record { op = head.first; form = record { ids = acked acks; remote = sent_remote (length (acked acks)) head.remote; id = Some n; payload = payload } } ≡ piece_message head (acked acks) (n, payload)) (sym none) refl

-- every other one is a control packet
pub later_piece : (head : Head) (acks : Acks) (id : ℕ) (payload : List ℕ) (op : Opcode) → length (acked acks) ≡ acks.count
    → ¬ (id ≡ 0) → op ≡ Control → record { op = op; form = sent_form op acks head.remote id payload } ≡ piece_message head (acked acks) (id, payload)
later_piece head acks id payload op count other same =
    ap (λ (o : Opcode). record { op = o; form = sent_form o acks head.remote id payload }) same
    ∙ ap (λ (f : ControlForm). record { op = Control; form = f }) (counted_form acks head.remote id payload count)
    ∙ ap (λ (o : Opcode). record { op = o; form = record { ids = acked acks; remote = sent_remote (length (acked acks)) head.remote; id = Some id; payload = payload } }) (sym (ap (λ b. if b then head.first else Control) (not_zero id other)))

pub ack_alone : (head : Head) (acks : Acks) → length (acked acks) ≡ acks.count → record { op = Ack; form = sent_form Ack acks head.remote 0 [] } ≡ ack_message head (acked acks)
ack_alone head acks count =
    ap (λ (n : ℕ). record { op = Ack; form = record { ids = acked acks; remote = sent_remote n head.remote; id = None; payload = [] } }) (sym count)
