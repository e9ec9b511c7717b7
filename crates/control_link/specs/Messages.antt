-- The control packets that a key session sends in one step, and the datagrams that they are wrapped to.
use Rattle.std.specs.Prelude.{ℕ, ◌+◌, ◌-◌, ◌^◌, ◌==◌, Bool, true, false, List, [], ◌∷◌, length, Some, None, if◌then◌else◌}
use Rattle.vpn_base.specs.declared.names.Sid.{Sid}
use Rattle.opcode_codec.specs.declared.opcodes.Opcode.{Opcode}
use Rattle.opcode_codec.specs.declared.opcodes.Opcode.TheVariants.{Control, Ack}
use Rattle.opcode_codec.specs.FirstByte.{first_byte}
use Rattle.opcode_codec.specs.ControlText.{ControlForm, control_text, sent_remote}
use Rattle.reliable_send.specs.Sending.{Sending, Numbered, sent}
use Rattle.control_link.specs.Envelope.{EnvelopeHistory, with_used}

-- a control packet before it is wrapped
pub record Message : Type 0 where
  pub op : Opcode
  pub form : ControlForm

-- what all control packets of a key session have in common: the key id, the opcode of piece 0, which is a reset, and the session id of the other end
pub record Head : Type 0 where
  pub kid : ℕ
  pub first : Opcode
  pub remote : Sid

-- a piece, with the ids that it acknowledges
abbrev pub piece_message : Head → List ℕ → Numbered → Message
piece_message head ids p = record {
  op = if p.0 == 0 then head.first else Control;
  form = record { ids = ids; remote = sent_remote (length ids) head.remote; id = Some p.0; payload = p.1 };
}

-- an acknowledgement alone
abbrev pub ack_message : Head → List ℕ → Message
ack_message head ids = record {
  op = Ack;
  form = record { ids = ids; remote = sent_remote (length ids) head.remote; id = None; payload = [] };
}

-- the datagram of a control packet under the next wrap id
abbrev pub datagram : Head → EnvelopeHistory → Message → List ℕ
datagram head h m = h.wraps (first_byte m.op head.kid) h.own.0 (h.last + 1) h.time (control_text m.form)

-- whether every wrap id was used
abbrev pub is_spent : EnvelopeHistory → Bool
is_spent h = h.last == 2 ^ 32 - 1

-- what came of sending: the sending side and the envelope after it, the datagrams in order, and whether the wrap ids ended before the last of them
pub record Flush : Type 0 where
  pub sending : Sending
  pub envelope : EnvelopeHistory
  pub datagrams : List (List ℕ)
  pub spent : Bool

-- nothing more is sent
abbrev pub sent_none : Bool → Sending → EnvelopeHistory → Flush
sent_none spent s h = record { sending = s; envelope = h; datagrams = []; spent = spent }

-- a datagram in front of what follows
abbrev pub behind : List ℕ → Flush → Flush
behind d f = record f { datagrams = d ∷ f.datagrams }

-- pieces in order, each wrapped under the next wrap id and counted as sent at this moment, as far as wrap ids reach; the acknowledgements ride on the first
unfoldable pub send_pieces : Head → List ℕ → ℕ → List Numbered → Sending → EnvelopeHistory → Flush
send_pieces head ids now [] s h = sent_none false s h
send_pieces head ids now (p ∷ pieces) s h =
    if is_spent h then sent_none true s h
    else behind (datagram head h (piece_message head ids p)) (send_pieces head [] now pieces (sent s p.0 now) (with_used h))

-- acknowledgements alone, where there are any
unfoldable pub send_ack : Head → List ℕ → Sending → EnvelopeHistory → Flush
send_ack head [] s h = sent_none false s h
send_ack head (id ∷ ids) s h =
    if is_spent h then sent_none true s h
    else behind (datagram head h (ack_message head (id ∷ ids))) (sent_none false s (with_used h))

-- the acknowledgements ride on the first piece, and go alone where none is sent
unfoldable pub flushed : Head → List ℕ → ℕ → List Numbered → Sending → EnvelopeHistory → Flush
flushed head ids now [] s h = send_ack head ids s h
flushed head ids now (p ∷ pieces) s h = send_pieces head ids now (p ∷ pieces) s h
