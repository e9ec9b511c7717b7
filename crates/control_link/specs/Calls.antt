-- What the calls of a control link do, each as one function of what was before.
use Rattle.std.specs.Prelude.{◌≡◌, ℕ, ◌==◌, Bool, true, false, List, [], ◌∷◌, ◌++◌, map, Option, Some, None, Result, Ok, Err, if◌then◌else◌}
use Rattle.std.specs.Str.{bytes_eq}
use Rattle.vpn_base.specs.declared.errors.Or.{Or}
use Rattle.vpn_base.specs.declared.errors.Or.TheVariants.{Memory, Why}
use Rattle.vpn_base.specs.declared.address.Addr.{Addr}
use Rattle.vpn_base.specs.declared.names.Sid.{Sid}
use Rattle.vpn_links.specs.Actions.{Contents, Datagram, Holds}
use Rattle.opcode_codec.specs.ControlText.{ControlForm}
use Rattle.reliable_send.specs.Sending.{Sending, acked, due, is_full, offered, peer_started, ready}
use Rattle.reliable_recv.specs.declared.receiving.Got.{Got}
use Rattle.reliable_recv.specs.declared.receiving.Got.TheVariants.{Ahead}
use Rattle.reliable_recv.specs.Receiving as recv
use Rattle.tls_crypt.specs.Packets.{Wrapping}
use Rattle.control_link.specs.declared.envelope.Envelope.{Envelope}
use Rattle.control_link.specs.declared.link.LinkEnd.{LinkEnd}
use Rattle.control_link.specs.declared.link.LinkEnd.TheVariants.{TextFull, WrapSpent}
use Rattle.control_link.specs.Envelope.{EnvelopeHistory, EnvelopeStands}
use Rattle.control_link.specs.Messages.{Flush, Head, flushed}
use Rattle.control_link.specs.Links.{KeptLink, Link, LinkStands}

-- what came of a call: the link and the envelope after it, the control datagrams that it stages in order, and why it ended early, if it did
pub record Outcome : Type 0 where
  pub link : Link
  pub envelope : EnvelopeHistory
  pub datagrams : List (List ℕ)
  pub end : Option LinkEnd

-- nothing has changed
abbrev pub unchanged : Link → EnvelopeHistory → Option LinkEnd → Outcome
unchanged l h end = record { link = l; envelope = h; datagrams = []; end = end }

-- after pieces were sent
abbrev pub after_flush : Link → Flush → Outcome
after_flush l f = record {
  link = record l { sending = f.sending; spent = f.spent };
  envelope = f.envelope;
  datagrams = f.datagrams;
  end = if f.spent then Some WrapSpent else None;
}

-- what the plain texts of a link's control packets begin with
abbrev pub head_of : Link → Sid → Head
head_of l remote = record { kid = l.kid; first = l.first; remote = remote }

-- ---- text out

-- every piece that may be sent is sent
abbrev pub with_ready : Link → EnvelopeHistory → List ℕ → Sid → ℕ → Outcome
with_ready l h ids remote now = after_flush l (flushed (head_of l remote) ids now (ready l.sending) l.sending h)

-- text is offered, and every piece that may be sent is sent
unfoldable pub said : Link → EnvelopeHistory → List ℕ → Sid → ℕ → Outcome
said l h bytes remote now =
    if is_full l.sending bytes then unchanged l h (Some TextFull)
    else with_ready (record l { sending = offered l.sending bytes }) h [] remote now

-- ---- time

-- every piece that is due is sent again
unfoldable pub ticked : Link → EnvelopeHistory → Sid → ℕ → Outcome
ticked l h remote now = after_flush l (flushed (head_of l remote) [] now (due l.sending now) l.sending h)

-- ---- packets in

-- each of these ids is acknowledged
abbrev pub all_acked : List ℕ → Sending → Sending
all_acked [] s = s
all_acked (id ∷ ids) s = all_acked ids (acked s id)

-- acknowledgements count where the receiver's session id beside them is ours
abbrev pub counted_ids : Sid → Option Sid → List ℕ → List ℕ
counted_ids own None ids = []
counted_ids own (Some sid) ids = if bytes_eq sid.0 own.0 then ids else []

-- the packet 0 of the other end is here
abbrev pub started_by : Option ℕ → Sending → Sending
started_by None s = s
started_by (Some id) s = if id == 0 then peer_started s else s

-- the sending side after a packet
abbrev pub sending_after : Sending → Sid → ControlForm → Sending
sending_after s own v = started_by v.id (all_acked (counted_ids own v.remote v.ids) s)

-- the receiving side with a packet; one without a packet id is not taken
abbrev pub put_if : recv.Receiving → Option ℕ → List ℕ → recv.Receiving
put_if r None payload = r
put_if r (Some id) payload = recv.put_into r id payload

-- what came of it; one without a packet id is dropped
abbrev pub got_by : recv.Receiving → Option ℕ → Got
got_by r None = Ahead
got_by r (Some id) = recv.got r id

-- a packet has come: its acknowledgements count, its payload is put, every piece that may be sent is sent, and the packet is acknowledged on the first of these or alone
unfoldable pub received : Link → EnvelopeHistory → ControlForm → Sid → ℕ → Outcome
received l h v remote now =
    with_ready (record l { sending = sending_after l.sending h.own v; receiving = recv.after_acks (put_if l.receiving v.id v.payload) 8 })
    h (recv.acks_of (put_if l.receiving v.id v.payload) 8) remote now

-- ---- text in

-- payload 0 is read without being given
abbrev pub past_reset : recv.Receiving → recv.Receiving
past_reset r = if r.read == 0 then recv.after_next r else r

-- the next payload of the text, if it is here
abbrev pub given_by : recv.Receiving → Option (List ℕ)
given_by r = if r.read == 0 then None else recv.next_payload r

-- the receiving side once that payload was given
abbrev pub after_given : recv.Receiving → recv.Receiving
after_given r = if r.read == 0 then r else recv.after_next r

-- the next payload of the text of a link, if it is here
unfoldable pub next_text : Link → Option (List ℕ)
next_text l = given_by (past_reset l.receiving)

-- the link once that payload was given
unfoldable pub after_text : Link → Link
after_text l = record l { receiving = after_given (past_reset l.receiving) }

-- ---- what a call leaves and answers

-- at want of memory nothing has changed
abbrev pub unless_memory : {A : Type 0} → Result A (Or LinkEnd) → Outcome → Outcome → Outcome
unless_memory (Err Memory) outcome before = before
unless_memory _ outcome before = outcome

-- control datagrams that all go to one address
abbrev pub datagrams_to : Addr → List (List ℕ) → List Datagram
datagrams_to to datagrams = map (λ bytes. record { to = to; bytes = bytes }) datagrams

-- link, envelope and outbox are left as the outcome says
pub record Left {W : Type 0} (wrapped : W → Wrapping) (k : KeptLink) (env : Envelope W) (before after : Contents) (to : Addr) (outcome : Outcome) : Type 0 where
  pub link : LinkStands k outcome.link
  pub envelope : EnvelopeStands wrapped env outcome.envelope
  pub outbox : Holds after before.effects (before.staged ++ datagrams_to to outcome.datagrams)

-- the answer tells the outcome's end; want of memory tells nothing
abbrev pub Told : {A : Type 0} → Result A (Or LinkEnd) → Option LinkEnd → Type 0
Told (Ok a) end = end ≡ None
Told (Err Memory) end = Unit {0}
Told (Err (Why e)) end = end ≡ Some e

-- the same as `Told`, where an Ok tells what came of a packet
abbrev pub TellsGot : Result Got (Or LinkEnd) → Got → Option LinkEnd → Type 0
TellsGot (Ok g) wanted end = (g ≡ wanted) × (end ≡ None)
TellsGot (Err Memory) wanted end = Unit {0}
TellsGot (Err (Why e)) wanted end = end ≡ Some e

-- whether the answer is that the wrap ids are used up
abbrev pub tells_spent : {A : Type 0} → Result A (Or LinkEnd) → Bool
tells_spent (Err (Why WrapSpent)) = true
tells_spent _ = false
