-- How a call leaves a link, once everything that was pending has been sent.
use Rattle.std.proofs.Common.{◌≡◌, ℕ, Bool, true, false, List, [], ◌++◌, Option, Some, None, Result, if◌then◌else◌, ap, sym, subst, ◌∙◌}
use Rattle.std.specs.Result.{is_err}
use Rattle.std.proofs.lemmas.List.{append-nil}
use Rattle.packet_ids.specs.declared.sending.Spent.{Spent}
use Rattle.vpn_base.specs.declared.address.Addr.{Addr}
use Rattle.vpn_base.specs.declared.names.Sid.{Sid}
use Rattle.vpn_links.specs.Actions.{Contents, Datagram, Holds}
use Rattle.opcode_codec.specs.ControlText.{ControlForm}
use Rattle.reliable_send.specs.Sending.{Numbered, Sending, is_full, offered}
use Rattle.reliable_send.specs.Sides.{Side, Stands}
use Rattle.reliable_recv.specs.Receiving.{Receiving, acks_of, after_acks}
use Rattle.reliable_recv.specs.Sides as recv_sides
use Rattle.tls_crypt.specs.Packets.{Wrapping}
use Rattle.control_link.specs.declared.envelope.Envelope.{Envelope}
use Rattle.control_link.specs.declared.sending.Route.{Route}
use Rattle.control_link.specs.declared.link.LinkEnd.{LinkEnd}
use Rattle.control_link.specs.declared.link.LinkEnd.TheVariants.{TextFull, WrapSpent}
use Rattle.control_link.specs.Envelope.{EnvelopeHistory, EnvelopeStands}
use Rattle.control_link.specs.Messages.{Flush, Head, flushed}
use Rattle.control_link.specs.internal.Sending.{Sent, head_in}
use Rattle.control_link.specs.Links.{IsLinkOf, KeptLink, Link, LinkStands}
use Rattle.control_link.specs.Calls.{Left, Outcome, after_flush, datagrams_to, head_of, put_if, received, said, sending_after, unchanged, with_ready}

-- nothing has changed, but perhaps the room of the outbox
pub left_alone : {W : Type 0} (wrapped : W → Wrapping) (k : KeptLink) (env : Envelope W) (before after : Contents) (to : Addr) (l : Link) (h : EnvelopeHistory) (end : Option LinkEnd)
    → LinkStands k l → EnvelopeStands wrapped env h → Holds after before.effects before.staged → Left wrapped k env before after to (unchanged l h end)
left_alone wrapped k env before after to l h end stands seals same =
    record { link = stands; envelope = seals; outbox = (same.0, same.1 ∙ sym (append-nil before.staged)) }

-- the link after a flush
flushed_stands : (k : KeptLink) (l : Link) (f : Flush) → k.conn ≡ l.conn → k.kid ≡ l.kid → k.first ≡ l.first → recv_sides.Stands k.receiving l.receiving → Stands k.sending f.sending → k.spent ≡ f.spent
    → LinkStands k (record l { sending = f.sending; spent = f.spent })
unfolding LinkStands
flushed_stands k l f conn kid first receiving sending spent =
    record { conn = conn; kid = kid; first = first; sending = sending; receiving = receiving; spent = spent }

-- the same from an outbox that held the same
pub left_from : {W : Type 0} (wrapped : W → Wrapping) (k : KeptLink) (env : Envelope W) (start before after : Contents) (to : Addr) (o : Outcome)
    → Holds before start.effects start.staged → Left wrapped k env before after to o → Left wrapped k env start after to o
left_from wrapped k env start before after to o same left = record {
  link = left.link;
  envelope = left.envelope;
  outbox = (left.outbox.0 ∙ same.0, left.outbox.1 ∙ ap (λ (staged : List Datagram). staged ++ datagrams_to to o.datagrams) same.1);
}

-- everything that was pending was sent
pub left_by_flush : {W : Type 0} (wrapped : W → Wrapping) (k : KeptLink) (env : Envelope W) (before after : Contents) (r : Route) (l : Link) (ids : List ℕ) (now : ℕ) (ps : List Numbered) (s : Sending) (h : EnvelopeHistory) (result : Result (Unit {0}) Spent)
    → k.conn ≡ l.conn → k.kid ≡ l.kid → k.first ≡ l.first → r.kid ≡ l.kid → r.first ≡ l.first → recv_sides.Stands k.receiving l.receiving → k.spent ≡ is_err result
    → Sent wrapped k.sending env before after r (flushed (head_in r) ids now ps s h) result
    → Left wrapped k env before after r.to (after_flush l (flushed (head_of l r.remote) ids now ps s h))
left_by_flush {W} wrapped k env before after r l ids now ps s h result conn kid first route_kid route_first receiving spent sent_so =
    let head : head_in r ≡ head_of l r.remote = λ i. record { kid = route_kid i; first = route_first i; remote = r.remote } in
    let moved = subst (λ (a : Head). Sent wrapped k.sending env before after r (flushed a ids now ps s h) result) head sent_so in
    record {
      link = flushed_stands k l (flushed (head_of l r.remote) ids now ps s h) conn kid first receiving moved.0 (spent ∙ moved.3);
      envelope = moved.1;
      outbox = moved.2;
    }

-- the end of a flush
pub end_by_flush : {W : Type 0} (wrapped : W → Wrapping) (k : KeptLink) (env : Envelope W) (before after : Contents) (r : Route) (l : Link) (ids : List ℕ) (now : ℕ) (ps : List Numbered) (s : Sending) (h : EnvelopeHistory) (result : Result (Unit {0}) Spent)
    → r.kid ≡ l.kid → r.first ≡ l.first → Sent wrapped k.sending env before after r (flushed (head_in r) ids now ps s h) result
    → (after_flush l (flushed (head_of l r.remote) ids now ps s h)).end ≡ (if is_err result then Some WrapSpent else None)
end_by_flush {W} wrapped k env before after r l ids now ps s h result route_kid route_first sent_so =
    let head : head_in r ≡ head_of l r.remote = λ i. record { kid = route_kid i; first = route_first i; remote = r.remote } in
    let moved = subst (λ (a : Head). Sent wrapped k.sending env before after r (flushed a ids now ps s h) result) head sent_so in
    ap (λ (b : Bool). if b then Some WrapSpent else None) (sym moved.3)

-- what a link that stands has
pub sides_of : (k : KeptLink) (l : Link) → LinkStands k l → IsLinkOf k l
unfolding LinkStands
sides_of k l stands = stands

-- another sending side
pub with_sending : (k : KeptLink) (l : Link) (side : Side) (s : Sending) → LinkStands k l → Stands side s → LinkStands (record k { sending = side }) (record l { sending = s })
unfolding LinkStands
with_sending k l side s stands sending = record { conn = stands.conn; kid = stands.kid; first = stands.first; sending = sending; receiving = stands.receiving; spent = stands.spent }

-- another receiving side
pub with_receiving : (k : KeptLink) (l : Link) (side : recv_sides.Side) (r : Receiving) → LinkStands k l → recv_sides.Stands side r → LinkStands (record k { receiving = side }) (record l { receiving = r })
unfolding LinkStands
with_receiving k l side r stands receiving = record { conn = stands.conn; kid = stands.kid; first = stands.first; sending = stands.sending; receiving = receiving; spent = stands.spent }

-- ---- what the definitions of the calls come to

pub said_goes : (l : Link) (h : EnvelopeHistory) (bytes : List ℕ) (remote : Sid) (now : ℕ) → is_full l.sending bytes ≡ false → said l h bytes remote now ≡ with_ready (record l { sending = offered l.sending bytes }) h [] remote now
unfolding said
said_goes l h bytes remote now room = ap (λ (full : Bool). if full then unchanged l h (Some TextFull) else with_ready (record l { sending = offered l.sending bytes }) h [] remote now) room

pub said_full : (l : Link) (h : EnvelopeHistory) (bytes : List ℕ) (remote : Sid) (now : ℕ) → is_full l.sending bytes ≡ true → said l h bytes remote now ≡ unchanged l h (Some TextFull)
unfolding said
said_full l h bytes remote now full = ap (λ (b : Bool). if b then unchanged l h (Some TextFull) else with_ready (record l { sending = offered l.sending bytes }) h [] remote now) full

-- the link once a packet was put and its acknowledgements were counted
abbrev pub put_link : Link → Sid → ControlForm → Link
put_link l own v = record l { sending = sending_after l.sending own v; receiving = after_acks (put_if l.receiving v.id v.payload) 8 }

pub put_stands : (k : KeptLink) (l : Link) (own : Sid) (v : ControlForm) (sending : Side) (receiving : recv_sides.Side)
    → LinkStands k l → Stands sending (sending_after l.sending own v) → recv_sides.Stands receiving (after_acks (put_if l.receiving v.id v.payload) 8)
    → LinkStands (record k { sending = sending; receiving = receiving }) (put_link l own v)
unfolding LinkStands
put_stands k l own v sending receiving stands sends receives = record { conn = stands.conn; kid = stands.kid; first = stands.first; sending = sends; receiving = receives; spent = stands.spent }

pub received_goes : (l : Link) (h : EnvelopeHistory) (v : ControlForm) (remote : Sid) (now : ℕ) (ids : List ℕ) → ids ≡ acks_of (put_if l.receiving v.id v.payload) 8 →
    with_ready (put_link l h.own v) h ids remote now ≡ received l h v remote now
unfolding received
received_goes l h v remote now ids same = ap (λ (acks : List ℕ). with_ready (put_link l h.own v) h acks remote now) same
