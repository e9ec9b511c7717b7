-- A client's session accepts each wrap once.
use Rattle.std.proofs.Common.{◌≡◌, ◌≤◌, ◌-◌, ℕ, suc, ◌==◌, ◌&&◌, ◌||◌, Bool, true, false, List, [], ◌∷◌, ◌++◌, max, Option, Some, None, refl, sym, ap, ◌∙◌, subst, inl, inr, arith, nat_le, nat_lt, Result, Err}
use Rattle.std.specs.Prelude.{◌⊎◌, slice_get, if◌then◌else◌}
use Rattle.std.specs.List.{list_any}
use Rattle.std.specs.Str.{bytes_eq}
use Rattle.std.proofs.lemmas.Bool.{and_from, and_parts, eq-eqb, eqb-true, false≢true, leb-true, or_cases, or_left, or_right}
use Rattle.vpn_base.specs.declared.names.Cipher.{Cipher}
use Rattle.vpn_base.specs.declared.names.Draw.{Draw}
use Rattle.vpn_base.specs.declared.names.Freshness.{Freshness}
use Rattle.vpn_base.specs.declared.names.Freshness.TheVariants.{Fresh, Zero, Old, Seen, Late}
use Rattle.vpn_base.specs.declared.names.Moment.{Moment}
use Rattle.vpn_base.specs.declared.names.Policy.{Policy}
use Rattle.vpn_base.specs.declared.names.Sid.{Sid}
use Rattle.vpn_base.specs.FileName.{is_file_name}
use Rattle.vpn_links.specs.declared.events.Kind.{Kind}
use Rattle.vpn_links.specs.declared.events.Kind.TheVariants.{Datagram, EngineText, EnginePlain, EngineUp, EngineDown, DeviceIn, DeviceReady, File, Line, Tick, Halt}
use Rattle.key_method2.specs.declared.message.Km2.{Km2}
use Rattle.key_method2.specs.declared.message.Source.{Source}
use Rattle.opcode_codec.specs.ControlText.{ControlForm}
use Rattle.packet_ids.specs.Freshness as ids
use Rattle.packet_ids.specs.LongFreshness.{LongAccepted, LongHistory, at_time, is_none_of, latest, long_freshness, of_time}
use Rattle.reliable_send.specs.Sending.{Numbered, Sending, due, is_full, offered, sent}
use Rattle.control_link.specs.declared.link.LinkEnd.TheVariants.{TextFull}
use Rattle.control_link.specs.Calls as link
use Rattle.control_link.specs.Envelope.{EnvelopeHistory, with_used}
use Rattle.control_link.specs.Links.{Link}
use Rattle.control_link.specs.Messages.{Flush, Head, ack_message, behind, datagram, flushed, is_spent, piece_message, send_ack, send_pieces, sent_none}
use Rattle.peer_table.specs.declared.outcomes.Refused.{Refused}
use Rattle.peer_table.specs.declared.outcomes.Refused.TheVariants.{Replayed}
use Rattle.peer_table.specs.declared.outcomes.Turn.{Turn}
use Rattle.peer_table.specs.declared.outcomes.Turn.TheVariants.{Going}
use Rattle.peer_table.specs.ControlPackets.{Incoming, begins_next, begun_by, control_came, judged, kid_in, next_session, placed, sender, taken_by, with_next}
use Rattle.peer_table.specs.DataPackets as packets
use Rattle.peer_table.specs.EngineAnswers as engine
use Rattle.peer_table.specs.Exchange as exchange
use Rattle.peer_table.specs.KeySessions.{Keys, Session, Stage, keys_of, kid_of, live_with, newest_usable, session_at, usable_with}
use Rattle.peer_table.specs.KeySessions as sessions
use Rattle.peer_table.specs.Peer.{Outcome, Peer, answered, ready_sent_in, remote_of}
use Rattle.peer_table.specs.Time.{Ticking, all_closed, gone_by, is_late, renewed, renews, resent, resent_in, retired, staying, ticked, ticked_idle, ticked_late}
use Rattle.server_laws.specs.Wraps.{HasWrap, WrapsStay}

-- ---- a pair that was accepted is not fresh

abbrev has : ℕ → ℕ → List LongAccepted → Bool
has time id accepted = list_any (λ (e : LongAccepted). (e.time == time) && (e.id == id)) accepted

upto_latest : (time id : ℕ) (accepted : List LongAccepted) → has time id accepted ≡ true → time ≤ latest accepted
upto_latest time id [] is = absurd (false≢true is)
upto_latest time id (e ∷ accepted) is = go (or_cases ((e.time == time) && (e.id == id)) (has time id accepted) is) (upto_latest time id accepted)
  where
    go : (((e.time == time) && (e.id == id)) ≡ true) ⊎ (has time id accepted ≡ true) → (has time id accepted ≡ true → time ≤ latest accepted) →
        time ≤ max e.time (latest accepted)
    go (inl here) ih = let same = eqb-true e.time time (and_parts (e.time == time) (e.id == id) here).0 in omega (arith, same)
    go (inr there) ih = let le = ih there in omega (arith, le)

of_its_time : (time id : ℕ) (accepted : List LongAccepted) → has time id accepted ≡ true → ids.was_accepted (of_time time accepted) id ≡ true
of_its_time time id [] is = absurd (false≢true is)
of_its_time time id (e ∷ accepted) is = go (e.time == time) is (of_its_time time id accepted)
  where
    go : (b : Bool) → ((b && (e.id == id)) || has time id accepted) ≡ true → (has time id accepted ≡ true → ids.was_accepted (of_time time accepted) id ≡ true) →
        ids.was_accepted (if b then (e.id, e.moment) ∷ of_time time accepted else of_time time accepted) id ≡ true
    go true is ih = by (or_cases (e.id == id) (has time id accepted) is)
      where
        by : ((e.id == id) ≡ true) ⊎ (has time id accepted ≡ true) → ids.was_accepted ((e.id, e.moment) ∷ of_time time accepted) id ≡ true
        by (inl here) = or_left (e.id == id) (ids.was_accepted (of_time time accepted) id) here
        by (inr there) = or_right (e.id == id) (ids.was_accepted (of_time time accepted) id) (ih there)
    go false is ih = ih is

abbrev is_fresh : Freshness → Bool
is_fresh Fresh = true
is_fresh _ = false

seen_not_fresh : (a b c d : Bool) → c ≡ true → is_fresh (if a then Zero else if b then Old else if c then Seen else if d then Late else Fresh) ≡ false
seen_not_fresh true b c d is = refl
seen_not_fresh false true c d is = refl
seen_not_fresh false false true d is = refl
seen_not_fresh false false false d is = absurd (false≢true is)

id_not_fresh : (h : ids.History) (id : ℕ) (now : Moment) → ids.was_accepted h.accepted id ≡ true → is_fresh (ids.freshness h id now) ≡ false
unfolding ids.freshness
id_not_fresh h id now is =
    seen_not_fresh (id == 0) (nat_le h.width (ids.greatest_id h.accepted - id)) (ids.was_accepted h.accepted id) (ids.is_overtaken h.seconds h.accepted id now) is

pair_not_fresh : (a b c d : Bool) (f : Freshness) → b ≡ false → d ≡ false → is_fresh f ≡ false →
    is_fresh (if a then Zero else if b then Fresh else if c then Old else if d then Fresh else f) ≡ false
pair_not_fresh true b c d f none later is = refl
pair_not_fresh false true c d f none later is = absurd (false≢true (sym none))
pair_not_fresh false false true d f none later is = refl
pair_not_fresh false false false true f none later is = absurd (false≢true (sym later))
pair_not_fresh false false false false f none later is = is

some_of : (time id : ℕ) (accepted : List LongAccepted) → has time id accepted ≡ true → is_none_of accepted ≡ false
some_of time id [] is = absurd (false≢true is)
some_of time id (e ∷ accepted) is = refl

not_later : (a b : ℕ) → b ≤ a → nat_lt a b ≡ false
not_later a b le = go (nat_lt a b) refl
  where
    go : (c : Bool) → nat_lt a b ≡ c → nat_lt a b ≡ false
    go true e = absurd (let lt = leb-true (suc a) b e in let none : ⊥ = omega (arith, le, lt) in none)
    go false e = e

never_again : (h : LongHistory) (time id : ℕ) (now : Moment) → has time id h.accepted ≡ true → is_fresh (long_freshness h time id now) ≡ false
unfolding long_freshness
never_again h time id now is =
    pair_not_fresh (id == 0) (is_none_of h.accepted) (nat_lt time (latest h.accepted)) (nat_lt (latest h.accepted) time) (ids.freshness (at_time h time) id now)
    (some_of time id h.accepted is) (not_later (latest h.accepted) time (upto_latest time id h.accepted is))
    (id_not_fresh (at_time h time) id now (of_its_time time id h.accepted is))

pub not_again : (p : Peer) (time id : ℕ) (now : Moment) → HasWrap p time id → long_freshness p.envelope.accepted time id now ≡ Fresh → ⊥
not_again p time id now is fresh = false≢true (sym (never_again p.envelope.accepted time id now is) ∙ ap is_fresh fresh)

-- ---- one more is accepted

has_more : (time id : ℕ) (accepted : List LongAccepted) (e : LongAccepted) → has time id accepted ≡ true → has time id (accepted ++ e ∷ []) ≡ true
has_more time id [] e is = absurd (false≢true is)
has_more time id (x ∷ accepted) e is = go (or_cases ((x.time == time) && (x.id == id)) (has time id accepted) is) (has_more time id accepted e)
  where
    go : (((x.time == time) && (x.id == id)) ≡ true) ⊎ (has time id accepted ≡ true) → (has time id accepted ≡ true → has time id (accepted ++ e ∷ []) ≡ true) →
        has time id (x ∷ (accepted ++ e ∷ [])) ≡ true
    go (inl here) ih = or_left ((x.time == time) && (x.id == id)) (has time id (accepted ++ e ∷ [])) here
    go (inr there) ih = or_right ((x.time == time) && (x.id == id)) (has time id (accepted ++ e ∷ [])) (ih there)

has_last : (accepted : List LongAccepted) (e : LongAccepted) → has e.time e.id (accepted ++ e ∷ []) ≡ true
has_last [] e = or_left ((e.time == e.time) && (e.id == e.id)) false (and_from (e.time == e.time) (e.id == e.id) (eq-eqb e.time e.time refl) (eq-eqb e.id e.id refl))
has_last (x ∷ accepted) e = or_right ((x.time == e.time) && (x.id == e.id)) (has e.time e.id (accepted ++ e ∷ [])) (has_last accepted e)

-- ---- what a link sends leaves them

if_leaves : (b : Bool) (x y : Flush) (h : LongHistory) → x.envelope.accepted ≡ h → y.envelope.accepted ≡ h → (if b then x else y).envelope.accepted ≡ h
if_leaves true x y h one other = one
if_leaves false x y h one other = other

pieces_leave : (head : Head) (acks : List ℕ) (now : ℕ) (pieces : List Numbered) (s : Sending) (h : EnvelopeHistory) →
    (send_pieces head acks now pieces s h).envelope.accepted ≡ h.accepted
unfolding send_pieces
pieces_leave head acks now [] s h = refl
pieces_leave head acks now (p ∷ pieces) s h =
    if_leaves (is_spent h) (sent_none true s h) (behind (datagram head h (piece_message head acks p)) (send_pieces head [] now pieces (sent s p.0 now) (with_used h)))
    h.accepted refl (pieces_leave head [] now pieces (sent s p.0 now) (with_used h))

ack_leaves : (head : Head) (acks : List ℕ) (s : Sending) (h : EnvelopeHistory) → (send_ack head acks s h).envelope.accepted ≡ h.accepted
unfolding send_ack
ack_leaves head [] s h = refl
ack_leaves head (id ∷ acks) s h =
    if_leaves (is_spent h) (sent_none true s h) (behind (datagram head h (ack_message head (id ∷ acks))) (sent_none false s (with_used h))) h.accepted refl refl

flush_leaves : (head : Head) (acks : List ℕ) (now : ℕ) (pieces : List Numbered) (s : Sending) (h : EnvelopeHistory) →
    (flushed head acks now pieces s h).envelope.accepted ≡ h.accepted
unfolding flushed
flush_leaves head acks now [] s h = ack_leaves head acks s h
flush_leaves head acks now (p ∷ pieces) s h = pieces_leave head acks now (p ∷ pieces) s h

ready_leaves : (l : Link) (h : EnvelopeHistory) (acks : List ℕ) (remote : Sid) (now : ℕ) → (link.with_ready l h acks remote now).envelope.accepted ≡ h.accepted
ready_leaves l h acks remote now = flush_leaves (link.head_of l remote) acks now _ l.sending h

said_leaves : (l : Link) (h : EnvelopeHistory) (bytes : List ℕ) (remote : Sid) (now : ℕ) → (link.said l h bytes remote now).envelope.accepted ≡ h.accepted
unfolding link.said
said_leaves l h bytes remote now = go (is_full l.sending bytes)
  where
    go : (b : Bool) → (if b then link.unchanged l h (Some TextFull) else link.with_ready (record l { sending = offered l.sending bytes }) h [] remote now).envelope.accepted ≡ h.accepted
    go true = refl
    go false = ready_leaves (record l { sending = offered l.sending bytes }) h [] remote now

ticked_leaves : (l : Link) (h : EnvelopeHistory) (remote : Sid) (now : ℕ) → (link.ticked l h remote now).envelope.accepted ≡ h.accepted
unfolding link.ticked
ticked_leaves l h remote now = flush_leaves (link.head_of l remote) [] now (due l.sending now) l.sending h

received_leaves : (l : Link) (h : EnvelopeHistory) (form : ControlForm) (remote : Sid) (now : ℕ) → (link.received l h form remote now).envelope.accepted ≡ h.accepted
unfolding link.received
received_leaves l h form remote now = flush_leaves _ _ now _ _ h

-- ---- a control packet

-- its wrap is accepted, behind all that were
record Accepts (p : Peer) (i : Incoming) (q : Peer) : Type 0 where
  before : LongHistory
  same : before ≡ p.envelope.accepted
  accepted : q.envelope.accepted.accepted ≡ before.accepted ++ record { time = i.packet.time; id = i.packet.id; moment = i.moment } ∷ []

taken_accepts : (p q : Peer) (i : Incoming) (n : ℕ) (s : Option Session) → q.envelope.accepted ≡ p.envelope.accepted → Accepts p i (taken_by q i n s).peer
taken_accepts p q i n None same = record { before = q.envelope.accepted; same = same; accepted = refl }
taken_accepts p q i n (Some s) same =
    let o = link.received s.link q.envelope i.form (sender i) i.moment.0 in
    record { before = o.envelope.accepted; same = received_leaves s.link q.envelope i.form (sender i) i.moment.0 ∙ same; accepted = refl }

begun_accepts : (p : Peer) (i : Incoming) (b : Bool) → Accepts p i (begun_by p i b).peer
begun_accepts p i true =
    taken_accepts p (with_next i.next_conn i.moment.0 p) i _ (Some (next_session i.next_conn i.moment.0 p)) refl
begun_accepts p i false = record { before = p.envelope.accepted; same = refl; accepted = refl }

placed_accepts : (p : Peer) (i : Incoming) (n : Option ℕ) → Accepts p i (placed p i n).peer
placed_accepts p i (Some n) = taken_accepts p p i n (slice_get p.sessions n) refl
placed_accepts p i None = begun_accepts p i (begins_next p i)

accepts_has : (p : Peer) (i : Incoming) (q : Peer) → Accepts p i q → HasWrap q i.packet.time i.packet.id
accepts_has p i q a =
    ap (λ (all : List LongAccepted). has i.packet.time i.packet.id all) a.accepted
    ∙ has_last a.before.accepted (record { time = i.packet.time; id = i.packet.id; moment = i.moment })

accepts_stay : (p : Peer) (i : Incoming) (q : Peer) → Accepts p i q → WrapsStay p q
accepts_stay p i q a time id is =
    ap (λ (all : List LongAccepted). has time id all) a.accepted
    ∙ has_more time id a.before.accepted (record { time = i.packet.time; id = i.packet.id; moment = i.moment })
    (ap (λ (h : LongHistory). has time id h.accepted) a.same ∙ is)

abbrev Answer : Type 0
Answer = Outcome (Result Turn Refused)

abbrev replayed : Peer → Incoming → Answer
replayed p i = answered p (Err (Replayed i.packet.time i.packet.id))

judged_accepted : (p : Peer) (i : Incoming) (f : Freshness) → HasWrap (judged p i f).peer i.packet.time i.packet.id ⊎ (judged p i f ≡ replayed p i)
judged_accepted p i Fresh =
    let o = placed p i (live_with p.timers i.moment.0 p.sessions (kid_in i)) in
    inl (accepts_has p i o.peer (placed_accepts p i (live_with p.timers i.moment.0 p.sessions (kid_in i))))
judged_accepted p i Zero = inr refl
judged_accepted p i Old = inr refl
judged_accepted p i Seen = inr refl
judged_accepted p i Late = inr refl

judged_again : (p : Peer) (i : Incoming) (f : Freshness) → is_fresh f ≡ false → judged p i f ≡ replayed p i
judged_again p i Fresh is = absurd (false≢true (sym is))
judged_again p i Zero is = refl
judged_again p i Old is = refl
judged_again p i Seen is = refl
judged_again p i Late is = refl

judged_stay : (p : Peer) (i : Incoming) (f : Freshness) → WrapsStay p (judged p i f).peer
judged_stay p i Fresh =
    let o = placed p i (live_with p.timers i.moment.0 p.sessions (kid_in i)) in
    accepts_stay p i o.peer (placed_accepts p i (live_with p.timers i.moment.0 p.sessions (kid_in i)))
judged_stay p i Zero = λ time id is. is
judged_stay p i Old = λ time id is. is
judged_stay p i Seen = λ time id is. is
judged_stay p i Late = λ time id is. is

abbrev how_fresh : Peer → Incoming → Freshness
how_fresh p i = long_freshness p.envelope.accepted i.packet.time i.packet.id i.moment

pub control_accepted : (p : Peer) (i : Incoming) → HasWrap (control_came p i).peer i.packet.time i.packet.id ⊎ (control_came p i ≡ replayed p i)
unfolding control_came
control_accepted p i = judged_accepted p i (how_fresh p i)

judged_fresh : (p : Peer) (i : Incoming) (f : Freshness) → f ≡ Fresh → HasWrap (judged p i f).peer i.packet.time i.packet.id
judged_fresh p i f is = subst (λ (f : Freshness). HasWrap (judged p i f).peer i.packet.time i.packet.id) (sym is)
    (accepts_has p i (placed p i (live_with p.timers i.moment.0 p.sessions (kid_in i))).peer (placed_accepts p i (live_with p.timers i.moment.0 p.sessions (kid_in i))))

pub control_fresh : (p : Peer) (i : Incoming) → long_freshness p.envelope.accepted i.packet.time i.packet.id i.moment ≡ Fresh →
    HasWrap (control_came p i).peer i.packet.time i.packet.id
unfolding control_came
control_fresh p i is = judged_fresh p i (how_fresh p i) is

pub control_again : (p : Peer) (i : Incoming) → HasWrap p i.packet.time i.packet.id → control_came p i ≡ replayed p i
unfolding control_came
control_again p i is = judged_again p i (how_fresh p i) (never_again p.envelope.accepted i.packet.time i.packet.id i.moment is)

pub control_stay : (p : Peer) (i : Incoming) → WrapsStay p (control_came p i).peer
unfolding control_came
control_stay p i = judged_stay p i (how_fresh p i)

-- ---- all other calls leave them

abbrev Leaves : Peer → Peer → Type 0
Leaves p q = q.envelope.accepted ≡ p.envelope.accepted

stay_from : (p q : Peer) → Leaves p q → WrapsStay p q
stay_from p q same time id is = ap (λ (h : LongHistory). has time id h.accepted) same ∙ is

one_leaves : {A : Type 0} (p : Peer) (b : Bool) (x y : Outcome A) → Leaves p x.peer → Leaves p y.peer → Leaves p (if b then x else y).peer
one_leaves p true x y one other = one
one_leaves p false x y one other = other

text_leaves : (n : ℕ) (bytes : List ℕ) (now : ℕ) (p : Peer) (s : Option Session) → Leaves p (engine.text_said n bytes now p s).peer
text_leaves n bytes now p None = refl
text_leaves n bytes now p (Some s) = said_leaves s.link p.envelope bytes (remote_of p) now

given_leaves : (n : ℕ) (name : List ℕ) (p : Peer) (known : Option (List ℕ)) → Leaves p (engine.name_given n name p known).peer
given_leaves n name p None = refl
given_leaves n name p (Some known) = one_leaves p (bytes_eq name known) _ _ refl refl

name_in_leaves : (n : ℕ) (name : List ℕ) (p : Peer) (stage : Stage) → Leaves p (engine.name_in n name p stage).peer
name_in_leaves n name p sessions.Opening = one_leaves p (is_file_name (engine.kept_name name)) _ _ (given_leaves n (engine.kept_name name) p p.name) refl
name_in_leaves n name p sessions.Named = refl
name_in_leaves n name p (sessions.Keyed keys) = refl

name_at_leaves : (n : ℕ) (name : List ℕ) (p : Peer) (s : Option Session) → Leaves p (engine.name_at n name p s).peer
name_at_leaves n name p None = refl
name_at_leaves n name p (Some s) = name_in_leaves n name p s.stage

answer_leaves : (kind : Kind) (n now : ℕ) (p : Peer) → Leaves p (engine.answer_in kind n now p).peer
unfolding engine.text_came engine.plain_came engine.name_came
answer_leaves (EngineText conn bytes) n now p = text_leaves n bytes now p (slice_get p.sessions n)
answer_leaves (EnginePlain conn bytes) n now p = refl
answer_leaves (EngineUp conn name) n now p = name_at_leaves n name p (slice_get p.sessions n)
answer_leaves (EngineDown conn) n now p = refl
answer_leaves (Datagram from bytes) n now p = refl
answer_leaves (DeviceIn bytes) n now p = refl
answer_leaves DeviceReady n now p = refl
answer_leaves (File id answer) n now p = refl
answer_leaves (Line bytes) n now p = refl
answer_leaves Tick n now p = refl
answer_leaves Halt n now p = refl

answer_on_leaves : (kind : Kind) (now : ℕ) (p : Peer) (n : Option ℕ) → Leaves p (engine.answer_on kind now p n).peer
answer_on_leaves kind now p None = refl
answer_on_leaves kind now p (Some n) = answer_leaves kind n now p

pub engine_stay : (kind : Kind) (now : ℕ) (p : Peer) → WrapsStay p (engine.engine_came kind now p).peer
unfolding engine.engine_came
engine_stay kind now p =
    let n = engine.session_on (engine.conn_in kind) p in stay_from p (engine.answer_on kind now p n).peer (answer_on_leaves kind now p n)

closed_leaves : (p : Peer) (n : Option ℕ) (o : Outcome Turn) → Leaves p o.peer → Leaves p (exchange.session_closed n o).peer
closed_leaves p None o is = is
closed_leaves p (Some n) o is = is

exchanged_with_leaves : (peer_id : ℕ) (p : Peer) (own : Source) (message : Km2) (used : ℕ) (cipher : Option Cipher) → Leaves p (exchange.exchanged_with peer_id p own message used cipher).peer
exchanged_with_leaves peer_id p own message used None = refl
exchanged_with_leaves peer_id p own message used (Some cipher) = closed_leaves p _ _ refl

exchanged_from_leaves : (policy : Policy) (peer_id : ℕ) (p : Peer) (own : Source) (message : Option (Km2 × ℕ)) → Leaves p (exchange.exchanged_from policy peer_id p own message).peer
exchanged_from_leaves policy peer_id p own None = refl
exchanged_from_leaves policy peer_id p own (Some message) = exchanged_with_leaves peer_id p own message.0 message.1 (exchange.chosen policy message.0.info)

pub exchange_stay : (policy : Policy) (peer_id : ℕ) (draw : Draw) (p : Peer) → WrapsStay p (exchange.exchanged policy peer_id draw p).peer
unfolding exchange.exchanged
exchange_stay policy peer_id draw p =
    stay_from p (exchange.exchanged_from policy peer_id p (exchange.server_source draw) (engine.prepared_message p)).peer
    (exchanged_from_leaves policy peer_id p (exchange.server_source draw) (engine.prepared_message p))

message_leaves : (n : Option ℕ) (p : Peer) → Leaves p (exchange.after_message_in n p)
message_leaves None p = refl
message_leaves (Some n) p = refl

pub message_stay : (p : Peer) → WrapsStay p (exchange.after_message p)
unfolding exchange.after_message
message_stay p = stay_from p (exchange.after_message_in (exchange.waiting_in p) p) (message_leaves (exchange.waiting_in p) p)

sealed_by_leaves : (p : Peer) (inner : List ℕ) (n : ℕ) (s : Session) (keys : Option Keys) (spent : Bool) → Leaves p (packets.sealed_by p inner n s keys spent).peer
sealed_by_leaves p inner n s (Some k) false = refl
sealed_by_leaves p inner n s (Some k) true = refl
sealed_by_leaves p inner n s None spent = refl

sealed_in_leaves : (p : Peer) (inner : List ℕ) (n : Option ℕ) (s : Option Session) → Leaves p (packets.sealed_in p inner n s).peer
sealed_in_leaves p inner (Some n) (Some s) = sealed_by_leaves p inner n s (keys_of s.stage) (packets.ids_are_spent s)
sealed_in_leaves p inner (Some n) None = refl
sealed_in_leaves p inner None s = refl

pub sealed_stay : (inner : List ℕ) (p : Peer) → WrapsStay p (packets.sealed_to inner p).peer
unfolding packets.sealed_to
sealed_stay inner p =
    let n = newest_usable p.sessions in
    stay_from p (packets.sealed_in p inner n (session_at p.sessions n)).peer (sealed_in_leaves p inner n (session_at p.sessions n))

opened_judged_leaves : (p : Peer) (n : ℕ) (s : Session) (moment : Moment) (id : ℕ) (inner : List ℕ) (f : Freshness) → Leaves p (packets.opened_judged p n s moment id inner f).peer
opened_judged_leaves p n s moment id inner Fresh = refl
opened_judged_leaves p n s moment id inner Zero = refl
opened_judged_leaves p n s moment id inner Old = refl
opened_judged_leaves p n s moment id inner Seen = refl
opened_judged_leaves p n s moment id inner Late = refl

opened_as_leaves : (p : Peer) (n : ℕ) (s : Session) (moment : Moment) (o : Option (ℕ × List ℕ)) → Leaves p (packets.opened_as p n s moment o).peer
opened_as_leaves p n s moment None = refl
opened_as_leaves p n s moment (Some o) = opened_judged_leaves p n s moment o.0 o.1 (ids.freshness s.received o.0 moment)

opened_by_leaves : (p : Peer) (datagram : List ℕ) (n : ℕ) (s : Session) (moment : Moment) (keys : Option Keys) → Leaves p (packets.opened_by p datagram n s moment keys).peer
opened_by_leaves p datagram n s moment None = refl
opened_by_leaves p datagram n s moment (Some k) = opened_as_leaves p n s moment (packets.opened_under _ k (kid_of n) datagram)

opened_in_leaves : (p : Peer) (datagram : List ℕ) (moment : Moment) (n : Option ℕ) (s : Option Session) → Leaves p (packets.opened_in p datagram moment n s).peer
opened_in_leaves p datagram moment (Some n) (Some s) = opened_by_leaves p datagram n s moment (keys_of s.stage)
opened_in_leaves p datagram moment (Some n) None = refl
opened_in_leaves p datagram moment None s = refl

pub opened_stay : (datagram : List ℕ) (moment : Moment) (p : Peer) → WrapsStay p (packets.data_came datagram moment p).peer
unfolding packets.data_came
opened_stay datagram moment p =
    let n = usable_with p.timers moment.0 p.sessions (packets.data_kid datagram) in
    stay_from p (packets.opened_in p datagram moment n (session_at p.sessions n)).peer (opened_in_leaves p datagram moment n (session_at p.sessions n))

-- ---- time

resent_in_leaves : (p : Peer) (n at : ℕ) (c : Outcome Turn) (s : Option Session) → Leaves p c.peer → Leaves p (resent_in n at c s).peer
resent_in_leaves p n at c None is = is
resent_in_leaves p n at c (Some s) is = ticked_leaves s.link c.peer.envelope (remote_of c.peer) at ∙ is

resent_leaves : (p : Peer) (at : ℕ) (numbers : List ℕ) (c : Outcome Turn) → Leaves p c.peer → Leaves p (resent at numbers c).peer
resent_leaves p at [] c is = is
resent_leaves p at (n ∷ numbers) c is =
    resent_leaves p at numbers (resent_in n at c (slice_get c.peer.sessions n)) (resent_in_leaves p n at c (slice_get c.peer.sessions n) is)

ready_in_leaves : (p : Peer) (n now : ℕ) (c : Outcome Turn) (s : Option Session) → Leaves p c.peer → Leaves p (ready_sent_in n now c s).peer
ready_in_leaves p n now c None is = is
ready_in_leaves p n now c (Some s) is = ready_leaves s.link c.peer.envelope [] (remote_of c.peer) now ∙ is

renewed_leaves : (p : Peer) (t : Ticking) (b : Bool) (c : Outcome Turn) → Leaves p c.peer → Leaves p (renewed t b c).peer
renewed_leaves p t false c is = is
renewed_leaves p t true c is = ready_in_leaves p _ t.at _ _ is

gone_by_leaves : (p : Peer) (t : Ticking) (n : Option ℕ) → Leaves p (gone_by p t n).peer
gone_by_leaves p t n =
    renewed_leaves p t (renews p t) (exchange.session_closed n (resent t.at (staying p n) (answered p Going)))
    (closed_leaves p n (resent t.at (staying p n) (answered p Going)) (resent_leaves p t.at (staying p n) (answered p Going) refl))

idle_leaves : (p : Peer) (t : Ticking) (b : Bool) → Leaves p (ticked_idle p t b).peer
idle_leaves p t true = refl
idle_leaves p t false = gone_by_leaves p t (retired p t.at)

late_leaves : (p : Peer) (t : Ticking) (b : Bool) → Leaves p (ticked_late p t b).peer
late_leaves p t true = refl
late_leaves p t false = idle_leaves p t t.idle

pub tick_stay : (t : Ticking) (p : Peer) → WrapsStay p (ticked t p).peer
unfolding ticked
tick_stay t p = stay_from p (ticked_late p t (is_late p t)).peer (late_leaves p t (is_late p t))

pub close_stay : (p : Peer) → WrapsStay p (all_closed p)
close_stay p = λ time id is. is
