-- Each call of a client's session keeps its key sessions orderly.
use Rattle.std.proofs.Common.{◌≡◌, ℕ, ◌+◌, Bool, true, false, List, ◌++◌, length, Option, Some, None, refl, sym, ap, ◌∙◌, subst, inl, inr}
use Rattle.std.specs.Option.{option_or}
use Rattle.std.specs.Prelude.{unwrap_or, ◌&&◌, slice_get}
use Rattle.vpn_base.specs.declared.names.Conn.{Conn}
use Rattle.vpn_base.specs.declared.names.Freshness.{Freshness}
use Rattle.vpn_base.specs.declared.names.Freshness.TheVariants.{Fresh, Zero, Old, Seen, Late}
use Rattle.control_link.specs.Calls as link
use Rattle.control_link.specs.Links.{Link}
use Rattle.peer_table.specs.declared.outcomes.Turn.{Turn}
use Rattle.peer_table.specs.KeySessions.{Session, session_begun, live_with}
use Rattle.peer_table.specs.Peer.{Outcome, Peer, with_link, gone_on, remote_of}
use Rattle.packet_ids.specs.LongFreshness.{long_freshness}
use Rattle.opcode_codec.specs.declared.opcodes.Opcode.TheVariants.{SoftReset}
use Rattle.control_link.specs.Reading.{read_here}
use Rattle.peer_table.specs.ControlPackets.{Incoming, next_session, most_in_order, sender, begins_next, begun_by, control_came, judged, kid_in, newest_is_finished, placed, taken_by, with_next}
use Rattle.std.specs.Prelude.{if◌then◌else◌}
use Rattle.std.specs.Str.{bytes_eq}
use Rattle.std.proofs.lemmas.Bool.{false≢true}
use Rattle.vpn_base.specs.declared.names.Cause.TheVariants.{BadName, NameChanged}
use Rattle.vpn_base.specs.declared.names.Cipher.{Cipher}
use Rattle.vpn_base.specs.FileName.{is_file_name}
use Rattle.vpn_links.specs.declared.events.Kind.{Kind}
use Rattle.vpn_links.specs.declared.events.Kind.TheVariants.{Datagram, EngineText, EnginePlain, EngineUp, EngineDown, DeviceIn, DeviceReady, File, Line, Tick, Halt}
use Rattle.key_method2.specs.declared.message.Km2.{Km2}
use Rattle.key_method2.specs.declared.message.Source.{Source}
use Rattle.peer_table.specs.declared.outcomes.Turn.TheVariants.{Over}
use Rattle.peer_table.specs.KeySessions.{Keyed, Named, Opening, Stage, is_keyed}
use Rattle.peer_table.specs.Peer.{answered}
use Rattle.peer_table.specs.EngineAnswers.{answer_in, answer_on, conn_in, engine_came, judged_at, kept_name, name_at, name_came, name_given, name_in, name_judged, plain_came, session_on, text_came, text_said, with_named}
use Rattle.vpn_base.specs.declared.names.Draw.{Draw}
use Rattle.vpn_base.specs.declared.names.Moment.{Moment}
use Rattle.vpn_base.specs.declared.names.Policy.{Policy}
use Rattle.packet_ids.specs.Freshness.{freshness, recorded}
use Rattle.peer_table.specs.KeySessions.{Keys, keys_of, kid_of, newest, newest_usable, session_at, usable_with}
use Rattle.peer_table.specs.Peer.{other}
use Rattle.peer_table.specs.EngineAnswers.{prepared_message}
use Rattle.peer_table.specs.DataPackets as packets
use Rattle.peer_table.specs.DataPackets.{data_came, ids_are_spent, opened_as, opened_by, opened_in, opened_judged, opened_under, sealed_by, sealed_in, sealed_to}
use Rattle.peer_table.specs.Exchange.{after_message, after_message_in, at_most_two, chosen, exchanged, exchanged_from, exchanged_with, is_open_keyed, message_read, oldest_of, server_source, session_closed, waiting_in}
use Rattle.peer_table.specs.Places.{places_from}
use Rattle.peer_table.proofs.Closing.{IsOneTooMany, after_oldest, changed_three, oldest_closed}
use Rattle.peer_table.specs.Orderly.{IsOrderlyFrom, IsOrderlyOrFixed, IsOrderly}
use Rattle.vpn_base.specs.declared.names.Sid.{Sid}
use Rattle.peer_table.specs.Places.{changed_at}
use Rattle.peer_table.proofs.Order.{Keeps, both, changed_orderly}
use Rattle.peer_table.proofs.Begun.{appended_orderly, last_has_keys, newest_has_keys}

-- a peer that differs from it in other things alone
pub same_from : {r : Option Sid} {p q : Peer} → q.sessions ≡ p.sessions → q.remote ≡ p.remote → IsOrderlyFrom r p → IsOrderlyFrom r q
same_from s e is = record { orderly = subst IsOrderly (sym s) is.orderly; is_remote = e ∙ is.is_remote }

-- a change of one session that keeps it
pub changed : {r : Option Sid} (n : ℕ) (f : Session → Session) (p : Peer) → ((s : Session) → slice_get p.sessions n ≡ Some s → Keeps f s) →
    IsOrderlyFrom r p → IsOrderlyFrom r (record p { sessions = changed_at n f p.sessions })
changed n f p keeps is = record { orderly = changed_orderly n f p.sessions keeps is.orderly; is_remote = is.is_remote }

-- ---- a link

linked : {r : Option Sid} (n : ℕ) (l : Link) (p : Peer) → IsOrderlyFrom r p → IsOrderlyFrom r (with_link n l p)
linked n l p o = changed n (λ s. record s { link = l }) p (λ s is. record { keyed = λ k. k; few = λ k. k }) o

-- a link's call goes on
pub gone_on_orderly : {r : Option Sid} (n : ℕ) (o : link.Outcome) (so_far : Outcome Turn) → IsOrderlyFrom r so_far.peer → IsOrderlyFrom r (gone_on n o so_far).peer
gone_on_orderly n o so_far is = same_from refl refl (linked n o.link so_far.peer is)

-- ---- a control packet

fixed : {r : Option Sid} (i : Incoming) (p : Peer) → IsOrderlyFrom r p → IsOrderlyFrom (option_or r (Some (sender i))) (record p { remote = option_or p.remote (Some (sender i)) })
fixed i p is = record { orderly = is.orderly; is_remote = ap (λ (o : Option Sid). option_or o (Some (sender i))) is.is_remote }

taken_orderly : {r : Option Sid} (p : Peer) (i : Incoming) (n : ℕ) (s : Option Session) → IsOrderlyFrom r p → IsOrderlyOrFixed r i (taken_by p i n s).peer
taken_orderly p i n None is = inl (same_from refl refl is)
taken_orderly p i n (Some s) is =
    let l = read_here most_in_order (link.received s.link p.envelope i.form (sender i) i.moment.0).link in
    inr (same_from refl refl (fixed i (with_link n l p) (linked n l p is)))

-- the next session begins
pub next_orderly : {r : Option Sid} (conn : Conn) (now : ℕ) (p : Peer) → last_has_keys p.sessions ≡ true → IsOrderlyFrom r p → IsOrderlyFrom r (with_next conn now p)
next_orderly conn now p last is = record {
  orderly = appended_orderly p.sessions (session_begun p.timers conn (length p.sessions) SoftReset now) last refl is.orderly;
  is_remote = is.is_remote;
}

finished_of : (p : Peer) (i : Incoming) → begins_next p i ≡ true → newest_is_finished i.established p.sessions ≡ true
finished_of p i is = (both is).1

begun_orderly : {r : Option Sid} (p : Peer) (i : Incoming) (b : Bool) → begins_next p i ≡ b → IsOrderlyFrom r p → IsOrderlyOrFixed r i (begun_by p i b).peer
begun_orderly p i false e is = inl (same_from refl refl is)
begun_orderly p i true e is =
    taken_orderly (with_next i.next_conn i.moment.0 p) i (length p.sessions) (Some (next_session i.next_conn i.moment.0 p))
    (next_orderly i.next_conn i.moment.0 p (newest_has_keys i.established p.sessions (finished_of p i e)) is)

placed_orderly : {r : Option Sid} (p : Peer) (i : Incoming) (n : Option ℕ) → IsOrderlyFrom r p → IsOrderlyOrFixed r i (placed p i n).peer
placed_orderly p i (Some n) is = taken_orderly p i n (slice_get p.sessions n) is
placed_orderly p i None is = begun_orderly p i (begins_next p i) refl is

judged_orderly : {r : Option Sid} (p : Peer) (i : Incoming) (f : Freshness) → IsOrderlyFrom r p → IsOrderlyOrFixed r i (judged p i f).peer
judged_orderly p i Fresh is = placed_orderly p i (live_with p.timers i.moment.0 p.sessions (kid_in i)) is
judged_orderly p i Zero is = inl is
judged_orderly p i Old is = inl is
judged_orderly p i Seen is = inl is
judged_orderly p i Late is = inl is

-- a control packet has come
pub control_orderly : {r : Option Sid} (p : Peer) (i : Incoming) → IsOrderlyFrom r p → IsOrderlyOrFixed r i (control_came p i).peer
unfolding control_came
control_orderly p i is = judged_orderly p i (long_freshness p.envelope.accepted i.packet.time i.packet.id i.moment) is

-- ---- an engine answer

judged_at_orderly : {r : Option Sid} (n : ℕ) (gave : Bool) (p : Peer) → IsOrderlyFrom r p → IsOrderlyFrom r (judged_at n gave p).peer
judged_at_orderly n gave p is = is

text_said_orderly : {r : Option Sid} (n : ℕ) (bytes : List ℕ) (now : ℕ) (p : Peer) (s : Option Session) → IsOrderlyFrom r p → IsOrderlyFrom r (text_said n bytes now p s).peer
text_said_orderly n bytes now p None is = is
text_said_orderly n bytes now p (Some s) is = same_from refl refl (linked n (link.said s.link p.envelope bytes (remote_of p) now).link p is)

text_orderly : {r : Option Sid} (n : ℕ) (bytes : List ℕ) (now : ℕ) (p : Peer) → IsOrderlyFrom r p → IsOrderlyFrom r (text_came n bytes now p).peer
unfolding text_came
text_orderly n bytes now p is = text_said_orderly n bytes now p (slice_get p.sessions n) is

plain_orderly : {r : Option Sid} (n : ℕ) (bytes : List ℕ) (p : Peer) → IsOrderlyFrom r p → IsOrderlyFrom r (plain_came n bytes p).peer
unfolding plain_came
plain_orderly n bytes p is =
    changed n (λ s. record s { plain = s.plain ++ bytes }) p (λ s at. record { keyed = λ k. k; few = λ k. k }) is

some_same : {X : Type 0} {a b : X} → Some a ≡ Some b → a ≡ b
some_same {X = X} {a = a} {b = b} e = ap (λ (o : Option X). unwrap_or o a) e

and_false : (b : Bool) → (b && false) ≡ false
and_false true = refl
and_false false = refl

-- a session whose stage is that of a beginning has no keys to lose
named_orderly : {r : Option Sid} (n : ℕ) (p : Peer) → (s : Session) → slice_get p.sessions n ≡ Some s → s.stage ≡ Opening → IsOrderlyFrom r p → IsOrderlyFrom r (with_named n p)
named_orderly n p s here opening is =
    changed n (λ s. record s { stage = Named }) p (λ t at. record {
      keyed = λ k. absurd (false≢true (sym (ap is_keyed (ap (λ (x : Session). x.stage) (some_same (sym at ∙ here)) ∙ opening)) ∙ k));
      few = λ k. absurd (false≢true (sym (and_false t.is_open) ∙ k));
    }) is

same_name : {r : Option Sid} (n : ℕ) (p : Peer) (b : Bool) → IsOrderlyFrom r (with_named n p) → IsOrderlyFrom r p →
    IsOrderlyFrom r (if b then judged_at n false (with_named n p) else answered p (Over NameChanged)).peer
same_name n p true named is = named
same_name n p false named is = is

name_given_orderly : {r : Option Sid} (n : ℕ) (name : List ℕ) (p : Peer) (known : Option (List ℕ)) → IsOrderlyFrom r (with_named n p) → IsOrderlyFrom r p → IsOrderlyFrom r (name_given n name p known).peer
name_given_orderly n name p None named is = same_from refl refl named
name_given_orderly n name p (Some known) named is = same_name n p (bytes_eq name known) named is

file_name : {r : Option Sid} (n : ℕ) (name : List ℕ) (p : Peer) (b : Bool) → IsOrderlyFrom r (with_named n p) → IsOrderlyFrom r p →
    IsOrderlyFrom r (if b then name_given n name p p.name else answered p (Over BadName)).peer
file_name n name p true named is = name_given_orderly n name p p.name named is
file_name n name p false named is = is

name_judged_orderly : {r : Option Sid} (n : ℕ) (name : List ℕ) (p : Peer) → IsOrderlyFrom r (with_named n p) → IsOrderlyFrom r p → IsOrderlyFrom r (name_judged n name p).peer
name_judged_orderly n name p named is = file_name n name p (is_file_name name) named is

name_in_orderly : {r : Option Sid} (n : ℕ) (name : List ℕ) (p : Peer) (s : Session) (stage : Stage) → slice_get p.sessions n ≡ Some s → s.stage ≡ stage → IsOrderlyFrom r p → IsOrderlyFrom r (name_in n name p stage).peer
name_in_orderly n name p s Opening here is_stage is = name_judged_orderly n (kept_name name) p (named_orderly n p s here is_stage is) is
name_in_orderly n name p s Named here is_stage is = is
name_in_orderly n name p s (Keyed keys) here is_stage is = is

name_at_orderly : {r : Option Sid} (n : ℕ) (name : List ℕ) (p : Peer) (o : Option Session) → slice_get p.sessions n ≡ o → IsOrderlyFrom r p → IsOrderlyFrom r (name_at n name p o).peer
name_at_orderly n name p None here is = is
name_at_orderly n name p (Some s) here is = name_in_orderly n name p s s.stage here refl is

name_orderly : {r : Option Sid} (n : ℕ) (name : List ℕ) (p : Peer) → IsOrderlyFrom r p → IsOrderlyFrom r (name_came n name p).peer
unfolding name_came
name_orderly n name p is = name_at_orderly n name p (slice_get p.sessions n) refl is

answer_in_orderly : {r : Option Sid} (kind : Kind) (n now : ℕ) (p : Peer) → IsOrderlyFrom r p → IsOrderlyFrom r (answer_in kind n now p).peer
answer_in_orderly (EngineText conn bytes) n now p is = text_orderly n bytes now p is
answer_in_orderly (EnginePlain conn bytes) n now p is = plain_orderly n bytes p is
answer_in_orderly (EngineUp conn name) n now p is = name_orderly n name p is
answer_in_orderly (Datagram from bytes) n now p is = is
answer_in_orderly (EngineDown conn) n now p is = is
answer_in_orderly (DeviceIn bytes) n now p is = is
answer_in_orderly DeviceReady n now p is = is
answer_in_orderly (File id answer) n now p is = is
answer_in_orderly (Line bytes) n now p is = is
answer_in_orderly Tick n now p is = is
answer_in_orderly Halt n now p is = is

answer_on_orderly : {r : Option Sid} (kind : Kind) (now : ℕ) (p : Peer) (n : Option ℕ) → IsOrderlyFrom r p → IsOrderlyFrom r (answer_on kind now p n).peer
answer_on_orderly kind now p None is = is
answer_on_orderly kind now p (Some n) is = answer_in_orderly kind n now p is

pub engine_orderly : {r : Option Sid} (kind : Kind) (now : ℕ) (p : Peer) → IsOrderlyFrom r p → IsOrderlyFrom r (engine_came kind now p).peer
unfolding engine_came
engine_orderly kind now p is = answer_on_orderly kind now p (session_on (conn_in kind) p) is

-- ---- the key exchange

third_orderly : (o : Option ℕ) (c : Outcome Turn) → IsOrderly (after_oldest o c.peer.sessions) → IsOrderly (session_closed o c).peer.sessions
third_orderly None c is = is
third_orderly (Some n) c is = is

third_remote : (o : Option ℕ) (c : Outcome Turn) → (session_closed o c).peer.remote ≡ c.peer.remote
third_remote None c = refl
third_remote (Some n) c = refl

at_most_two_orderly : {r : Option Sid} (c : Outcome Turn) → c.peer.remote ≡ r → IsOneTooMany c.peer.sessions → IsOrderlyFrom r (at_most_two c).peer
at_most_two_orderly c remote is = record {
  orderly = third_orderly (oldest_of (places_from is_open_keyed 0 c.peer.sessions)) c (oldest_closed c.peer.sessions (places_from is_open_keyed 0 c.peer.sessions) refl is);
  is_remote = third_remote (oldest_of (places_from is_open_keyed 0 c.peer.sessions)) c ∙ remote;
}

exchanged_with_orderly : {r : Option Sid} (id : ℕ) (p : Peer) (own : Source) (m : Km2) (used : ℕ) (cipher : Option Cipher) → IsOrderlyFrom r p → IsOrderlyFrom r (exchanged_with id p own m used cipher).peer
exchanged_with_orderly id p own m used None is = is
exchanged_with_orderly id p own m used (Some cipher) is =
    at_most_two_orderly _ is.is_remote (changed_three (newest p.sessions) _ p.sessions (λ s k. refl) is.orderly)

exchanged_from_orderly : {r : Option Sid} (policy : Policy) (id : ℕ) (p : Peer) (own : Source) (m : Option (Km2 × ℕ)) → IsOrderlyFrom r p → IsOrderlyFrom r (exchanged_from policy id p own m).peer
exchanged_from_orderly policy id p own None is = is
exchanged_from_orderly policy id p own (Some m) is = exchanged_with_orderly id p own m.0 m.1 (chosen policy m.0.info) is

pub exchange_orderly : {r : Option Sid} (policy : Policy) (id : ℕ) (draw : Draw) (p : Peer) → IsOrderlyFrom r p → IsOrderlyFrom r (exchanged policy id draw p).peer
unfolding exchanged
exchange_orderly policy id draw p is = exchanged_from_orderly policy id p (server_source draw) (prepared_message p) is

message_in_orderly : {r : Option Sid} (n : Option ℕ) (p : Peer) → IsOrderlyFrom r p → IsOrderlyFrom r (after_message_in n p)
message_in_orderly None p is = is
message_in_orderly (Some n) p is = changed n message_read p (λ s at. record { keyed = λ k. k; few = λ k. k }) is

pub message_orderly : {r : Option Sid} (p : Peer) → IsOrderlyFrom r p → IsOrderlyFrom r (after_message p)
unfolding after_message
message_orderly p is = message_in_orderly (waiting_in p) p is

-- ---- data packets

sealed_by_orderly : {r : Option Sid} (p : Peer) (inner : List ℕ) (n : ℕ) (s : Session) (k : Option Keys) (spent : Bool) → IsOrderlyFrom r p → IsOrderlyFrom r (sealed_by p inner n s k spent).peer
sealed_by_orderly p inner n s (Some k) false is =
    changed n (λ s. record s { sealed = s.sealed + 1 }) p (λ s at. record { keyed = λ k. k; few = λ k. k }) is
sealed_by_orderly p inner n s (Some k) true is = is
sealed_by_orderly p inner n s None spent is = is

sealed_in_orderly : {r : Option Sid} (p : Peer) (inner : List ℕ) (n : Option ℕ) (s : Option Session) → IsOrderlyFrom r p → IsOrderlyFrom r (sealed_in p inner n s).peer
sealed_in_orderly p inner (Some n) (Some s) is = sealed_by_orderly p inner n s (keys_of s.stage) (ids_are_spent s) is
sealed_in_orderly p inner (Some n) None is = is
sealed_in_orderly p inner None s is = is

pub sealed_orderly : {r : Option Sid} (inner : List ℕ) (p : Peer) → IsOrderlyFrom r p → IsOrderlyFrom r (sealed_to inner p).peer
unfolding sealed_to
sealed_orderly inner p is = sealed_in_orderly p inner (newest_usable p.sessions) (session_at p.sessions (newest_usable p.sessions)) is

opened_judged_orderly : {r : Option Sid} (p : Peer) (n : ℕ) (s : Session) (m : Moment) (id : ℕ) (inner : List ℕ) (f : Freshness) → IsOrderlyFrom r p → IsOrderlyFrom r (opened_judged p n s m id inner f).peer
opened_judged_orderly p n s m id inner Fresh is =
    changed n (λ s. record s { received = recorded s.received id m }) p (λ s at. record { keyed = λ k. k; few = λ k. k }) is
opened_judged_orderly p n s m id inner Zero is = is
opened_judged_orderly p n s m id inner Old is = is
opened_judged_orderly p n s m id inner Seen is = is
opened_judged_orderly p n s m id inner Late is = is

opened_as_orderly : {r : Option Sid} (p : Peer) (n : ℕ) (s : Session) (m : Moment) (o : Option (ℕ × List ℕ)) → IsOrderlyFrom r p → IsOrderlyFrom r (opened_as p n s m o).peer
opened_as_orderly p n s m None is = is
opened_as_orderly p n s m (Some o) is = opened_judged_orderly p n s m o.0 o.1 (freshness s.received o.0 m) is

opened_by_orderly : {r : Option Sid} (p : Peer) (datagram : List ℕ) (n : ℕ) (s : Session) (m : Moment) (k : Option Keys) → IsOrderlyFrom r p → IsOrderlyFrom r (opened_by p datagram n s m k).peer
opened_by_orderly p datagram n s m None is = is
opened_by_orderly p datagram n s m (Some k) is = opened_as_orderly p n s m (opened_under (other p.role) k (kid_of n) datagram) is

opened_in_orderly : {r : Option Sid} (p : Peer) (datagram : List ℕ) (m : Moment) (n : Option ℕ) (s : Option Session) → IsOrderlyFrom r p → IsOrderlyFrom r (opened_in p datagram m n s).peer
opened_in_orderly p datagram m (Some n) (Some s) is = opened_by_orderly p datagram n s m (keys_of s.stage) is
opened_in_orderly p datagram m (Some n) None is = is
opened_in_orderly p datagram m None s is = is

pub data_orderly : {r : Option Sid} (datagram : List ℕ) (m : Moment) (p : Peer) → IsOrderlyFrom r p → IsOrderlyFrom r (data_came datagram m p).peer
unfolding data_came
data_orderly datagram m p is =
    opened_in_orderly p datagram m (usable_with p.timers m.0 p.sessions (packets.data_kid datagram)) (session_at p.sessions (usable_with p.timers m.0 p.sessions (packets.data_kid datagram))) is
