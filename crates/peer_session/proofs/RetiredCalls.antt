-- The calls that close no key session and give none its keys keep what single changes keep.
use Rattle.std.proofs.Common.{◌≡◌, ℕ, ◌+◌, Bool, true, false, List, [], ◌++◌, length, Option, Some, None, refl, sym, ap, subst, ◌∙◌}
use Rattle.std.specs.Prelude.{unwrap_or, slice_get, if◌then◌else◌}
use Rattle.std.specs.Str.{bytes_eq}
use Rattle.vpn_base.specs.declared.names.Cause.TheVariants.{BadName, NameChanged}
use Rattle.vpn_base.specs.declared.names.Conn.{Conn}
use Rattle.vpn_base.specs.declared.names.Freshness.{Freshness}
use Rattle.vpn_base.specs.declared.names.Freshness.TheVariants.{Fresh, Zero, Old, Seen, Late}
use Rattle.vpn_base.specs.declared.names.Moment.{Moment}
use Rattle.vpn_base.specs.FileName.{is_file_name}
use Rattle.vpn_links.specs.declared.events.Kind.{Kind}
use Rattle.vpn_links.specs.declared.events.Kind.TheVariants.{Datagram, EngineText, EnginePlain, EngineUp, EngineDown, DeviceIn, DeviceReady, File, Line, Tick, Halt}
use Rattle.packet_ids.specs.Freshness.{freshness, recorded}
use Rattle.packet_ids.specs.LongFreshness.{long_freshness}
use Rattle.control_link.specs.Calls as link
use Rattle.control_link.specs.Links.{Link}
use Rattle.control_link.specs.Reading.{read_here}
use Rattle.peer_table.specs.declared.outcomes.Turn.{Turn}
use Rattle.peer_table.specs.declared.outcomes.Turn.TheVariants.{Over}
use Rattle.peer_table.specs.KeySessions.{Keyed, Keys, Named, Opening, Session, Stage, keys_of, kid_of, live_with, newest_usable, session_at, usable_with}
use Rattle.peer_table.specs.Peer.{Outcome, Peer, answered, gone_on, other, ready_sent, ready_sent_in, remote_of, with_link}
use Rattle.peer_table.specs.ControlPackets.{Incoming, begins_next, begun_by, control_came, judged, kid_in, most_in_order, next_session, placed, sender, taken_by, with_next}
use Rattle.peer_table.specs.DataPackets.{data_came, data_kid, ids_are_spent, opened_as, opened_by, opened_in, opened_judged, opened_under, sealed_by, sealed_in, sealed_to}
use Rattle.peer_table.specs.EngineAnswers.{answer_in, answer_on, conn_in, engine_came, judged_at, kept_name, name_at, name_came, name_given, name_in, name_judged, plain_came, session_on, text_came, text_said, with_named}
use Rattle.peer_table.specs.Exchange.{after_message, after_message_in, message_read, waiting_in}
use Rattle.peer_table.specs.Places.{changed_at}
use Rattle.peer_session.proofs.Retired.{Facts, OfPeer, Stays, named}

-- one session changes in what is neither its keys, nor its beginning, nor its end
beside : {P : Facts} → Stays P → (n : ℕ) (f : Session → Session) (p : Peer) →
    ((s : Session) → (f s).stage ≡ s.stage) → ((s : Session) → (f s).began ≡ s.began) → ((s : Session) → (f s).is_open ≡ s.is_open) →
    OfPeer P p → P p.timers p.name (changed_at n f p.sessions)
beside stays n f p stage began is_open is =
    stays.changed p.timers p.name n f p.sessions (λ s here. record { stage = stage s; began = began s; is_open = is_open s }) is

-- ---- a link

linked : {P : Facts} → Stays P → (n : ℕ) (l : Link) (p : Peer) → OfPeer P p → OfPeer P (with_link n l p)
linked stays n l p is = beside stays n (λ s. record s { link = l }) p (λ s. refl) (λ s. refl) (λ s. refl) is

-- a link's call goes on
pub gone_on_stays : {P : Facts} → Stays P → (n : ℕ) (o : link.Outcome) (c : Outcome Turn) → OfPeer P c.peer → OfPeer P (gone_on n o c).peer
gone_on_stays stays n o c is = linked stays n o.link c.peer is

ready_in_stays : {P : Facts} → Stays P → (n now : ℕ) (c : Outcome Turn) (s : Option Session) → OfPeer P c.peer → OfPeer P (ready_sent_in n now c s).peer
ready_in_stays stays n now c None is = is
ready_in_stays stays n now c (Some s) is = gone_on_stays stays n (link.with_ready s.link c.peer.envelope [] (remote_of c.peer) now) c is

-- what may be sent for the first time is sent
pub ready_stays : {P : Facts} → Stays P → (n now : ℕ) (c : Outcome Turn) → OfPeer P c.peer → OfPeer P (ready_sent n now c).peer
ready_stays stays n now c is = ready_in_stays stays n now c (slice_get c.peer.sessions n) is

-- ---- a control packet

-- the next session begins
pub next_stays : {P : Facts} → Stays P → (conn : Conn) (now : ℕ) (p : Peer) → OfPeer P p → OfPeer P (with_next conn now p)
next_stays stays conn now p is = stays.more p.timers p.name p.sessions (next_session conn now p) refl is

taken_stays : {P : Facts} → Stays P → (p : Peer) (i : Incoming) (n : ℕ) (s : Option Session) → OfPeer P p → OfPeer P (taken_by p i n s).peer
taken_stays stays p i n None is = is
taken_stays stays p i n (Some s) is =
    linked stays n (read_here most_in_order (link.received s.link p.envelope i.form (sender i) i.moment.0).link) p is

begun_stays : {P : Facts} → Stays P → (p : Peer) (i : Incoming) (b : Bool) → OfPeer P p → OfPeer P (begun_by p i b).peer
begun_stays stays p i false is = is
begun_stays stays p i true is =
    taken_stays stays (with_next i.next_conn i.moment.0 p) i (length p.sessions) (Some (next_session i.next_conn i.moment.0 p))
    (next_stays stays i.next_conn i.moment.0 p is)

placed_stays : {P : Facts} → Stays P → (p : Peer) (i : Incoming) (n : Option ℕ) → OfPeer P p → OfPeer P (placed p i n).peer
placed_stays stays p i (Some n) is = taken_stays stays p i n (slice_get p.sessions n) is
placed_stays stays p i None is = begun_stays stays p i (begins_next p i) is

judged_stays : {P : Facts} → Stays P → (p : Peer) (i : Incoming) (f : Freshness) → OfPeer P p → OfPeer P (judged p i f).peer
judged_stays stays p i Fresh is = placed_stays stays p i (live_with p.timers i.moment.0 p.sessions (kid_in i)) is
judged_stays stays p i Zero is = is
judged_stays stays p i Old is = is
judged_stays stays p i Seen is = is
judged_stays stays p i Late is = is

-- a control packet has come
pub control_stays : {P : Facts} → Stays P → (p : Peer) (i : Incoming) → OfPeer P p → OfPeer P (control_came p i).peer
unfolding control_came
control_stays stays p i is = judged_stays stays p i (long_freshness p.envelope.accepted i.packet.time i.packet.id i.moment) is

-- ---- an engine answer

text_said_stays : {P : Facts} → Stays P → (n : ℕ) (bytes : List ℕ) (now : ℕ) (p : Peer) (s : Option Session) → OfPeer P p → OfPeer P (text_said n bytes now p s).peer
text_said_stays stays n bytes now p None is = is
text_said_stays stays n bytes now p (Some s) is = linked stays n (link.said s.link p.envelope bytes (remote_of p) now).link p is

text_stays : {P : Facts} → Stays P → (n : ℕ) (bytes : List ℕ) (now : ℕ) (p : Peer) → OfPeer P p → OfPeer P (text_came n bytes now p).peer
unfolding text_came
text_stays stays n bytes now p is = text_said_stays stays n bytes now p (slice_get p.sessions n) is

plain_stays : {P : Facts} → Stays P → (n : ℕ) (bytes : List ℕ) (p : Peer) → OfPeer P p → OfPeer P (plain_came n bytes p).peer
unfolding plain_came
plain_stays stays n bytes p is = beside stays n (λ s. record s { plain = s.plain ++ bytes }) p (λ s. refl) (λ s. refl) (λ s. refl) is

some_same : {X : Type 0} {a b : X} → Some a ≡ Some b → a ≡ b
some_same {X = X} {a = a} {b = b} e = ap (λ (o : Option X). unwrap_or o a) e

-- the session of this number, if there is one, is in its first stage
abbrev IsOpening : ℕ → Peer → Type 0
IsOpening n p = (s : Session) → slice_get p.sessions n ≡ Some s → s.stage ≡ Opening

-- so it has its name, and is the client's where that is known
known_stays : {P : Facts} → Stays P → (n : ℕ) (p : Peer) (known : List ℕ) → p.name ≡ Some known → IsOpening n p → OfPeer P p → OfPeer P (with_named n p)
known_stays {P = P} stays n p known is_known opening is =
    subst (λ (name : Option (List ℕ)). P p.timers name (changed_at n named p.sessions)) (sym is_known) (stays.given p.timers p.name known n p.sessions opening is)

same_name : {P : Facts} → Stays P → (n : ℕ) (p : Peer) (b : Bool) → OfPeer P (with_named n p) → OfPeer P p →
    OfPeer P (if b then judged_at n false (with_named n p) else answered p (Over NameChanged)).peer
same_name stays n p true with_name is = with_name
same_name stays n p false with_name is = is

given_stays : {P : Facts} → Stays P → (n : ℕ) (name : List ℕ) (p : Peer) (known : Option (List ℕ)) → p.name ≡ known → IsOpening n p → OfPeer P p →
    OfPeer P (name_given n name p known).peer
given_stays stays n name p None is_known opening is = stays.given p.timers p.name name n p.sessions opening is
given_stays stays n name p (Some known) is_known opening is = same_name stays n p (bytes_eq name known) (known_stays stays n p known is_known opening is) is

file_name : {P : Facts} → Stays P → (n : ℕ) (name : List ℕ) (p : Peer) (b : Bool) → IsOpening n p → OfPeer P p →
    OfPeer P (if b then name_given n name p p.name else answered p (Over BadName)).peer
file_name stays n name p true opening is = given_stays stays n name p p.name refl opening is
file_name stays n name p false opening is = is

name_judged_stays : {P : Facts} → Stays P → (n : ℕ) (name : List ℕ) (p : Peer) → IsOpening n p → OfPeer P p → OfPeer P (name_judged n name p).peer
name_judged_stays stays n name p opening is = file_name stays n name p (is_file_name name) opening is

name_in_stays : {P : Facts} → Stays P → (n : ℕ) (name : List ℕ) (p : Peer) (s : Session) (stage : Stage) → slice_get p.sessions n ≡ Some s → s.stage ≡ stage →
    OfPeer P p → OfPeer P (name_in n name p stage).peer
name_in_stays stays n name p s Opening here is_stage is =
    name_judged_stays stays n (kept_name name) p (λ t at. ap (λ (x : Session). x.stage) (some_same (sym at ∙ here)) ∙ is_stage) is
name_in_stays stays n name p s Named here is_stage is = is
name_in_stays stays n name p s (Keyed keys) here is_stage is = is

name_at_stays : {P : Facts} → Stays P → (n : ℕ) (name : List ℕ) (p : Peer) (o : Option Session) → slice_get p.sessions n ≡ o → OfPeer P p → OfPeer P (name_at n name p o).peer
name_at_stays stays n name p None here is = is
name_at_stays stays n name p (Some s) here is = name_in_stays stays n name p s s.stage here refl is

name_stays : {P : Facts} → Stays P → (n : ℕ) (name : List ℕ) (p : Peer) → OfPeer P p → OfPeer P (name_came n name p).peer
unfolding name_came
name_stays stays n name p is = name_at_stays stays n name p (slice_get p.sessions n) refl is

answer_in_stays : {P : Facts} → Stays P → (kind : Kind) (n now : ℕ) (p : Peer) → OfPeer P p → OfPeer P (answer_in kind n now p).peer
answer_in_stays stays (EngineText conn bytes) n now p is = text_stays stays n bytes now p is
answer_in_stays stays (EnginePlain conn bytes) n now p is = plain_stays stays n bytes p is
answer_in_stays stays (EngineUp conn name) n now p is = name_stays stays n name p is
answer_in_stays stays (Datagram from bytes) n now p is = is
answer_in_stays stays (EngineDown conn) n now p is = is
answer_in_stays stays (DeviceIn bytes) n now p is = is
answer_in_stays stays DeviceReady n now p is = is
answer_in_stays stays (File id answer) n now p is = is
answer_in_stays stays (Line bytes) n now p is = is
answer_in_stays stays Tick n now p is = is
answer_in_stays stays Halt n now p is = is

answer_on_stays : {P : Facts} → Stays P → (kind : Kind) (now : ℕ) (p : Peer) (n : Option ℕ) → OfPeer P p → OfPeer P (answer_on kind now p n).peer
answer_on_stays stays kind now p None is = is
answer_on_stays stays kind now p (Some n) is = answer_in_stays stays kind n now p is

-- the engine has answered
pub engine_stays : {P : Facts} → Stays P → (kind : Kind) (now : ℕ) (p : Peer) → OfPeer P p → OfPeer P (engine_came kind now p).peer
unfolding engine_came
engine_stays stays kind now p is = answer_on_stays stays kind now p (session_on (conn_in kind) p) is

-- ---- a message behind the exchange

message_in_stays : {P : Facts} → Stays P → (n : Option ℕ) (p : Peer) → OfPeer P p → OfPeer P (after_message_in n p)
message_in_stays stays None p is = is
message_in_stays stays (Some n) p is = beside stays n message_read p (λ s. refl) (λ s. refl) (λ s. refl) is

-- the next message was given
pub message_stays : {P : Facts} → Stays P → (p : Peer) → OfPeer P p → OfPeer P (after_message p)
unfolding after_message
message_stays stays p is = message_in_stays stays (waiting_in p) p is

-- ---- data packets

sealed_by_stays : {P : Facts} → Stays P → (p : Peer) (inner : List ℕ) (n : ℕ) (s : Session) (k : Option Keys) (spent : Bool) → OfPeer P p →
    OfPeer P (sealed_by p inner n s k spent).peer
sealed_by_stays stays p inner n s (Some k) false is = beside stays n (λ s. record s { sealed = s.sealed + 1 }) p (λ s. refl) (λ s. refl) (λ s. refl) is
sealed_by_stays stays p inner n s (Some k) true is = is
sealed_by_stays stays p inner n s None spent is = is

sealed_in_stays : {P : Facts} → Stays P → (p : Peer) (inner : List ℕ) (n : Option ℕ) (s : Option Session) → OfPeer P p → OfPeer P (sealed_in p inner n s).peer
sealed_in_stays stays p inner (Some n) (Some s) is = sealed_by_stays stays p inner n s (keys_of s.stage) (ids_are_spent s) is
sealed_in_stays stays p inner (Some n) None is = is
sealed_in_stays stays p inner None s is = is

-- an inner packet is sealed
pub sealed_stays : {P : Facts} → Stays P → (inner : List ℕ) (p : Peer) → OfPeer P p → OfPeer P (sealed_to inner p).peer
unfolding sealed_to
sealed_stays stays inner p is = sealed_in_stays stays p inner (newest_usable p.sessions) (session_at p.sessions (newest_usable p.sessions)) is

opened_judged_stays : {P : Facts} → Stays P → (p : Peer) (n : ℕ) (s : Session) (m : Moment) (id : ℕ) (inner : List ℕ) (f : Freshness) → OfPeer P p →
    OfPeer P (opened_judged p n s m id inner f).peer
opened_judged_stays stays p n s m id inner Fresh is =
    beside stays n (λ s. record s { received = recorded s.received id m }) p (λ s. refl) (λ s. refl) (λ s. refl) is
opened_judged_stays stays p n s m id inner Zero is = is
opened_judged_stays stays p n s m id inner Old is = is
opened_judged_stays stays p n s m id inner Seen is = is
opened_judged_stays stays p n s m id inner Late is = is

opened_as_stays : {P : Facts} → Stays P → (p : Peer) (n : ℕ) (s : Session) (m : Moment) (o : Option (ℕ × List ℕ)) → OfPeer P p → OfPeer P (opened_as p n s m o).peer
opened_as_stays stays p n s m None is = is
opened_as_stays stays p n s m (Some o) is = opened_judged_stays stays p n s m o.0 o.1 (freshness s.received o.0 m) is

opened_by_stays : {P : Facts} → Stays P → (p : Peer) (datagram : List ℕ) (n : ℕ) (s : Session) (m : Moment) (k : Option Keys) → OfPeer P p →
    OfPeer P (opened_by p datagram n s m k).peer
opened_by_stays stays p datagram n s m None is = is
opened_by_stays stays p datagram n s m (Some k) is = opened_as_stays stays p n s m (opened_under (other p.role) k (kid_of n) datagram) is

opened_in_stays : {P : Facts} → Stays P → (p : Peer) (datagram : List ℕ) (m : Moment) (n : Option ℕ) (s : Option Session) → OfPeer P p →
    OfPeer P (opened_in p datagram m n s).peer
opened_in_stays stays p datagram m (Some n) (Some s) is = opened_by_stays stays p datagram n s m (keys_of s.stage) is
opened_in_stays stays p datagram m (Some n) None is = is
opened_in_stays stays p datagram m None s is = is

-- a data packet has come
pub data_stays : {P : Facts} → Stays P → (datagram : List ℕ) (m : Moment) (p : Peer) → OfPeer P p → OfPeer P (data_came datagram m p).peer
unfolding data_came
data_stays stays datagram m p is =
    opened_in_stays stays p datagram m (usable_with p.timers m.0 p.sessions (data_kid datagram)) (session_at p.sessions (usable_with p.timers m.0 p.sessions (data_kid datagram))) is
