-- What the calls of a client's session do to its lines: nearly all leave them, and put and open nothing.
use Rattle.std.proofs.Common.{◌≡◌, ◌+◌, ℕ, Bool, true, false, List, [], ◌∷◌, ◌++◌, length, map, Option, Some, None, refl, sym, ap, ◌∙◌, subst}
use Rattle.std.specs.Prelude.{◌&&◌, slice_get, if◌then◌else◌}
use Rattle.std.specs.Str.{bytes_eq}
use Rattle.std.proofs.lemmas.Bool.{and_from, and_parts, false≢true}
use Rattle.vpn_base.specs.declared.names.Cipher.{Cipher}
use Rattle.vpn_base.specs.declared.names.Conn.{Conn}
use Rattle.vpn_base.specs.declared.names.Draw.{Draw}
use Rattle.vpn_base.specs.declared.names.Freshness.{Freshness}
use Rattle.vpn_base.specs.declared.names.Freshness.TheVariants as freshness
use Rattle.vpn_base.specs.declared.names.Moment.{Moment}
use Rattle.vpn_base.specs.declared.names.Policy.{Policy}
use Rattle.vpn_base.specs.declared.names.Role.{Role}
use Rattle.vpn_base.specs.declared.names.Sid.{Sid}
use Rattle.vpn_base.specs.FileName.{is_file_name}
use Rattle.vpn_links.specs.declared.events.Kind.{Kind}
use Rattle.vpn_links.specs.declared.events.Kind.TheVariants.{Datagram, EngineText, EnginePlain, EngineUp, EngineDown, DeviceIn, DeviceReady, File, Tick, Halt}
use Rattle.vpn_links.specs.declared.events.Kind.TheVariants as kinds
use Rattle.key_method2.specs.declared.message.Km2.{Km2}
use Rattle.key_method2.specs.declared.message.Source.{Source}
use Rattle.packet_ids.specs.Freshness as ids
use Rattle.reliable_send.specs.Sending.{is_full, offered}
use Rattle.control_link.specs.declared.link.LinkEnd.TheVariants.{TextFull}
use Rattle.control_link.specs.Calls as link
use Rattle.control_link.specs.Envelope.{EnvelopeHistory}
use Rattle.control_link.specs.Links.{Link}
use Rattle.peer_table.specs.declared.outcomes.Turn.{Turn}
use Rattle.peer_table.specs.declared.outcomes.Turn.TheVariants.{Going}
use Rattle.peer_table.specs.ControlPackets.{next_session, with_next}
use Rattle.peer_table.specs.DataPackets as packets
use Rattle.peer_table.specs.EngineAnswers as engine
use Rattle.peer_table.specs.Exchange as exchange
use Rattle.peer_table.specs.KeySessions.{Keys, Session, Stage, closed, keys_of, kid_of, newest, newest_session, newest_usable, session_at, usable_with}
use Rattle.peer_table.specs.KeySessions as sessions
use Rattle.peer_table.specs.Outboxes.{actions_of}
use Rattle.peer_table.specs.Peer.{Closes, Doing, Opens, Outcome, Peer, Puts, Writes, answered, gone_on, ready_sent, ready_sent_in, remote_of, with_link}
use Rattle.peer_table.specs.Places.{changed_at, places_from}
use Rattle.peer_table.specs.Time.{Ticking, all_closed, gone_by, is_late, renewed, renews, resent, resent_in, retired, staying, ticked, ticked_idle, ticked_late}
use Rattle.server_table.specs.Courses.{opened_by}
use Rattle.control_laws.proofs.Actions.{are_quiet, some_same}
use Rattle.control_laws.proofs.Lines.{ItemPut, Line, appended_put, line_of, lines_in, map_changed, map_put}
use Rattle.control_laws.proofs.Kept.{begun_line}

-- ---- what is done

abbrev pub is_still : Doing → Bool
is_still (Opens conn) = false
is_still (Puts conn bytes) = false
is_still (Writes conn bytes) = true
is_still (Closes conn) = true

-- whether nothing of this opens a connection or puts text on one
abbrev pub are_still : List Doing → Bool
are_still [] = true
are_still (doing ∷ doings) = is_still doing && are_still doings

pub still_append : (xs ys : List Doing) → are_still xs ≡ true → are_still ys ≡ true → are_still (xs ++ ys) ≡ true
still_append [] ys x y = y
still_append (d ∷ xs) ys x y =
    let p = and_parts (is_still d) (are_still xs) x in
    and_from (is_still d) (are_still (xs ++ ys)) p.0 (still_append xs ys p.1 y)

pub still_quiet : (role : Role) (doings : List Doing) → are_still doings ≡ true → are_quiet (actions_of role doings) ≡ true
still_quiet role [] is = refl
still_quiet role (Opens conn ∷ doings) is = absurd (false≢true is)
still_quiet role (Puts conn bytes ∷ doings) is = absurd (false≢true is)
still_quiet role (Writes conn bytes ∷ doings) is = still_quiet role doings is
still_quiet role (Closes conn ∷ doings) is = still_quiet role doings is

pub still_opened : (doings : List Doing) → are_still doings ≡ true → opened_by doings ≡ 0
still_opened [] is = refl
still_opened (Opens conn ∷ doings) is = absurd (false≢true is)
still_opened (Puts conn bytes ∷ doings) is = absurd (false≢true is)
still_opened (Writes conn bytes ∷ doings) is = still_opened doings is
still_opened (Closes conn ∷ doings) is = still_opened doings is

-- a call leaves the lines, and puts and opens nothing
pub record IsQuietCall {A : Type 0} (p : Peer) (o : Outcome A) : Type 0 where
  pub lines : lines_in o.peer ≡ lines_in p
  pub still : are_still o.doings ≡ true

pub answered_quiet : {A : Type 0} (p q : Peer) (answer : A) → lines_in q ≡ lines_in p → IsQuietCall p (answered q answer)
answered_quiet p q answer same = record { lines = same; still = refl }

if_quiet : {A : Type 0} (p : Peer) (b : Bool) (x y : Outcome A) → IsQuietCall p x → IsQuietCall p y → IsQuietCall p (if b then x else y)
if_quiet p true x y is other = is
if_quiet p false x y is other = other

-- a change of a session that keeps its line
pub changed_lines : (n : ℕ) (f : Session → Session) (all : List Session) → ((s : Session) → line_of (f s) ≡ line_of s) → map line_of (changed_at n f all) ≡ map line_of all
changed_lines n f all same = map_changed line_of n f all (λ s there. same s)

-- ---- links

-- a link keeps its connection, its key id and its receiving side
pub record IsSameSide (l m : Link) : Type 0 where
  pub conn : m.conn ≡ l.conn
  pub kid : m.kid ≡ l.kid
  pub receiving : m.receiving ≡ l.receiving

said_same : (l : Link) (h : EnvelopeHistory) (bytes : List ℕ) (remote : Sid) (now : ℕ) → IsSameSide l (link.said l h bytes remote now).link
unfolding link.said
said_same l h bytes remote now = go (is_full l.sending bytes)
  where
    go : (b : Bool) → IsSameSide l (if b then link.unchanged l h (Some TextFull) else link.with_ready (record l { sending = offered l.sending bytes }) h [] remote now).link
    go true = record { conn = refl; kid = refl; receiving = refl }
    go false = record { conn = refl; kid = refl; receiving = refl }

ticked_same : (l : Link) (h : EnvelopeHistory) (remote : Sid) (now : ℕ) → IsSameSide l (link.ticked l h remote now).link
unfolding link.ticked
ticked_same l h remote now = record { conn = refl; kid = refl; receiving = refl }

line_same : (s : Session) (m : Link) → IsSameSide s.link m → line_of (record s { link = m }) ≡ line_of s
line_same s m same =
    ap (λ (conn : Conn). let l : Line = record { conn = conn.0; kid = m.kid; receiving = m.receiving } in l) same.conn
    ∙ ap (λ kid. let l : Line = record { conn = s.link.conn.0; kid = kid; receiving = m.receiving } in l) same.kid
    ∙ ap (λ receiving. let l : Line = record { conn = s.link.conn.0; kid = s.link.kid; receiving = receiving } in l) same.receiving

linked_lines : (n : ℕ) (s : Session) (m : Link) (p : Peer) → slice_get p.sessions n ≡ Some s → IsSameSide s.link m → lines_in (with_link n m p) ≡ lines_in p
linked_lines n s m p there same =
    map_changed line_of n (λ (x : Session). record x { link = m }) p.sessions
    (λ x at. subst (λ (y : Session). line_of (record y { link = m }) ≡ line_of y) (some_same (sym there ∙ at)) (line_same s m same))

-- a call of a link of the session goes on from what left the lines
gone_on_quiet : (p : Peer) (n : ℕ) (s : Session) (o : link.Outcome) (so_far : Outcome Turn) → slice_get so_far.peer.sessions n ≡ Some s → IsSameSide s.link o.link →
    IsQuietCall p so_far → IsQuietCall p (gone_on n o so_far)
gone_on_quiet p n s o so_far there same is = record { lines = linked_lines n s o.link so_far.peer there same ∙ is.lines; still = is.still }

-- ---- the engine

with_turn_quiet : (p : Peer) (gave_name : Bool) (o : Outcome Turn) → IsQuietCall p o → IsQuietCall p (engine.with_next_turn gave_name o)
with_turn_quiet p gave_name o is = record { lines = is.lines; still = is.still }

judged_quiet : (p : Peer) (n : ℕ) (gave_name : Bool) (q : Peer) → lines_in q ≡ lines_in p → IsQuietCall p (engine.judged_at n gave_name q)
judged_quiet p n gave_name q same =
    with_turn_quiet p gave_name (answered q (engine.bad_at q (slice_get q.sessions n))) (answered_quiet p q (engine.bad_at q (slice_get q.sessions n)) same)

text_said_quiet : (n : ℕ) (bytes : List ℕ) (now : ℕ) (p : Peer) (s : Option Session) → slice_get p.sessions n ≡ s → IsQuietCall p (engine.text_said n bytes now p s)
text_said_quiet n bytes now p None there = answered_quiet p p Going refl
text_said_quiet n bytes now p (Some s) there =
    let o = link.said s.link p.envelope bytes (remote_of p) now in
    with_turn_quiet p false (gone_on n o (answered p Going))
    (gone_on_quiet p n s o (answered p Going) there (said_same s.link p.envelope bytes (remote_of p) now) (answered_quiet p p Going refl))

text_quiet : (n : ℕ) (bytes : List ℕ) (now : ℕ) (p : Peer) → IsQuietCall p (engine.text_came n bytes now p)
unfolding engine.text_came
text_quiet n bytes now p = text_said_quiet n bytes now p (slice_get p.sessions n) refl

plain_quiet : (n : ℕ) (bytes : List ℕ) (p : Peer) → IsQuietCall p (engine.plain_came n bytes p)
unfolding engine.plain_came
plain_quiet n bytes p =
    judged_quiet p n false (engine.with_plain n bytes p) (changed_lines n (λ (s : Session). record s { plain = s.plain ++ bytes }) p.sessions (λ s. refl))

named_lines : (n : ℕ) (all : List Session) → map line_of (changed_at n (λ (s : Session). record s { stage = sessions.Named }) all) ≡ map line_of all
named_lines n all = changed_lines n (λ (s : Session). record s { stage = sessions.Named }) all (λ s. refl)

name_given_quiet : (n : ℕ) (name : List ℕ) (p : Peer) (known : Option (List ℕ)) → IsQuietCall p (engine.name_given n name p known)
name_given_quiet n name p None = judged_quiet p n true (engine.with_named n (record p { name = Some name })) (named_lines n p.sessions)
name_given_quiet n name p (Some known) =
    if_quiet p (bytes_eq name known) _ _ (judged_quiet p n false (engine.with_named n p) (named_lines n p.sessions)) (answered_quiet p p _ refl)

name_judged_quiet : (n : ℕ) (name : List ℕ) (p : Peer) → IsQuietCall p (engine.name_judged n name p)
name_judged_quiet n name p = if_quiet p (is_file_name name) _ _ (name_given_quiet n name p p.name) (answered_quiet p p _ refl)

name_in_quiet : (n : ℕ) (name : List ℕ) (p : Peer) (stage : Stage) → IsQuietCall p (engine.name_in n name p stage)
name_in_quiet n name p sessions.Opening = name_judged_quiet n (engine.kept_name name) p
name_in_quiet n name p sessions.Named = answered_quiet p p _ refl
name_in_quiet n name p (sessions.Keyed keys) = answered_quiet p p _ refl

name_at_quiet : (n : ℕ) (name : List ℕ) (p : Peer) (s : Option Session) → IsQuietCall p (engine.name_at n name p s)
name_at_quiet n name p None = answered_quiet p p Going refl
name_at_quiet n name p (Some s) = name_in_quiet n name p s.stage

name_quiet : (n : ℕ) (name : List ℕ) (p : Peer) → IsQuietCall p (engine.name_came n name p)
unfolding engine.name_came
name_quiet n name p = name_at_quiet n name p (slice_get p.sessions n)

answer_in_quiet : (kind : Kind) (n now : ℕ) (p : Peer) → IsQuietCall p (engine.answer_in kind n now p)
answer_in_quiet (EngineText conn bytes) n now p = text_quiet n bytes now p
answer_in_quiet (EnginePlain conn bytes) n now p = plain_quiet n bytes p
answer_in_quiet (EngineUp conn name) n now p = name_quiet n name p
answer_in_quiet (EngineDown conn) n now p = answered_quiet p p Going refl
answer_in_quiet (Datagram from bytes) n now p = answered_quiet p p Going refl
answer_in_quiet (DeviceIn bytes) n now p = answered_quiet p p Going refl
answer_in_quiet DeviceReady n now p = answered_quiet p p Going refl
answer_in_quiet (File id answer) n now p = answered_quiet p p Going refl
answer_in_quiet (kinds.Line bytes) n now p = answered_quiet p p Going refl
answer_in_quiet Tick n now p = answered_quiet p p Going refl
answer_in_quiet Halt n now p = answered_quiet p p Going refl

answer_on_quiet : (kind : Kind) (now : ℕ) (p : Peer) (n : Option ℕ) → IsQuietCall p (engine.answer_on kind now p n)
answer_on_quiet kind now p None = answered_quiet p p Going refl
answer_on_quiet kind now p (Some n) = answer_in_quiet kind n now p

pub engine_quiet : (kind : Kind) (now : ℕ) (p : Peer) → IsQuietCall p (engine.engine_came kind now p)
unfolding engine.engine_came
engine_quiet kind now p = answer_on_quiet kind now p (engine.session_on (engine.conn_in kind) p)

-- ---- the exchange

closing_still : (s : Option Session) → are_still (exchange.closing s) ≡ true
closing_still None = refl
closing_still (Some s) = refl

writing_still : (bytes : List ℕ) (s : Option Session) → are_still (exchange.writing bytes s) ≡ true
writing_still bytes None = refl
writing_still bytes (Some s) = refl

closed_quiet : (p : Peer) (n : Option ℕ) (o : Outcome Turn) → IsQuietCall p o → IsQuietCall p (exchange.session_closed n o)
closed_quiet p None o is = is
closed_quiet p (Some n) o is = record {
  lines = changed_lines n closed o.peer.sessions (λ s. refl) ∙ is.lines;
  still = still_append o.doings (exchange.closing (slice_get o.peer.sessions n)) is.still (closing_still (slice_get o.peer.sessions n));
}

at_most_two_quiet : (p : Peer) (o : Outcome Turn) → IsQuietCall p o → IsQuietCall p (exchange.at_most_two o)
at_most_two_quiet p o is = closed_quiet p (exchange.oldest_of (places_from exchange.is_open_keyed 0 o.peer.sessions)) o is

exchanged_with_quiet : (peer_id : ℕ) (p : Peer) (own : Source) (message : Km2) (used : ℕ) (cipher : Option Cipher) → IsQuietCall p (exchange.exchanged_with peer_id p own message used cipher)
exchanged_with_quiet peer_id p own message used None = answered_quiet p p _ refl
exchanged_with_quiet peer_id p own message used (Some cipher) =
    at_most_two_quiet p _ (record {
      lines = changed_lines (newest p.sessions) _ p.sessions (λ s. refl);
      still = writing_still _ (newest_session p.sessions);
    })

exchanged_from_quiet : (policy : Policy) (peer_id : ℕ) (p : Peer) (own : Source) (message : Option (Km2 × ℕ)) → IsQuietCall p (exchange.exchanged_from policy peer_id p own message)
exchanged_from_quiet policy peer_id p own None = answered_quiet p p Going refl
exchanged_from_quiet policy peer_id p own (Some message) = exchanged_with_quiet peer_id p own message.0 message.1 (exchange.chosen policy message.0.info)

pub exchanged_quiet : (policy : Policy) (peer_id : ℕ) (draw : Draw) (p : Peer) → IsQuietCall p (exchange.exchanged policy peer_id draw p)
unfolding exchange.exchanged
exchanged_quiet policy peer_id draw p = exchanged_from_quiet policy peer_id p (exchange.server_source draw) (engine.prepared_message p)

message_in_lines : (n : Option ℕ) (p : Peer) → lines_in (exchange.after_message_in n p) ≡ lines_in p
message_in_lines None p = refl
message_in_lines (Some n) p = changed_lines n exchange.message_read p.sessions (λ s. refl)

pub message_lines : (p : Peer) → lines_in (exchange.after_message p) ≡ lines_in p
unfolding exchange.after_message
message_lines p = message_in_lines (exchange.waiting_in p) p

-- ---- data packets

sealed_by_lines : (p : Peer) (inner : List ℕ) (n : ℕ) (s : Session) (keys : Option Keys) (spent : Bool) → lines_in (packets.sealed_by p inner n s keys spent).peer ≡ lines_in p
sealed_by_lines p inner n s (Some k) false = changed_lines n (λ (s : Session). record s { sealed = s.sealed + 1 }) p.sessions (λ s. refl)
sealed_by_lines p inner n s (Some k) true = refl
sealed_by_lines p inner n s None spent = refl

sealed_in_lines : (p : Peer) (inner : List ℕ) (n : Option ℕ) (s : Option Session) → lines_in (packets.sealed_in p inner n s).peer ≡ lines_in p
sealed_in_lines p inner (Some n) (Some s) = sealed_by_lines p inner n s (keys_of s.stage) (packets.ids_are_spent s)
sealed_in_lines p inner (Some n) None = refl
sealed_in_lines p inner None s = refl

pub sealed_lines : (inner : List ℕ) (p : Peer) → lines_in (packets.sealed_to inner p).peer ≡ lines_in p
unfolding packets.sealed_to
sealed_lines inner p = sealed_in_lines p inner (newest_usable p.sessions) (session_at p.sessions (newest_usable p.sessions))

opened_judged_lines : (p : Peer) (n : ℕ) (s : Session) (moment : Moment) (id : ℕ) (inner : List ℕ) (f : Freshness) → lines_in (packets.opened_judged p n s moment id inner f).peer ≡ lines_in p
opened_judged_lines p n s moment id inner freshness.Fresh = changed_lines n (λ (s : Session). record s { received = ids.recorded s.received id moment }) p.sessions (λ s. refl)
opened_judged_lines p n s moment id inner freshness.Zero = refl
opened_judged_lines p n s moment id inner freshness.Old = refl
opened_judged_lines p n s moment id inner freshness.Seen = refl
opened_judged_lines p n s moment id inner freshness.Late = refl

opened_as_lines : (p : Peer) (n : ℕ) (s : Session) (moment : Moment) (o : Option (ℕ × List ℕ)) → lines_in (packets.opened_as p n s moment o).peer ≡ lines_in p
opened_as_lines p n s moment None = refl
opened_as_lines p n s moment (Some o) = opened_judged_lines p n s moment o.0 o.1 (ids.freshness s.received o.0 moment)

opened_by_lines : (p : Peer) (datagram : List ℕ) (n : ℕ) (s : Session) (moment : Moment) (keys : Option Keys) → lines_in (packets.opened_by p datagram n s moment keys).peer ≡ lines_in p
opened_by_lines p datagram n s moment None = refl
opened_by_lines p datagram n s moment (Some k) = opened_as_lines p n s moment (packets.opened_under _ k (kid_of n) datagram)

opened_in_lines : (p : Peer) (datagram : List ℕ) (moment : Moment) (n : Option ℕ) (s : Option Session) → lines_in (packets.opened_in p datagram moment n s).peer ≡ lines_in p
opened_in_lines p datagram moment (Some n) (Some s) = opened_by_lines p datagram n s moment (keys_of s.stage)
opened_in_lines p datagram moment (Some n) None = refl
opened_in_lines p datagram moment None s = refl

pub opened_lines : (datagram : List ℕ) (moment : Moment) (p : Peer) → lines_in (packets.data_came datagram moment p).peer ≡ lines_in p
unfolding packets.data_came
opened_lines datagram moment p =
    opened_in_lines p datagram moment (usable_with p.timers moment.0 p.sessions (packets.data_kid datagram))
    (session_at p.sessions (usable_with p.timers moment.0 p.sessions (packets.data_kid datagram)))

-- ---- time

resent_in_quiet : (p : Peer) (n at : ℕ) (c : Outcome Turn) (s : Option Session) → slice_get c.peer.sessions n ≡ s → IsQuietCall p c → IsQuietCall p (resent_in n at c s)
resent_in_quiet p n at c None there is = is
resent_in_quiet p n at c (Some s) there is =
    gone_on_quiet p n s (link.ticked s.link c.peer.envelope (remote_of c.peer) at) c there (ticked_same s.link c.peer.envelope (remote_of c.peer) at) is

resent_quiet : (p : Peer) (at : ℕ) (numbers : List ℕ) (c : Outcome Turn) → IsQuietCall p c → IsQuietCall p (resent at numbers c)
resent_quiet p at [] c is = is
resent_quiet p at (n ∷ numbers) c is =
    resent_quiet p at numbers (resent_in n at c (slice_get c.peer.sessions n)) (resent_in_quiet p n at c (slice_get c.peer.sessions n) refl is)

-- sending leaves what was done
pub record IsSent (c d : Outcome Turn) : Type 0 where
  pub lines : lines_in d.peer ≡ lines_in c.peer
  pub doings : d.doings ≡ c.doings

ready_in_sent : (n now : ℕ) (c : Outcome Turn) (s : Option Session) → slice_get c.peer.sessions n ≡ s → IsSent c (ready_sent_in n now c s)
ready_in_sent n now c None there = record { lines = refl; doings = refl }
ready_in_sent n now c (Some s) there = record {
  lines = linked_lines n s (link.with_ready s.link c.peer.envelope [] (remote_of c.peer) now).link c.peer there (record { conn = refl; kid = refl; receiving = refl });
  doings = refl;
}

ready_is_sent : (n now : ℕ) (c : Outcome Turn) → IsSent c (ready_sent n now c)
ready_is_sent n now c = ready_in_sent n now c (slice_get c.peer.sessions n) refl

-- a session begins behind all others, on this connection, once these things were done
pub record BeginsLine (p : Peer) (conn : Conn) (o : Outcome Turn) : Type 0 where
  pub number : ℕ
  pub none : slice_get (lines_in p) number ≡ None
  pub put : ItemPut (lines_in p) (lines_in o.peer) number (begun_line conn.0 (kid_of number))
  pub before : List Doing
  pub still : are_still before ≡ true
  pub done : o.doings ≡ before ++ Opens conn ∷ []

pub next_put : (conn : Conn) (now : ℕ) (q : Peer) → ItemPut (lines_in q) (lines_in (with_next conn now q)) (length q.sessions) (begun_line conn.0 (kid_of (length q.sessions)))
next_put conn now q =
    map_put line_of q.sessions (q.sessions ++ next_session conn now q ∷ []) (length q.sessions) (next_session conn now q) (appended_put q.sessions (next_session conn now q))

pub none_next : (all : List Session) → slice_get (map line_of all) (length all) ≡ None
none_next [] = refl
none_next (s ∷ all) = none_next all

pub data Ticked (p : Peer) (conn : Conn) (o : Outcome Turn) : Type 0 where
  Rests : IsQuietCall p o → Ticked p conn o
  Renews : BeginsLine p conn o → Ticked p conn o

renewed_ticked : (p : Peer) (t : Ticking) (b : Bool) (c : Outcome Turn) → IsQuietCall p c → Ticked p t.next_conn (renewed t b c)
renewed_ticked p t false c is = Rests is
renewed_ticked p t true c is =
    let next : Outcome Turn = record c { peer = with_next t.next_conn t.at c.peer; doings = c.doings ++ Opens t.next_conn ∷ [] } in
    let sent = ready_is_sent (length c.peer.sessions) t.at next in
    Renews (record {
      number = length c.peer.sessions;
      none = subst (λ lines. slice_get lines (length c.peer.sessions) ≡ None) is.lines (none_next c.peer.sessions);
      put = subst (λ lines. ItemPut lines (lines_in (renewed t true c).peer) (length c.peer.sessions) (begun_line t.next_conn.0 (kid_of (length c.peer.sessions)))) is.lines
          (subst (λ lines. ItemPut (lines_in c.peer) lines (length c.peer.sessions) (begun_line t.next_conn.0 (kid_of (length c.peer.sessions)))) (sym sent.lines)
          (next_put t.next_conn t.at c.peer));
      before = c.doings;
      still = is.still;
      done = sent.doings;
    })

gone_by_ticked : (p : Peer) (t : Ticking) (n : Option ℕ) → Ticked p t.next_conn (gone_by p t n)
gone_by_ticked p t n =
    renewed_ticked p t (renews p t) (exchange.session_closed n (resent t.at (staying p n) (answered p Going)))
    (closed_quiet p n (resent t.at (staying p n) (answered p Going))
    (resent_quiet p t.at (staying p n) (answered p Going) (answered_quiet p p Going refl)))

idle_ticked : (p : Peer) (t : Ticking) (b : Bool) → Ticked p t.next_conn (ticked_idle p t b)
idle_ticked p t true = Rests (answered_quiet p p _ refl)
idle_ticked p t false = gone_by_ticked p t (retired p t.at)

late_ticked : (p : Peer) (t : Ticking) (b : Bool) → Ticked p t.next_conn (ticked_late p t b)
late_ticked p t true = Rests (answered_quiet p p _ refl)
late_ticked p t false = idle_ticked p t t.idle

pub tick_ticked : (t : Ticking) (p : Peer) → Ticked p t.next_conn (ticked t p)
unfolding ticked
tick_ticked t p = late_ticked p t (is_late p t)

-- ---- the end

all_closed_lines : (all : List Session) → map line_of (map closed all) ≡ map line_of all
all_closed_lines [] = refl
all_closed_lines (s ∷ all) = ap (λ lines. line_of s ∷ lines) (all_closed_lines all)

pub closed_lines : (p : Peer) → lines_in (all_closed p) ≡ lines_in p
closed_lines p = all_closed_lines p.sessions
