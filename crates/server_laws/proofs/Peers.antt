-- What each call of a client's session keeps of its key sessions: every id that was accepted, and the keys.
use Rattle.std.proofs.Common.{◌≤◌, le_of_eq, le_trans, arith, ◌≡◌, ℕ, zero, suc, ◌+◌, ◌==◌, Bool, true, false, List, [], ◌∷◌, ◌++◌, length, map, Option, Some, None, is_some, refl, sym, ap, ◌∙◌, subst, inl, inr}
use Rattle.std.specs.Prelude.{◌⊎◌, ◌||◌, slice_get, if◌then◌else◌}
use Rattle.std.specs.List.{list_any}
use Rattle.std.specs.Str.{bytes_eq}
use Rattle.std.proofs.lemmas.Bool.{false≢true, or_cases, or_left, or_right}
use Rattle.vpn_base.specs.declared.names.Cause.TheVariants.{BadName, NameChanged}
use Rattle.vpn_base.specs.declared.names.Cipher.{Cipher}
use Rattle.vpn_base.specs.declared.names.Conn.{Conn}
use Rattle.vpn_base.specs.declared.names.Draw.{Draw}
use Rattle.vpn_base.specs.declared.names.Freshness.{Freshness}
use Rattle.vpn_base.specs.declared.names.Freshness.TheVariants.{Fresh, Zero, Old, Seen, Late}
use Rattle.vpn_base.specs.declared.names.Moment.{Moment}
use Rattle.vpn_base.specs.declared.names.Policy.{Policy}
use Rattle.vpn_base.specs.declared.names.Role.{Role}
use Rattle.vpn_base.specs.declared.names.Timers.{Timers}
use Rattle.vpn_base.specs.FileName.{is_file_name}
use Rattle.vpn_links.specs.declared.events.Kind.{Kind}
use Rattle.vpn_links.specs.declared.events.Kind.TheVariants.{Datagram, EngineText, EnginePlain, EngineUp, EngineDown, DeviceIn, DeviceReady, File, Line, Tick, Halt}
use Rattle.opcode_codec.specs.declared.opcodes.Opcode.TheVariants.{SoftReset}
use Rattle.packet_ids.specs.Freshness.{Accepted, freshness, recorded, was_accepted}
use Rattle.packet_ids.specs.LongFreshness.{long_freshness}
use Rattle.key_method2.specs.declared.message.Km2.{Km2}
use Rattle.key_method2.specs.declared.message.Source.{Source}
use Rattle.control_link.specs.Calls as link
use Rattle.control_link.specs.Links.{Link}
use Rattle.control_link.specs.Reading.{read_here}
use Rattle.peer_table.specs.declared.outcomes.Turn.{Turn}
use Rattle.peer_table.specs.declared.outcomes.Turn.TheVariants.{Going, Over}
use Rattle.peer_table.specs.Places.{changed_at}
use Rattle.peer_table.specs.KeySessions.{Keyed, Keys, Named, Opening, Session, Stage, closed, has_keys, is_keyed, keys_of, kid_of, live_with, newest, newest_session, newest_usable, session_at, session_begun, usable_with}
use Rattle.peer_table.specs.Peer.{Opens, Outcome, Peer, answered, gone_on, other, ready_sent_in, remote_of}
use Rattle.peer_table.specs.ControlPackets.{Incoming, begins_next, begun_by, control_came, judged, kid_in, most_in_order, next_session, placed, sender, taken_by, with_next}
use Rattle.peer_table.specs.EngineAnswers.{answer_in, answer_on, conn_in, engine_came, judged_at, kept_name, message_in, message_of, name_at, name_came, name_given, name_in, plain_came, prepared_message, session_on, text_came, text_said, with_named}
use Rattle.peer_table.specs.Exchange.{after_message, after_message_in, block_of, chosen, exchanged, exchanged_from, exchanged_with, message_read, server_source, session_closed, waiting_in}
use Rattle.peer_table.specs.DataPackets as packets
use Rattle.peer_table.specs.DataPackets.{data_came, ids_are_spent, opened_as, opened_by, opened_in, opened_judged, opened_under, sealed_by, sealed_in, sealed_to}
use Rattle.peer_table.specs.Time.{Ticking, all_closed, gone_by, is_late, renewed, renews, resent, resent_in, retired, staying, ticked, ticked_idle, ticked_late}
use Rattle.server_laws.specs.WellKept.{HaveKeys}
use Rattle.server_table.proofs.Places.{WasChanged, get_appended, got_appended, got_changed, none_some, some_same, went_changed}

-- ---- one of two tests holds

or_to : (a b c d : Bool) → (a ≡ true → c ≡ true) → (b ≡ true → d ≡ true) → (a || b) ≡ true → (c || d) ≡ true
or_to a b c d first second is = go (or_cases a b is)
  where
    go : (a ≡ true) ⊎ (b ≡ true) → (c || d) ≡ true
    go (inl e) = or_left c d (first e)
    go (inr e) = or_right c d (second e)

-- ---- some session has keys

keys_forward : (n : ℕ) (g : Session → Session) (ss : List Session) → ((s : Session) → slice_get ss n ≡ Some s → has_keys s ≡ true → has_keys (g s) ≡ true) →
    HaveKeys ss → HaveKeys (changed_at n g ss)
keys_forward n g [] to is = is
keys_forward zero g (s ∷ ss) to is = or_to (has_keys s) (list_any has_keys ss) (has_keys (g s)) (list_any has_keys ss) (to s refl) (λ e. e) is
keys_forward (suc n) g (s ∷ ss) to is =
    or_to (has_keys s) (list_any has_keys ss) (has_keys s) (list_any has_keys (changed_at n g ss)) (λ e. e) (keys_forward n g ss to) is

keys_back : (n : ℕ) (g : Session → Session) (ss : List Session) → ((s : Session) → slice_get ss n ≡ Some s → has_keys (g s) ≡ true → has_keys s ≡ true) →
    HaveKeys (changed_at n g ss) → HaveKeys ss
keys_back n g [] to is = is
keys_back zero g (s ∷ ss) to is = or_to (has_keys (g s)) (list_any has_keys ss) (has_keys s) (list_any has_keys ss) (to s refl) (λ e. e) is
keys_back (suc n) g (s ∷ ss) to is =
    or_to (has_keys s) (list_any has_keys (changed_at n g ss)) (has_keys s) (list_any has_keys ss) (λ e. e) (keys_back n g ss to) is

keys_appended : (ss : List Session) (s : Session) → HaveKeys ss → HaveKeys (ss ++ s ∷ [])
keys_appended [] s is = absurd (false≢true is)
keys_appended (x ∷ ss) s is = or_to (has_keys x) (list_any has_keys ss) (has_keys x) (list_any has_keys (ss ++ s ∷ [])) (λ e. e) (keys_appended ss s) is

none_appended : (ss : List Session) (s : Session) → has_keys s ≡ false → HaveKeys (ss ++ s ∷ []) → HaveKeys ss
none_appended [] s none is = absurd (false≢true (sym none ∙ first (or_cases (has_keys s) false is)))
  where
    first : (has_keys s ≡ true) ⊎ (false ≡ true) → has_keys s ≡ true
    first (inl e) = e
    first (inr e) = absurd (false≢true e)
none_appended (x ∷ ss) s none is = or_to (has_keys x) (list_any has_keys (ss ++ s ∷ [])) (has_keys x) (list_any has_keys ss) (λ e. e) (none_appended ss s none) is

keys_closed : (ss : List Session) → list_any has_keys (map closed ss) ≡ list_any has_keys ss
keys_closed [] = refl
keys_closed (s ∷ ss) = ap (λ (b : Bool). has_keys s || b) (keys_closed ss)

-- a session with keys at a place
pub keys_at : (ss : List Session) (n : ℕ) (s : Session) → slice_get ss n ≡ Some s → has_keys s ≡ true → HaveKeys ss
keys_at [] n s there is = absurd (none_some there)
keys_at (x ∷ ss) zero s there is = or_left (has_keys x) (list_any has_keys ss) (ap has_keys (some_same there) ∙ is)
keys_at (x ∷ ss) (suc n) s there is = or_right (has_keys x) (list_any has_keys ss) (keys_at ss n s there is)

-- ---- the ids that were accepted

-- the session of this number is there, and has all ids accepted that it had
pub record IsKeptAt (later : List Session) (k : ℕ) (s : Session) : Type 0 where
  pub session : Session
  pub there : slice_get later k ≡ Some session
  pub ids : (id : ℕ) → was_accepted s.received.accepted id ≡ true → was_accepted session.received.accepted id ≡ true
  pub sealed : s.sealed ≤ session.sealed

abbrev pub AreKept : List Session → List Session → Type 0
AreKept sessions later = (k : ℕ) (s : Session) → slice_get sessions k ≡ Some s → IsKeptAt later k s

pub kept_same : (sessions : List Session) → AreKept sessions sessions
kept_same sessions k s there = record { session = s; there = there; ids = λ id is. is; sealed = le_of_eq refl }

pub kept_then : (sessions between later : List Session) → AreKept sessions between → AreKept between later → AreKept sessions later
kept_then sessions between later first second k s there =
    let a = first k s there in
    let b = second k a.session a.there in
    record { session = b.session; there = b.there; ids = λ id is. b.ids id (a.ids id is); sealed = le_trans a.sealed b.sealed }

-- a change of a session that keeps its ids
abbrev KeepsIds : (Session → Session) → Session → Type 0
KeepsIds g s = (id : ℕ) → was_accepted s.received.accepted id ≡ true → was_accepted (g s).received.accepted id ≡ true

changed_kept : (n : ℕ) (g : Session → Session) (sessions later : List Session) → ((s : Session) → KeepsIds g s) → ((s : Session) → s.sealed ≤ (g s).sealed) → AreKept sessions later →
    AreKept sessions (changed_at n g later)
changed_kept n g sessions later keeps rises kept k s there = let w = kept k s there in go w (went_changed n k g later w.session w.there)
  where
    go : (w : IsKeptAt later k s) → ((k ≡ n) × (slice_get (changed_at n g later) k ≡ Some (g w.session))) ⊎ (slice_get (changed_at n g later) k ≡ Some w.session) →
        IsKeptAt (changed_at n g later) k s
    go w (inl e) = record { session = g w.session; there = e.1; ids = λ id is. keeps w.session id (w.ids id is); sealed = le_trans w.sealed (rises w.session) }
    go w (inr e) = record { session = w.session; there = e; ids = w.ids; sealed = w.sealed }

appended_kept : (sessions later : List Session) (s : Session) → AreKept sessions later → AreKept sessions (later ++ s ∷ [])
appended_kept sessions later s kept k x there =
    let w = kept k x there in record { session = w.session; there = get_appended later s k w.session w.there; ids = w.ids; sealed = w.sealed }

closed_kept : (later : List Session) → AreKept later (map closed later)
closed_kept [] k s there = absurd (none_some there)
closed_kept (x ∷ later) zero s there =
    record { session = closed s; there = ap (λ (y : Session). Some (closed y)) (some_same there); ids = λ id is. is; sealed = le_of_eq refl }
closed_kept (x ∷ later) (suc k) s there =
    let w = closed_kept later k s there in record { session = w.session; there = w.there; ids = w.ids; sealed = w.sealed }

-- ---- whose keys they are

-- the session of this number had these keys
pub record HadKeys (sessions : List Session) (k : ℕ) (keys : Keys) : Type 0 where
  pub session : Session
  pub there : slice_get sessions k ≡ Some session
  pub has : keys_of session.stage ≡ Some keys

-- keys come from nowhere else
abbrev pub KeysFrom : List Session → List Session → Type 0
KeysFrom sessions later = (k : ℕ) (s : Session) (keys : Keys) → slice_get later k ≡ Some s → keys_of s.stage ≡ Some keys → HadKeys sessions k keys

pub from_same : (sessions : List Session) → KeysFrom sessions sessions
from_same sessions k s keys there has = record { session = s; there = there; has = has }

pub from_then : (sessions between later : List Session) → KeysFrom sessions between → KeysFrom between later → KeysFrom sessions later
from_then sessions between later first second k s keys there has = let b = second k s keys there has in first k b.session keys b.there b.has

had_changed : (n : ℕ) (g : Session → Session) (later : List Session) → ((s : Session) → slice_get later n ≡ Some s → keys_of (g s).stage ≡ keys_of s.stage) →
    KeysFrom later (changed_at n g later)
had_changed n g later same k s keys there has = go (got_changed n k g later s there)
  where
    go : WasChanged n k g later s ⊎ (slice_get later k ≡ Some s) → HadKeys later k keys
    go (inl w) = record {
      session = w.item;
      there = w.there;
      has = sym (same w.item (subst (λ (i : ℕ). slice_get later i ≡ Some w.item) w.place w.there)) ∙ ap (λ (x : Session). keys_of x.stage) (sym w.changed) ∙ has;
    }
    go (inr e) = record { session = s; there = e; has = has }

had_appended : (later : List Session) (x : Session) → keys_of x.stage ≡ None → KeysFrom later (later ++ x ∷ [])
had_appended later x none k s keys there has = go (got_appended later x k s there)
  where
    go : ((k ≡ length later) × (s ≡ x)) ⊎ (slice_get later k ≡ Some s) → HadKeys later k keys
    go (inl w) = absurd (none_some (sym none ∙ ap (λ (y : Session). keys_of y.stage) (sym w.1) ∙ has))
    go (inr e) = record { session = s; there = e; has = has }

had_closed : (later : List Session) → KeysFrom later (map closed later)
had_closed [] k s keys there has = absurd (none_some there)
had_closed (x ∷ later) zero s keys there has = record { session = x; there = refl; has = ap (λ (y : Session). keys_of y.stage) (some_same there) ∙ has }
had_closed (x ∷ later) (suc k) s keys there has = let h = had_closed later k s keys there has in record { session = h.session; there = h.there; has = h.has }

-- and keys stay
stay_changed : (n : ℕ) (g : Session → Session) (later : List Session) → ((s : Session) → slice_get later n ≡ Some s → keys_of (g s).stage ≡ keys_of s.stage) →
    KeysFrom (changed_at n g later) later
stay_changed n g later same k s keys there has = go (went_changed n k g later s there)
  where
    go : ((k ≡ n) × (slice_get (changed_at n g later) k ≡ Some (g s))) ⊎ (slice_get (changed_at n g later) k ≡ Some s) → HadKeys (changed_at n g later) k keys
    go (inl e) = record { session = g s; there = e.1; has = same s (subst (λ (i : ℕ). slice_get later i ≡ Some s) e.0 there) ∙ has }
    go (inr e) = record { session = s; there = e; has = has }

stay_appended : (later : List Session) (x : Session) → KeysFrom (later ++ x ∷ []) later
stay_appended later x k s keys there has = record { session = s; there = get_appended later x k s there; has = has }

stay_closed : (later : List Session) → KeysFrom (map closed later) later
stay_closed [] k s keys there has = absurd (none_some there)
stay_closed (x ∷ later) zero s keys there has = record { session = closed s; there = ap (λ (y : Session). Some (closed y)) (some_same there); has = has }
stay_closed (x ∷ later) (suc k) s keys there has = let h = stay_closed later k s keys there has in record { session = h.session; there = h.there; has = h.has }

-- ---- what a call keeps

-- keys name this peer id, or were there
abbrev pub NamedOrFrom : ℕ → List Session → List Session → Type 0
NamedOrFrom peer_id sessions later =
    (k : ℕ) (s : Session) (keys : Keys) → slice_get later k ≡ Some s → keys_of s.stage ≡ Some keys → (keys.peer_id ≡ peer_id) ⊎ HadKeys sessions k keys

-- what all calls but the key exchange keep: the role, whether it asked, the ids, and the keys, of which no session gets any
pub record PeerKeptParts (p : Peer) (role : Role) (timers : Timers) (asks : Bool) (sessions : List Session) : Type 0 where
  pub role_same : role ≡ p.role
  pub timers_same : timers ≡ p.timers
  pub asks_same : asks ≡ p.asks_push
  pub ids : AreKept p.sessions sessions
  pub keys : HaveKeys p.sessions → HaveKeys sessions
  pub no_keys : HaveKeys sessions → HaveKeys p.sessions
  pub from : KeysFrom p.sessions sessions
  pub stay : KeysFrom sessions p.sessions

abbrev pub PeerKept : Peer → Peer → Type 0
PeerKept p q = PeerKeptParts p q.role q.timers q.asks_push q.sessions

-- what the key exchange keeps: a client that asks now has keys, and keys that it gets name this peer id
pub record PeerExchanged (peer_id : ℕ) (p q : Peer) : Type 0 where
  pub role_same : q.role ≡ p.role
  pub timers_same : q.timers ≡ p.timers
  pub from : NamedOrFrom peer_id p.sessions q.sessions
  pub stay : KeysFrom q.sessions p.sessions
  pub asks : q.asks_push ≡ true → (p.asks_push ≡ true) ⊎ HaveKeys q.sessions
  pub ids : AreKept p.sessions q.sessions
  pub keys : HaveKeys p.sessions → HaveKeys q.sessions

pub peer_same : (p : Peer) → PeerKept p p
peer_same p = record {
  role_same = refl;
  timers_same = refl;
  asks_same = refl;
  ids = kept_same p.sessions;
  keys = λ is. is;
  no_keys = λ is. is;
  from = from_same p.sessions;
  stay = from_same p.sessions;
}

-- whether a stage has keys is told by the keys that it has
keyed_by : (stage : Stage) → is_keyed stage ≡ is_some (keys_of stage)
keyed_by Opening = refl
keyed_by Named = refl
keyed_by (Keyed keys) = refl

keyed_same : (g : Session → Session) (s : Session) → keys_of (g s).stage ≡ keys_of s.stage → has_keys (g s) ≡ has_keys s
keyed_same g s same = keyed_by (g s).stage ∙ ap (λ (k : Option Keys). is_some k) same ∙ sym (keyed_by s.stage)

changed_peer : {p : Peer} {role : Role} {timers : Timers} {asks : Bool} (n : ℕ) (g : Session → Session) (sessions : List Session) →
    ((s : Session) → slice_get sessions n ≡ Some s → keys_of (g s).stage ≡ keys_of s.stage) → ((s : Session) → KeepsIds g s) → ((s : Session) → s.sealed ≤ (g s).sealed) →
    PeerKeptParts p role timers asks sessions → PeerKeptParts p role timers asks (changed_at n g sessions)
changed_peer {p = p} n g sessions same keeps rises is = record {
  role_same = is.role_same;
  timers_same = is.timers_same;
  asks_same = is.asks_same;
  ids = changed_kept n g p.sessions sessions keeps rises is.ids;
  keys = λ e. keys_forward n g sessions (λ s there k. keyed_same g s (same s there) ∙ k) (is.keys e);
  no_keys = λ e. is.no_keys (keys_back n g sessions (λ s there k. sym (keyed_same g s (same s there)) ∙ k) e);
  from = from_then p.sessions sessions (changed_at n g sessions) is.from (had_changed n g sessions same);
  stay = from_then (changed_at n g sessions) sessions p.sessions (stay_changed n g sessions same) is.stay;
}

linked : {p : Peer} {role : Role} {timers : Timers} {asks : Bool} (n : ℕ) (l : Link) (sessions : List Session) → PeerKeptParts p role timers asks sessions →
    PeerKeptParts p role timers asks (changed_at n (λ s. record s { link = l }) sessions)
linked n l sessions is = changed_peer n (λ s. record s { link = l }) sessions (λ s there. refl) (λ s id e. e) (λ s. le_of_eq refl) is

module _ {p : Peer} where
  gone_on_kept : (n : ℕ) (o : link.Outcome) (c : Outcome Turn) → PeerKept p c.peer → PeerKept p (gone_on n o c).peer
  gone_on_kept n o c is = linked n o.link c.peer.sessions is

  -- ---- a control packet

  taken_kept : (q : Peer) (i : Incoming) (n : ℕ) (s : Option Session) → PeerKept p q → PeerKept p (taken_by q i n s).peer
  taken_kept q i n None is = is
  taken_kept q i n (Some s) is =
      linked n (read_here most_in_order (link.received s.link q.envelope i.form (sender i) i.moment.0).link) q.sessions is

  next_kept : (conn : Conn) (now : ℕ) (q : Peer) → PeerKept p q → PeerKept p (with_next conn now q)
  next_kept conn now q is =
      let s = session_begun q.timers conn (length q.sessions) SoftReset now in
      record {
        role_same = is.role_same;
        timers_same = is.timers_same;
        asks_same = is.asks_same;
        from = from_then p.sessions q.sessions (q.sessions ++ s ∷ []) is.from (had_appended q.sessions s refl);
        stay = from_then (q.sessions ++ s ∷ []) q.sessions p.sessions (stay_appended q.sessions s) is.stay;
        ids = appended_kept p.sessions q.sessions s is.ids;
        keys = λ e. keys_appended q.sessions s (is.keys e);
        no_keys = λ e. is.no_keys (none_appended q.sessions s refl e);
      }

  begun_kept : (q : Peer) (i : Incoming) (b : Bool) → PeerKept p q → PeerKept p (begun_by q i b).peer
  begun_kept q i false is = is
  begun_kept q i true is =
      taken_kept (with_next i.next_conn i.moment.0 q) i (length q.sessions) (Some (next_session i.next_conn i.moment.0 q)) (next_kept i.next_conn i.moment.0 q is)

  placed_kept : (q : Peer) (i : Incoming) (n : Option ℕ) → PeerKept p q → PeerKept p (placed q i n).peer
  placed_kept q i (Some n) is = taken_kept q i n (slice_get q.sessions n) is
  placed_kept q i None is = begun_kept q i (begins_next q i) is

  judged_kept : (q : Peer) (i : Incoming) (f : Freshness) → PeerKept p q → PeerKept p (judged q i f).peer
  judged_kept q i Fresh is = placed_kept q i (live_with q.timers i.moment.0 q.sessions (kid_in i)) is
  judged_kept q i Zero is = is
  judged_kept q i Old is = is
  judged_kept q i Seen is = is
  judged_kept q i Late is = is

  pub control_kept : (q : Peer) (i : Incoming) → PeerKept p q → PeerKept p (control_came q i).peer
  unfolding control_came
  control_kept q i is = judged_kept q i (long_freshness q.envelope.accepted i.packet.time i.packet.id i.moment) is

  -- ---- an engine answer

  text_said_kept : (n : ℕ) (bytes : List ℕ) (now : ℕ) (q : Peer) (s : Option Session) → PeerKept p q → PeerKept p (text_said n bytes now q s).peer
  text_said_kept n bytes now q None is = is
  text_said_kept n bytes now q (Some s) is = linked n (link.said s.link q.envelope bytes (remote_of q) now).link q.sessions is

  text_kept : (n : ℕ) (bytes : List ℕ) (now : ℕ) (q : Peer) → PeerKept p q → PeerKept p (text_came n bytes now q).peer
  unfolding text_came
  text_kept n bytes now q is = text_said_kept n bytes now q (slice_get q.sessions n) is

  plain_kept : (n : ℕ) (bytes : List ℕ) (q : Peer) → PeerKept p q → PeerKept p (plain_came n bytes q).peer
  unfolding plain_came
  plain_kept n bytes q is = changed_peer n (λ s. record s { plain = s.plain ++ bytes }) q.sessions (λ s there. refl) (λ s id e. e) (λ s. le_of_eq refl) is

  -- a session whose stage is that of a beginning has no keys to lose
  named_kept : (n : ℕ) (q : Peer) (s : Session) → slice_get q.sessions n ≡ Some s → s.stage ≡ Opening → PeerKept p q → PeerKept p (with_named n q)
  named_kept n q s here opening is =
      changed_peer n (λ s. record s { stage = Named }) q.sessions
      (λ t there. sym (ap keys_of (ap (λ (x : Session). x.stage) (some_same (sym there ∙ here)) ∙ opening))) (λ s id e. e) (λ s. le_of_eq refl) is

  same_name : (n : ℕ) (q : Peer) (b : Bool) → PeerKept p (with_named n q) → PeerKept p q →
      PeerKept p (if b then judged_at n false (with_named n q) else answered q (Over NameChanged)).peer
  same_name n q true named is = named
  same_name n q false named is = is

  name_given_kept : (n : ℕ) (name : List ℕ) (q : Peer) (known : Option (List ℕ)) → PeerKept p (with_named n q) → PeerKept p q → PeerKept p (name_given n name q known).peer
  name_given_kept n name q None named is = named
  name_given_kept n name q (Some known) named is = same_name n q (bytes_eq name known) named is

  name_judged_kept : (n : ℕ) (name : List ℕ) (q : Peer) (b : Bool) → PeerKept p (with_named n q) → PeerKept p q →
      PeerKept p (if b then name_given n name q q.name else answered q (Over BadName)).peer
  name_judged_kept n name q true named is = name_given_kept n name q q.name named is
  name_judged_kept n name q false named is = is

  name_in_kept : (n : ℕ) (name : List ℕ) (q : Peer) (s : Session) (stage : Stage) → slice_get q.sessions n ≡ Some s → s.stage ≡ stage → PeerKept p q →
      PeerKept p (name_in n name q stage).peer
  name_in_kept n name q s Opening here is_stage is =
      name_judged_kept n (kept_name name) q (is_file_name (kept_name name)) (named_kept n q s here is_stage is) is
  name_in_kept n name q s Named here is_stage is = is
  name_in_kept n name q s (Keyed keys) here is_stage is = is

  name_at_kept : (n : ℕ) (name : List ℕ) (q : Peer) (o : Option Session) → slice_get q.sessions n ≡ o → PeerKept p q → PeerKept p (name_at n name q o).peer
  name_at_kept n name q None here is = is
  name_at_kept n name q (Some s) here is = name_in_kept n name q s s.stage here refl is

  name_kept : (n : ℕ) (name : List ℕ) (q : Peer) → PeerKept p q → PeerKept p (name_came n name q).peer
  unfolding name_came
  name_kept n name q is = name_at_kept n name q (slice_get q.sessions n) refl is

  answer_in_kept : (kind : Kind) (n now : ℕ) (q : Peer) → PeerKept p q → PeerKept p (answer_in kind n now q).peer
  answer_in_kept (EngineText conn bytes) n now q is = text_kept n bytes now q is
  answer_in_kept (EnginePlain conn bytes) n now q is = plain_kept n bytes q is
  answer_in_kept (EngineUp conn name) n now q is = name_kept n name q is
  answer_in_kept (Datagram from bytes) n now q is = is
  answer_in_kept (EngineDown conn) n now q is = is
  answer_in_kept (DeviceIn bytes) n now q is = is
  answer_in_kept DeviceReady n now q is = is
  answer_in_kept (File id answer) n now q is = is
  answer_in_kept (Line bytes) n now q is = is
  answer_in_kept Tick n now q is = is
  answer_in_kept Halt n now q is = is

  answer_on_kept : (kind : Kind) (now : ℕ) (q : Peer) (n : Option ℕ) → PeerKept p q → PeerKept p (answer_on kind now q n).peer
  answer_on_kept kind now q None is = is
  answer_on_kept kind now q (Some n) is = answer_in_kept kind n now q is

  pub engine_kept : (kind : Kind) (now : ℕ) (q : Peer) → PeerKept p q → PeerKept p (engine_came kind now q).peer
  unfolding engine_came
  engine_kept kind now q is = answer_on_kept kind now q (session_on (conn_in kind) q) is

  -- ---- messages and data packets

  message_in_kept : (n : Option ℕ) (q : Peer) → PeerKept p q → PeerKept p (after_message_in n q)
  message_in_kept None q is = is
  message_in_kept (Some n) q is = changed_peer n message_read q.sessions (λ s there. refl) (λ s id e. e) (λ s. le_of_eq refl) is

  pub message_kept : (q : Peer) → PeerKept p q → PeerKept p (after_message q)
  unfolding after_message
  message_kept q is = message_in_kept (waiting_in q) q is

  sealed_by_kept : (q : Peer) (inner : List ℕ) (n : ℕ) (s : Session) (k : Option Keys) (spent : Bool) → PeerKept p q → PeerKept p (sealed_by q inner n s k spent).peer
  sealed_by_kept q inner n s (Some k) false is = changed_peer n (λ s. record s { sealed = s.sealed + 1 }) q.sessions (λ s there. refl) (λ s id e. e) (λ s. omega arith) is
  sealed_by_kept q inner n s (Some k) true is = is
  sealed_by_kept q inner n s None spent is = is

  sealed_in_kept : (q : Peer) (inner : List ℕ) (n : Option ℕ) (s : Option Session) → PeerKept p q → PeerKept p (sealed_in q inner n s).peer
  sealed_in_kept q inner (Some n) (Some s) is = sealed_by_kept q inner n s (keys_of s.stage) (ids_are_spent s) is
  sealed_in_kept q inner (Some n) None is = is
  sealed_in_kept q inner None s is = is

  pub sealed_kept : (inner : List ℕ) (q : Peer) → PeerKept p q → PeerKept p (sealed_to inner q).peer
  unfolding sealed_to
  sealed_kept inner q is = sealed_in_kept q inner (newest_usable q.sessions) (session_at q.sessions (newest_usable q.sessions)) is

-- an id that was accepted stays so
pub still_accepted : (accepted : List Accepted) (id : ℕ) (more : List Accepted) → was_accepted accepted id ≡ true → was_accepted (accepted ++ more) id ≡ true
still_accepted [] id more is = absurd (false≢true is)
still_accepted (e ∷ accepted) id more is =
    or_to (e.0 == id) (was_accepted accepted id) (e.0 == id) (was_accepted (accepted ++ more) id) (λ e. e) (still_accepted accepted id more) is

module _ {p : Peer} where
  received_kept : (q : Peer) (n id : ℕ) (m : Moment) → PeerKept p q → PeerKept p (packets.with_received n id m q)
  received_kept q n id m is =
      changed_peer n (λ s. record s { received = recorded s.received id m }) q.sessions (λ s there. refl)
      (λ s other e. still_accepted s.received.accepted other ((id, m) ∷ []) e) (λ s. le_of_eq refl) is

  opened_judged_kept : (q : Peer) (n : ℕ) (s : Session) (m : Moment) (id : ℕ) (inner : List ℕ) (f : Freshness) → PeerKept p q → PeerKept p (opened_judged q n s m id inner f).peer
  opened_judged_kept q n s m id inner Fresh is = received_kept q n id m is
  opened_judged_kept q n s m id inner Zero is = is
  opened_judged_kept q n s m id inner Old is = is
  opened_judged_kept q n s m id inner Seen is = is
  opened_judged_kept q n s m id inner Late is = is

  opened_as_kept : (q : Peer) (n : ℕ) (s : Session) (m : Moment) (o : Option (ℕ × List ℕ)) → PeerKept p q → PeerKept p (opened_as q n s m o).peer
  opened_as_kept q n s m None is = is
  opened_as_kept q n s m (Some o) is = opened_judged_kept q n s m o.0 o.1 (freshness s.received o.0 m) is

  opened_by_kept : (q : Peer) (datagram : List ℕ) (n : ℕ) (s : Session) (m : Moment) (k : Option Keys) → PeerKept p q → PeerKept p (opened_by q datagram n s m k).peer
  opened_by_kept q datagram n s m None is = is
  opened_by_kept q datagram n s m (Some k) is = opened_as_kept q n s m (opened_under (other q.role) k (kid_of n) datagram) is

  opened_in_kept : (q : Peer) (datagram : List ℕ) (m : Moment) (n : Option ℕ) (s : Option Session) → PeerKept p q → PeerKept p (opened_in q datagram m n s).peer
  opened_in_kept q datagram m (Some n) (Some s) is = opened_by_kept q datagram n s m (keys_of s.stage) is
  opened_in_kept q datagram m (Some n) None is = is
  opened_in_kept q datagram m None s is = is

  pub data_kept : (datagram : List ℕ) (m : Moment) (q : Peer) → PeerKept p q → PeerKept p (data_came datagram m q).peer
  unfolding data_came
  data_kept datagram m q is =
      opened_in_kept q datagram m (usable_with q.timers m.0 q.sessions (packets.data_kid datagram))
      (session_at q.sessions (usable_with q.timers m.0 q.sessions (packets.data_kid datagram))) is

  -- ---- time and the end

  resent_in_kept : (n at : ℕ) (c : Outcome Turn) (s : Option Session) → PeerKept p c.peer → PeerKept p (resent_in n at c s).peer
  resent_in_kept n at c None is = is
  resent_in_kept n at c (Some s) is = gone_on_kept n (link.ticked s.link c.peer.envelope (remote_of c.peer) at) c is

  resent_kept : (at : ℕ) (numbers : List ℕ) (c : Outcome Turn) → PeerKept p c.peer → PeerKept p (resent at numbers c).peer
  resent_kept at [] c is = is
  resent_kept at (n ∷ numbers) c is =
      resent_kept at numbers (resent_in n at c (slice_get c.peer.sessions n)) (resent_in_kept n at c (slice_get c.peer.sessions n) is)

  closed_at_kept : (n : Option ℕ) (c : Outcome Turn) → PeerKept p c.peer → PeerKept p (session_closed n c).peer
  closed_at_kept None c is = is
  closed_at_kept (Some n) c is = changed_peer n closed c.peer.sessions (λ s there. refl) (λ s id e. e) (λ s. le_of_eq refl) is

  ready_in_kept : (n now : ℕ) (c : Outcome Turn) (s : Option Session) → PeerKept p c.peer → PeerKept p (ready_sent_in n now c s).peer
  ready_in_kept n now c None is = is
  ready_in_kept n now c (Some s) is = gone_on_kept n (link.with_ready s.link c.peer.envelope [] (remote_of c.peer) now) c is

  renewed_kept : (t : Ticking) (b : Bool) (c : Outcome Turn) → PeerKept p c.peer → PeerKept p (renewed t b c).peer
  renewed_kept t false c is = is
  renewed_kept t true c is =
      let d : Outcome Turn = record c { peer = with_next t.next_conn t.at c.peer; doings = c.doings ++ Opens t.next_conn ∷ [] } in
      ready_in_kept (length c.peer.sessions) t.at d (slice_get d.peer.sessions (length c.peer.sessions)) (next_kept t.next_conn t.at c.peer is)

  gone_by_kept : (q : Peer) (t : Ticking) (n : Option ℕ) → PeerKept p q → PeerKept p (gone_by q t n).peer
  gone_by_kept q t n is =
      renewed_kept t (renews q t) (session_closed n (resent t.at (staying q n) (answered q Going)))
      (closed_at_kept n (resent t.at (staying q n) (answered q Going)) (resent_kept t.at (staying q n) (answered q Going) is))

  idle_kept : (q : Peer) (t : Ticking) (b : Bool) → PeerKept p q → PeerKept p (ticked_idle q t b).peer
  idle_kept q t true is = is
  idle_kept q t false is = gone_by_kept q t (retired q t.at) is

  late_kept : (q : Peer) (t : Ticking) (b : Bool) → PeerKept p q → PeerKept p (ticked_late q t b).peer
  late_kept q t true is = is
  late_kept q t false is = idle_kept q t t.idle is

  pub tick_kept : (t : Ticking) (q : Peer) → PeerKept p q → PeerKept p (ticked t q).peer
  unfolding ticked
  tick_kept t q is = late_kept q t (is_late q t) is

  pub all_closed_kept : (q : Peer) → PeerKept p q → PeerKept p (all_closed q)
  all_closed_kept q is = record {
    role_same = is.role_same;
    timers_same = is.timers_same;
    asks_same = is.asks_same;
    from = from_then p.sessions q.sessions (map closed q.sessions) is.from (had_closed q.sessions);
    stay = from_then (map closed q.sessions) q.sessions p.sessions (stay_closed q.sessions) is.stay;
    ids = kept_then p.sessions q.sessions (map closed q.sessions) is.ids (closed_kept q.sessions);
    keys = λ e. keys_closed q.sessions ∙ is.keys e;
    no_keys = λ e. is.no_keys (sym (keys_closed q.sessions) ∙ e);
  }

-- ---- the key exchange

exchanged_same : (peer_id : ℕ) (p : Peer) → PeerExchanged peer_id p p
exchanged_same peer_id p = record {
  role_same = refl;
  timers_same = refl;
  from = λ k s keys there has. inr (from_same p.sessions k s keys there has);
  stay = from_same p.sessions;
  asks = λ e. inl e;
  ids = kept_same p.sessions;
  keys = λ e. e;
}

named_then : (peer_id : ℕ) (sessions between later : List Session) → NamedOrFrom peer_id sessions between → KeysFrom between later → NamedOrFrom peer_id sessions later
named_then peer_id sessions between later first second k s keys there has = let b = second k s keys there has in first k b.session keys b.there b.has

closed_exchanged : (peer_id : ℕ) (p : Peer) (n : Option ℕ) (c : Outcome Turn) → HaveKeys c.peer.sessions → c.peer.role ≡ p.role → c.peer.timers ≡ p.timers →
    NamedOrFrom peer_id p.sessions c.peer.sessions → KeysFrom c.peer.sessions p.sessions → AreKept p.sessions c.peer.sessions → PeerExchanged peer_id p (session_closed n c).peer
closed_exchanged peer_id p None c is role timers from stay ids =
    record { role_same = role; timers_same = timers; from = from; stay = stay; asks = λ e. inr is; ids = ids; keys = λ e. is }
closed_exchanged peer_id p (Some n) c is role timers from stay ids =
    let have : HaveKeys (changed_at n closed c.peer.sessions) = keys_forward n closed c.peer.sessions (λ s there k. k) is in
    record {
      role_same = role;
      timers_same = timers;
      from = named_then peer_id p.sessions c.peer.sessions (changed_at n closed c.peer.sessions) from (had_changed n closed c.peer.sessions (λ s there. refl));
      stay = from_then (changed_at n closed c.peer.sessions) c.peer.sessions p.sessions (stay_changed n closed c.peer.sessions (λ s there. refl)) stay;
      asks = λ e. inr have;
      ids = changed_kept n closed p.sessions c.peer.sessions (λ s id e. e) (λ s. le_of_eq refl) ids;
      keys = λ e. have;
    }

-- a change by which a session that is there has keys
keys_given : (n : ℕ) (g : Session → Session) (ss : List Session) (s : Session) → slice_get ss n ≡ Some s → has_keys (g s) ≡ true → HaveKeys (changed_at n g ss)
keys_given n g [] s there is = absurd (none_some there)
keys_given zero g (x ∷ ss) s there is = or_left (has_keys (g x)) (list_any has_keys ss) (ap (λ (y : Session). has_keys (g y)) (some_same there) ∙ is)
keys_given (suc n) g (x ∷ ss) s there is = or_right (has_keys x) (list_any has_keys (changed_at n g ss)) (keys_given n g ss s there is)

-- a session gets these keys
named_given : (n : ℕ) (g : Session → Session) (ss : List Session) (given : Keys) → ((s : Session) → keys_of (g s).stage ≡ Some given) →
    NamedOrFrom given.peer_id ss (changed_at n g ss)
named_given n g ss given gives k s keys there has = go (got_changed n k g ss s there)
  where
    go : WasChanged n k g ss s ⊎ (slice_get ss k ≡ Some s) → (keys.peer_id ≡ given.peer_id) ⊎ HadKeys ss k keys
    go (inl w) =
        let same : keys ≡ given = some_same (sym has ∙ ap (λ (x : Session). keys_of x.stage) w.changed ∙ gives w.item) in
        inl (ap (λ (k : Keys). k.peer_id) same)
    go (inr e) = inr (record { session = s; there = e; has = has })

-- a session without keys gets some, and all others keep theirs
stay_given : (n : ℕ) (g : Session → Session) (ss : List Session) (s : Session) → slice_get ss n ≡ Some s → keys_of s.stage ≡ None → KeysFrom (changed_at n g ss) ss
stay_given n g ss s there none k x keys at has = go (went_changed n k g ss x at)
  where
    go : ((k ≡ n) × (slice_get (changed_at n g ss) k ≡ Some (g x))) ⊎ (slice_get (changed_at n g ss) k ≡ Some x) → HadKeys (changed_at n g ss) k keys
    go (inl e) =
        let same : x ≡ s = some_same (sym (subst (λ (i : ℕ). slice_get ss i ≡ Some x) e.0 at) ∙ there) in
        absurd (none_some (sym none ∙ ap (λ (y : Session). keys_of y.stage) (sym same) ∙ has))
    go (inr e) = record { session = x; there = e; has = has }

-- a session that is prepared has no keys yet
not_keyed : (p : Peer) (s : Session) (stage : Stage) (m : Km2 × ℕ) → message_in p s stage ≡ Some m → keys_of stage ≡ None
not_keyed p s Opening m e = refl
not_keyed p s Named m e = refl
not_keyed p s (Keyed keys) m e = absurd (none_some e)

exchanged_with_kept : (peer_id : ℕ) (p : Peer) (own : Source) (m : Km2) (used : ℕ) (cipher : Option Cipher) (s : Session) → newest_session p.sessions ≡ Some s → keys_of s.stage ≡ None →
    PeerExchanged peer_id p (exchanged_with peer_id p own m used cipher).peer
exchanged_with_kept peer_id p own m used None s there none = exchanged_same peer_id p
exchanged_with_kept peer_id p own m used (Some cipher) s there none =
    let given : Keys = record { block = block_of m.source own (remote_of p).0 p.envelope.own.0; cipher = cipher; peer_id = peer_id } in
    let g : Session → Session = λ s. record s { stage = Keyed given; read = used } in
    closed_exchanged peer_id p _ _ (keys_given (newest p.sessions) g p.sessions s there refl) refl refl
    (named_given (newest p.sessions) g p.sessions given (λ s. refl)) (stay_given (newest p.sessions) g p.sessions s there none)
    (changed_kept (newest p.sessions) g p.sessions p.sessions (λ s id e. e) (λ s. le_of_eq refl) (kept_same p.sessions))

exchanged_from_kept : (policy : Policy) (peer_id : ℕ) (p : Peer) (own : Source) (m : Option (Km2 × ℕ)) (s : Option Session) → newest_session p.sessions ≡ s → message_of p s ≡ m →
    PeerExchanged peer_id p (exchanged_from policy peer_id p own m).peer
exchanged_from_kept policy peer_id p own None s there is = exchanged_same peer_id p
exchanged_from_kept policy peer_id p own (Some m) None there is = absurd (none_some is)
exchanged_from_kept policy peer_id p own (Some m) (Some s) there is = exchanged_with_kept peer_id p own m.0 m.1 (chosen policy m.0.info) s there (not_keyed p s s.stage m is)

pub exchange_kept : (policy : Policy) (peer_id : ℕ) (draw : Draw) (p : Peer) → PeerExchanged peer_id p (exchanged policy peer_id draw p).peer
unfolding exchanged prepared_message
exchange_kept policy peer_id draw p =
    exchanged_from_kept policy peer_id p (server_source draw) (message_of p (newest_session p.sessions)) (newest_session p.sessions) refl refl
