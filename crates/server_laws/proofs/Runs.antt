-- The laws over runs.
use Rattle.std.proofs.Common.{◌≡◌, ℕ, ◌||◌, Bool, true, false, List, [], ◌∷◌, ◌++◌, Some, refl, sym, ap, ◌∙◌, subst, arith, true≢false, Ok}
use Rattle.std.specs.List.{IsAmong}
use Rattle.std.proofs.lemmas.Bool.{false≢true}
use Rattle.vpn_base.specs.declared.address.Addr.{Addr}
use Rattle.vpn_base.specs.declared.names.Cid.{Cid}
use Rattle.vpn_links.specs.Actions.{Report}
use Rattle.vpn_links.specs.Steps.{Lack, LacksAll, LacksHost, LacksNothing}
use Rattle.vpn_links.specs.declared.events.Event.{Event}
use Rattle.vpn_links.specs.declared.events.Kind.{Kind}
use Rattle.vpn_links.specs.declared.events.Kind.TheVariants.{Datagram}
use Rattle.vpn_links.specs.declared.notes.Note.{Note}
use Rattle.vpn_links.specs.declared.notes.Note.TheVariants as notes
use Rattle.opcode_codec.specs.Packet.{Inner, packet_of}
use Rattle.opcode_codec.specs.DataPacket.{DataForm}
use Rattle.ovpn_config.specs.declared.settings.Settings.{Settings}
use Rattle.inner_verdict.specs.declared.Verdict.{Verdict}
use Rattle.inner_verdict.specs.declared.Verdict.TheVariants as verdicts
use Rattle.server_table.specs.Table.{Table, table_begun}
use Rattle.server_table.specs.Courses.{Course, outs}
use Rattle.server_table.specs.DataDatagrams.{ping}
use Rattle.server_table.specs.Runs.{Entry, MayLack, MayRun, after, after_all, after_lacking, is_free, is_free_kind, is_free_packet, is_refusal}
use Rattle.server_table.specs.Sealed.{OnlySealedOpen, OpensOnlySealed, SealedPacket}
use Rattle.server_table.specs.Sound.{IsSound}
use Rattle.server_table.specs.Step.{course_begun, is_over, moment_of, step}
use Rattle.server_laws.specs.Accepted.{Accepts, IsAccepted}
use Rattle.server_laws.specs.HandedOn.{DoesLast, GoesOn, IsDealtWith, IsForward, IsFull, IsOn, IsReason, IsReported, IsSentOn, IsSpent, IsSpentFor, verdict_on}
use Rattle.server_laws.specs.WellKept.{IsWellKept}
use Rattle.server_table.proofs.Keeps.{here_at}
use Rattle.server_laws.proofs.Closed.{DealsWith, IsClosed}
use Rattle.server_laws.proofs.Everything.{came_kept, seals_all}
use Rattle.server_laws.proofs.Ids.{AllKept, HasAccepted, KeptSince, all_same, has_one, has_still, since_closed, since_deals}
use Rattle.server_laws.proofs.KeptTables.{Good, good_closed, good_deals, parts_kept, whole_kept}
use Rattle.server_laws.proofs.Opening.{fresh_is_new}
use Rattle.server_table.proofs.Places.{none_some, some_same}
use Rattle.server_laws.proofs.Steps.{accepted_has, by_over, good_begun, step_stays}

-- ---- tables are kept well

pub begun_kept : (settings : Settings) (key : List ℕ) → IsWellKept (table_begun settings key)
begun_kept settings key = record {
  moment = omega arith;
  rows = record {
    order = [];
    established = tt;
    all = λ n e. absurd (none_some e.there);
    distinct = tt;
    in_time = tt;
    until = tt;
    are_theirs = refl;
  };
  hosts = tt;
  clients = λ n x there. absurd (none_some there);
  queue = omega arith;
}

pub step_kept : (lacks : Bool) (t : Table) (event : Event) → IsWellKept t → IsWellKept (step lacks t event).table
step_kept lacks t event is =
    whole_kept (step lacks t event).table
    (by_over Good lacks t event (parts_kept t is)
    (λ goes. came_kept good_closed good_deals (λ to c is. is) lacks event.draw event.kind (course_begun t event) (good_begun t event is)))

lacking_kept : (t : Table) (event : Event) (lack : Lack) → IsWellKept t → IsWellKept (after_lacking t event lack)
lacking_kept t event LacksNothing is = step_kept false t event is
lacking_kept t event LacksAll is = is
lacking_kept t event LacksHost is = step_kept true t event is

pub after_kept : (t : Table) (entry : Entry) → IsWellKept t → IsWellKept (after t entry)
after_kept t entry is = lacking_kept t entry.0 entry.1 is

pub run_kept : (entries : List Entry) (t : Table) → IsWellKept t → IsWellKept (after_all t entries)
run_kept [] t is = is
run_kept (entry ∷ entries) t is = run_kept entries (after t entry) (after_kept t entry is)

-- ---- settings stay

abbrev HasSettings : Settings → Course → Type 0
HasSettings settings c = c.table.settings ≡ settings

settings_closed : (settings : Settings) → IsClosed (HasSettings settings)
settings_closed settings = record {
  quiet = λ actions c none is. is;
  other = λ counted into outof stopped c is. is;
  acts = λ n x o c here peer is. is;
  exchanges = λ n x ccd o c here known ex is. is;
  alters = λ n f c keeps is. is;
  ends = λ n cause x c here is. is;
  establishes = λ n conn x l c here ready is. is;
  admits = λ from draw c is. is;
}

settings_deals : (settings : Settings) → DealsWith (HasSettings settings)
settings_deals settings = record {
  seals = λ inner. seals_all (settings_closed settings) (λ to bytes c is. is) inner;
  learns = λ n host c owned is. is;
  queues = λ inner c few is. is;
  dequeues = λ packet rest c same is. is;
}

step_settings : (lacks : Bool) (t : Table) (event : Event) (settings : Settings) → t.settings ≡ settings → (step lacks t event).table.settings ≡ settings
step_settings lacks t event settings is =
    by_over (HasSettings settings) lacks t event is
    (λ goes. came_kept (settings_closed settings) (settings_deals settings) (λ to c is. is) lacks event.draw event.kind (course_begun t event) is)

lacking_settings : (t : Table) (event : Event) (lack : Lack) (settings : Settings) → t.settings ≡ settings → (after_lacking t event lack).settings ≡ settings
lacking_settings t event LacksNothing settings is = step_settings false t event settings is
lacking_settings t event LacksAll settings is = is
lacking_settings t event LacksHost settings is = step_settings true t event settings is

pub run_settings : (entries : List Entry) (t : Table) (settings : Settings) → t.settings ≡ settings → (after_all t entries).settings ≡ settings
run_settings [] t settings is = is
run_settings (entry ∷ entries) t settings is = run_settings entries (after t entry) settings (lacking_settings t entry.0 entry.1 settings is)

-- ---- accepted ids stay

step_since : (lacks : Bool) (t : Table) (event : Event) → AllKept t.clients (step lacks t event).table.clients
step_since lacks t event =
    by_over (KeptSince t.clients) lacks t event (all_same t.clients)
    (λ goes. came_kept (since_closed t.clients) (since_deals t.clients) (λ to c is. is) lacks event.draw event.kind (course_begun t event) (all_same t.clients))

pub lacking_since : (t : Table) (event : Event) (lack : Lack) → AllKept t.clients (after_lacking t event lack).clients
lacking_since t event LacksNothing = step_since false t event
lacking_since t event LacksAll = all_same t.clients
lacking_since t event LacksHost = step_since true t event

has_after_all : (entries : List Entry) (t : Table) (n k id : ℕ) → HasAccepted t.clients n k id → HasAccepted (after_all t entries).clients n k id
has_after_all [] t n k id has = has
has_after_all (entry ∷ entries) t n k id has =
    has_after_all entries (after t entry) n k id (has_still t.clients (after t entry).clients n k id (lacking_since t entry.0 entry.1) has)

-- ---- runs in parts

pub after_parts : (before rest : List Entry) (t : Table) → after_all t (before ++ rest) ≡ after_all (after_all t before) rest
after_parts [] rest t = refl
after_parts (entry ∷ before) rest t = after_parts before rest (after t entry)

may_parts : (before rest : List Entry) (t : Table) → MayRun t (before ++ rest) → MayRun (after_all t before) rest
may_parts [] rest t may = may
may_parts (entry ∷ before) rest t may = may_parts before rest (after t entry) may.1

sealed_parts : (sealed : List SealedPacket) (before rest : List Entry) (t : Table) → OnlySealedOpen sealed t (before ++ rest) → OnlySealedOpen sealed (after_all t before) rest
sealed_parts sealed [] rest t is = is
sealed_parts sealed (entry ∷ before) rest t is = sealed_parts sealed before rest (after t entry) is.1

-- ---- a data packet never lacks as a whole

free_packet : (t : Table) (event : Event) (from : Addr) (bytes : List ℕ) (f : DataForm) → event.kind ≡ Datagram from bytes → packet_of bytes ≡ Ok (Inner f) → is_free t event ≡ true
unfolding is_free
free_packet t event from bytes f is packet =
    let free : is_free_kind event.kind ≡ true = ap is_free_kind is ∙ ap is_free_packet packet in
    free_by (is_over t) (is_free_kind event.kind) (is_refusal (outs (step false t event))) free
  where
    free_by : (a b c : Bool) → b ≡ true → (a || b || c) ≡ true
    free_by true b c e = refl
    free_by false true c e = refl
    free_by false false c e = absurd (false≢true e)

pub never_lacks : (t : Table) (event : Event) (from : Addr) (bytes : List ℕ) (f : DataForm) → event.kind ≡ Datagram from bytes → packet_of bytes ≡ Ok (Inner f) →
    MayLack t event LacksAll → ⊥
never_lacks t event from bytes f is packet may = true≢false (sym (free_packet t event from bytes f is packet) ∙ may)

-- ---- no id is accepted twice

over_stays : (t : Table) (event : Event) (lack : Lack) → is_over t ≡ true → is_over (after_lacking t event lack) ≡ true
over_stays t event LacksNothing over = ap (λ (c : Course). is_over c.table) (step_stays false t event over) ∙ over
over_stays t event LacksAll over = over
over_stays t event LacksHost over = ap (λ (c : Course). is_over c.table) (step_stays true t event over) ∙ over

lacking_has : (t : Table) (event : Event) (lack : Lack) (n k id : ℕ) (inner : List ℕ) → IsSound t → IsWellKept t → MayLack t event lack → Accepts t event n k id inner →
    HasAccepted (after_lacking t event lack).clients n k id
lacking_has t event LacksNothing n k id inner sound kept may a = accepted_has t event a.from a.datagram false sound kept n k id inner a.is_taken a.comes a.accepted
lacking_has t event LacksAll n k id inner sound kept may a =
    absurd (never_lacks t event a.from a.datagram a.accepted.form a.comes a.accepted.is_data may)
lacking_has t event LacksHost n k id inner sound kept may a = accepted_has t event a.from a.datagram true sound kept n k id inner a.is_taken a.comes a.accepted

pub accepted_once : (t : Table) (entry : Entry) (between : List Entry) (event : Event) (n k id : ℕ) (inner other : List ℕ) → IsSound t → IsWellKept t → MayLack t entry.0 entry.1 →
    Accepts t entry.0 n k id inner → Accepts (after_all (after t entry) between) event n k id other → ⊥
accepted_once t entry between event n k id inner other sound kept may first second =
    let u = after_all (after t entry) between in
    let has = has_after_all between (after t entry) n k id (lacking_has t entry.0 entry.1 n k id inner sound kept may first) in
    let a = second.accepted in
    let was = has_one u.clients n k id a.client a.session has (here_at u n a.client a.client_here).there a.session_there in
    false≢true (sym (fresh_is_new a.session.received id (record { 0 = moment_of u event }) a.is_fresh) ∙ was)

pub run_once : (before : List Entry) (entry : Entry) (between : List Entry) (t : Table) (event : Event) (n k id : ℕ) (inner other : List ℕ) →
    IsSound (after_all t before) → IsWellKept (after_all t before) → MayRun t (before ++ entry ∷ between) →
    Accepts (after_all t before) entry.0 n k id inner → Accepts (after_all t (before ++ entry ∷ between)) event n k id other → ⊥
run_once before entry between t event n k id inner other sound kept may first second =
    accepted_once (after_all t before) entry between event n k id inner other sound kept (may_parts before (entry ∷ between) t may).0 first
    (subst (λ (u : Table). Accepts u event n k id other) (after_parts before (entry ∷ between) t) second)

-- ---- what passes the verdict

sent_reason : (t : Table) (n : ℕ) (inner : List ℕ) (c : Course) (note : Note) (v : Verdict) → verdict_on t (Some n) inner ≡ v → IsForward v → (inner ≡ ping → ⊥) →
    IsReason t c.table (Some n) inner note → DoesLast (Report note ∷ []) c → IsSentOn t n inner c
sent_reason t n inner c (notes.Ping id) v is forward pings why does = absurd (pings why.1)
sent_reason t n inner c (notes.NotIp who) v is forward pings why does = elim (subst IsForward (sym is ∙ why.1) forward) [ ]
sent_reason t n inner c (notes.TooLong who) v is forward pings why does = elim (subst IsForward (sym is ∙ why.1) forward) [ ]
sent_reason t n inner c (notes.Multicast who) v is forward pings why does = elim (subst IsForward (sym is ∙ why.1) forward) [ ]
sent_reason t n inner c (notes.BadSource id found) v is forward pings why does = elim (subst IsForward (sym is ∙ why.1) forward) [ ]
sent_reason t n inner c notes.NoRoute v is forward pings why does = elim (subst IsForward (sym is ∙ why.1) forward) [ ]
sent_reason t n inner c (notes.QueueFull id) v is forward pings why does = IsFull why.1 why.2 (subst (λ (id : Cid). DoesLast (Report (notes.QueueFull id) ∷ []) c) (some_same why.0) does)
sent_reason t n inner c (notes.KeySpent id) v is forward pings why does = spent v is (subst (λ (v : Verdict). IsSpentFor c.table id v) is why)
  where
    spent : (v : Verdict) → verdict_on t (Some n) inner ≡ v → IsSpentFor c.table id v → IsSentOn t n inner c
    spent (verdicts.ToClient target) is why =
        IsSpent target is why.1 (subst (λ (id : Cid). DoesLast (Report (notes.KeySpent id) ∷ []) c) why.0 does)
    spent verdicts.NotIp is why = elim why [ ]
    spent verdicts.TooLong is why = elim why [ ]
    spent verdicts.Multicast is why = elim why [ ]
    spent (verdicts.BadSource found) is why = elim why [ ]
    spent verdicts.ToDevice is why = elim why [ ]
    spent verdicts.NoRoute is why = elim why [ ]
sent_reason t n inner c note v is forward pings why does = elim why [ ]

pub sent_on : (t : Table) (n : ℕ) (inner : List ℕ) (c : Course) → IsForward (verdict_on t (Some n) inner) → (inner ≡ ping → ⊥) → IsDealtWith t (Some n) inner c → IsSentOn t n inner c
sent_on t n inner c forward pings (GoesOn on) = IsOn on
sent_on t n inner c forward pings (IsReported note why queue does) = sent_reason t n inner c note (verdict_on t (Some n) inner) refl forward pings why does

-- ---- what opens was sealed

opens_sealed : (sealed : List SealedPacket) (t : Table) (kind : Kind) (from : Addr) (bytes : List ℕ) (m n k id : ℕ) (inner : List ℕ) → kind ≡ Datagram from bytes →
    OpensOnlySealed sealed t kind → IsAccepted t m bytes n k id inner → IsAmong sealed (record { client = n; session = k; datagram = bytes })
opens_sealed sealed t kind from bytes m n k id inner is only a =
    let opens : OpensOnlySealed sealed t (Datagram from bytes) = subst (OpensOnlySealed sealed t) is only in
    opens n k (record {
      client = a.client;
      client_there = (here_at t n a.client a.client_here).there;
      session = a.session;
      session_there = a.session_there;
      keys = a.keys;
      has_keys = a.has_keys;
      packet_id = id;
      inner = inner;
      opens = a.opens;
    })

pub was_sealed : (sealed : List SealedPacket) (before : List Entry) (entry : Entry) (rest : List Entry) (t : Table) (from : Addr) (bytes : List ℕ) (m n k id : ℕ) (inner : List ℕ) →
    entry.0.kind ≡ Datagram from bytes → OnlySealedOpen sealed t (before ++ entry ∷ rest) → IsAccepted (after_all t before) m bytes n k id inner →
    IsAmong sealed (record { client = n; session = k; datagram = bytes })
was_sealed sealed before entry rest t from bytes m n k id inner is only a =
    opens_sealed sealed (after_all t before) entry.0.kind from bytes m n k id inner is (sealed_parts sealed before (entry ∷ rest) t only).0 a
