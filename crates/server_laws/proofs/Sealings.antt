-- Packet ids that are sealed rise.
use Rattle.std.proofs.Common.{◌≡◌, ◌≤◌, ◌<◌, ℕ, ◌+◌, Bool, true, false, cond, List, [], ◌∷◌, ◌++◌, filter, length, Option, Some, None, refl, sym, ap, ◌∙◌, subst, arith, append-nil, le_of_eq, le_trans}
use Rattle.std.specs.Prelude.{slice_get}
use Rattle.std.specs.List.{AllByRecursion}
use Rattle.std.proofs.lemmas.Bool.{false≢true}
use Rattle.vpn_base.specs.declared.names.Role.{Role}
use Rattle.vpn_base.specs.declared.names.Role.TheVariants as roles
use Rattle.vpn_links.specs.Actions.{Action, Ask, Configure, Device, EngineClose, EngineOpen, EnginePut, EngineWrite, Report, Say, Stop, Wire, is_wire}
use Rattle.vpn_links.specs.declared.events.Event.{Event}
use Rattle.vpn_links.specs.declared.notes.Note.TheVariants as notes
use Rattle.route_table.specs.Learned.{with_host}
use Rattle.peer_table.specs.KeySessions.{Keys, Session, keys_of, kid_of, newest_usable, session_at}
use Rattle.peer_table.specs.DataPackets as packets
use Rattle.peer_table.specs.Outboxes.{actions_of}
use Rattle.server_table.specs.Table.{Client, Table}
use Rattle.server_table.specs.Lookups.{cid, client_here}
use Rattle.server_table.specs.Courses.{Course, acted, client_changed, did, did_all, reported}
use Rattle.server_table.specs.ControlDatagrams.{client_begun, session_begun, with_admitted}
use Rattle.server_table.specs.Endings.{ended_as, ending_effects}
use Rattle.server_table.specs.Establishing.{established_at, establishing_lines, reply}
use Rattle.server_table.specs.InnerPackets.{sealed_with, with_sent}
use Rattle.server_table.specs.Runs.{Entry, after, after_all}
use Rattle.server_table.specs.Step.{course_begun, course_of, step}
use Rattle.server_laws.specs.HandedOn.{carrying, sealed_by, sealed_in}
use Rattle.server_laws.specs.Sealings.{AreRising, AreSealings, HasKeysAt, IsSealedRising, IsSealing, Sealing}
use Rattle.server_laws.specs.WellKept.{IsWellKept}
use Rattle.server_table.proofs.Places.{get_changed}
use Rattle.server_laws.proofs.Peers.{AreKept}
use Rattle.server_laws.proofs.Runs.{lacking_since}
use Rattle.server_table.proofs.Keeps.{here_at}
use Rattle.server_laws.proofs.Closed.{DealsWith, IsClosed}
use Rattle.server_laws.proofs.ClosedEngine.{reply_quiet}
use Rattle.server_laws.proofs.Everything.{came_kept}
use Rattle.server_laws.proofs.Ids.{AllKept, all_same, all_then, since_closed, since_deals}
use Rattle.server_laws.proofs.KeptTables.{Good, good_closed, good_deals}
use Rattle.server_laws.proofs.Quiet.{actions_quiet, carrying_more, ending_quiet, establishing_quiet, is_empty}
use Rattle.server_laws.proofs.Steps.{by_over, good_begun}

-- ---- what goes out on the wire

abbrev wires : List Action → List Action
wires actions = filter is_wire actions

wire_step : (action : Action) (all xs ys : List Action) (b : Bool) → all ≡ xs ++ ys → cond b (action ∷ all) all ≡ cond b (action ∷ xs) xs ++ ys
wire_step action all xs ys true e = ap (λ (actions : List Action). action ∷ actions) e
wire_step action all xs ys false e = e

wires_append : (xs ys : List Action) → wires (xs ++ ys) ≡ wires xs ++ wires ys
wires_append [] ys = refl
wires_append (x ∷ xs) ys = wire_step x (wires (xs ++ ys)) (wires xs) (wires ys) (is_wire x) (wires_append xs ys)

none_step : (x : Action) (xs : List Action) → (carrying xs ≡ [] → wires xs ≡ []) → carrying (x ∷ xs) ≡ [] → wires (x ∷ xs) ≡ []
none_step (Wire to bytes) xs ih e = absurd (false≢true (ap (λ (actions : List Action). is_empty actions) e))
none_step (Device packet) xs ih e = absurd (false≢true (ap (λ (actions : List Action). is_empty actions) e))
none_step (EngineOpen conn role) xs ih e = ih e
none_step (EnginePut conn bytes) xs ih e = ih e
none_step (EngineWrite conn bytes) xs ih e = ih e
none_step (EngineClose conn) xs ih e = ih e
none_step (Configure address len gateway routes rest) xs ih e = ih e
none_step (Ask id name) xs ih e = ih e
none_step (Say bytes) xs ih e = ih e
none_step (Report note) xs ih e = ih e
none_step Stop xs ih e = ih e

no_wires : (xs : List Action) → carrying xs ≡ [] → wires xs ≡ []
no_wires [] e = refl
no_wires (x ∷ xs) e = none_step x xs (no_wires xs) e

wires_more : (xs ys : List Action) → wires ys ≡ [] → wires (xs ++ ys) ≡ wires xs
wires_more xs ys none = wires_append xs ys ∙ ap (λ (more : List Action). wires xs ++ more) none ∙ append-nil (wires xs)

-- ---- what was sealed stays

in_later : (o : Option Session) (s : Session) → o ≡ Some s → sealed_in o ≡ s.sealed
in_later o s e = ap (λ (o : Option Session). sealed_in o) e

by_session : (k : ℕ) (xs ys : List Session) (o : Option Session) → slice_get xs k ≡ o → AreKept xs ys → sealed_in o ≤ sealed_in (slice_get ys k)
by_session k xs ys None there kept = omega arith
by_session k xs ys (Some s) there kept =
    let w = kept k s there in
    let e = in_later (slice_get ys k) w.session w.there in
    let le = w.sealed in
    omega (arith, e, le)

by_client : (n k : ℕ) (clients later : List Client) (o : Option Client) → slice_get clients n ≡ o → AllKept clients later → sealed_by k o ≤ sealed_by k (slice_get later n)
by_client n k clients later None there kept = omega arith
by_client n k clients later (Some x) there kept =
    let w = kept n x there in
    let le = by_session k x.session.sessions w.client.session.sessions (slice_get x.session.sessions k) refl w.kept in
    let e : sealed_by k (slice_get later n) ≡ sealed_in (slice_get w.client.session.sessions k) = ap (sealed_by k) w.there in
    omega (arith, le, e)

-- the last id of a session never falls
pub never_falls : (clients later : List Client) (n k : ℕ) → AllKept clients later → sealed_by k (slice_get clients n) ≤ sealed_by k (slice_get later n)
never_falls clients later n k kept = by_client n k clients later (slice_get clients n) refl kept

-- and its keys stay
pub keys_stay : (t u : Table) (n k : ℕ) (keys : Keys) → AllKept t.clients u.clients → HasKeysAt t n k keys → HasKeysAt u n k keys
keys_stay t u n k keys kept has =
    let x = kept n has.client has.client_there in
    let s = x.stay k has.session keys has.session_there has.has_keys in
    record { client = x.client; client_there = x.there; session = s.session; session_there = s.there; has_keys = s.has }

sealing_later : (t u v : Table) (s : Sealing) (action : Action) → AllKept u.clients v.clients → IsSealing t u s action → IsSealing t v s action
sealing_later t u v s action kept is = record {
  to = is.to;
  inner = is.inner;
  keys = is.keys;
  has_keys = keys_stay u v s.client s.session is.keys kept is.has_keys;
  is_packet = is.is_packet;
  above = is.above;
  upto = le_trans is.upto (never_falls u.clients v.clients s.client s.session kept);
}

all_later : (t u v : Table) (sealings : List Sealing) (actions : List Action) → AllKept u.clients v.clients → AreSealings t u sealings actions → AreSealings t v sealings actions
all_later t u v [] [] kept are = tt
all_later t u v (s ∷ sealings) (action ∷ actions) kept are = (sealing_later t u v s action kept are.0, all_later t u v sealings actions kept are.1)
all_later t u v [] (action ∷ actions) kept are = are
all_later t u v (s ∷ sealings) [] kept are = are

-- ---- one more

sealings_append : (t u : Table) (sealings : List Sealing) (actions : List Action) (s : Sealing) (action : Action) → AreSealings t u sealings actions → IsSealing t u s action →
    AreSealings t u (sealings ++ s ∷ []) (actions ++ action ∷ [])
sealings_append t u [] [] s action are is = (is, tt)
sealings_append t u (r ∷ sealings) (a ∷ actions) s action are is = (are.0, sealings_append t u sealings actions s action are.1 is)
sealings_append t u [] (a ∷ actions) s action are is = elim are [ ]
sealings_append t u (r ∷ sealings) [] s action are is = elim are [ ]

abbrev IsBelow : Sealing → Sealing → Type 0
IsBelow s r = s.client ≡ r.client → s.session ≡ r.session → r.id < s.id

all_append : (P : Sealing → Type 0) (sealings : List Sealing) (s : Sealing) → AllByRecursion P sealings → P s → AllByRecursion P (sealings ++ s ∷ [])
all_append P [] s all is = (is, tt)
all_append P (r ∷ sealings) s all is = (all.0, all_append P sealings s all.1 is)

rising_append : (sealings : List Sealing) (s : Sealing) → AllByRecursion (λ (r : Sealing). IsBelow s r) sealings → AreRising sealings → AreRising (sealings ++ s ∷ [])
rising_append [] s below rising = (tt, tt)
rising_append (r ∷ sealings) s below rising =
    (all_append (λ (q : Sealing). q.client ≡ r.client → q.session ≡ r.session → r.id < q.id) sealings s rising.0 below.0, rising_append sealings s below.1 rising.1)

-- an id above the last one lies above all that were sealed
all_below : (t u : Table) (sealings : List Sealing) (actions : List Action) (s : Sealing) → AreSealings t u sealings actions →
    sealed_by s.session (slice_get u.clients s.client) < s.id → AllByRecursion (λ (r : Sealing). IsBelow s r) sealings
all_below t u [] [] s are lt = tt
all_below t u (r ∷ sealings) (a ∷ actions) s are lt =
    let first = are.0 in (
      λ client session. let le = first.upto in
          let same : sealed_by s.session (slice_get u.clients s.client) ≡ sealed_by r.session (slice_get u.clients r.client)
          = ap (λ (k : ℕ). sealed_by k (slice_get u.clients s.client)) session ∙ ap (λ (n : ℕ). sealed_by r.session (slice_get u.clients n)) client in
          omega (arith, le, same, lt),
      all_below t u sealings actions s are.1 lt,
    )
all_below t u [] (a ∷ actions) s are lt = elim are [ ]
all_below t u (r ∷ sealings) [] s are lt = elim are [ ]

-- ---- courses

-- what a course has sealed since a table, and that its clients are those still
pub record HasSealed (t : Table) (c : Course) : Type 0 where
  pub good : Good c
  pub kept : AllKept t.clients c.table.clients
  pub rising : IsSealedRising t c

rising_then : (t : Table) (c d : Course) → AllKept c.table.clients d.table.clients → wires d.effects ≡ wires c.effects → IsSealedRising t c → IsSealedRising t d
rising_then t c d kept same is = record {
  sealings = is.sealings;
  are_sealings = subst (AreSealings t d.table is.sealings) (sym same) (all_later t c.table d.table is.sealings (wires c.effects) kept is.are_sealings);
  are_rising = is.are_rising;
}

more_quiet : (c : Course) (more : List Action) → carrying more ≡ [] → wires (c.effects ++ more) ≡ wires c.effects
more_quiet c more none = wires_more c.effects more (no_wires more none)

-- a step of a course
went : (t : Table) (c d : Course) → Good d → AllKept t.clients d.table.clients → AllKept c.table.clients d.table.clients → wires d.effects ≡ wires c.effects → HasSealed t c → HasSealed t d
went t c d good since kept same is = record { good = good; kept = since; rising = rising_then t c d kept same is.rising }

pub sealed_closed : (t : Table) → IsClosed (HasSealed t)
sealed_closed t = record {
  quiet = λ actions c none is.
      went t c (did_all actions c) is.good is.kept (all_same c.table.clients) (more_quiet c actions none) is;
  other = λ counted into outof stopped c is. record { good = is.good; kept = is.kept; rising = rising_then t c _ (all_same c.table.clients) refl is.rising };
  acts = λ n x o c here peer is.
      went t c (acted n x.address o c) (good_closed.acts n x o c here peer is.good) ((since_closed t.clients).acts n x o c here peer is.kept)
      ((since_closed c.table.clients).acts n x o c here peer (all_same c.table.clients))
      (more_quiet c (actions_of o.peer.role o.doings) (actions_quiet o.peer.role o.doings)) is;
  exchanges = λ n x ccd o c here known ex is.
      went t c (acted n x.address o c) (good_closed.exchanges n x ccd o c here known ex is.good) ((since_closed t.clients).exchanges n x ccd o c here known ex is.kept)
      ((since_closed c.table.clients).exchanges n x ccd o c here known ex (all_same c.table.clients))
      (more_quiet c (actions_of o.peer.role o.doings) (actions_quiet o.peer.role o.doings)) is;
  alters = λ n f c keeps is.
      went t c (client_changed n f c) (good_closed.alters n f c keeps is.good) ((since_closed t.clients).alters n f c keeps is.kept)
      ((since_closed c.table.clients).alters n f c keeps (all_same c.table.clients)) refl is;
  ends = λ n cause x c here is.
      went t c (ended_as n cause c (Some x)) (good_closed.ends n cause x c here is.good) ((since_closed t.clients).ends n cause x c here is.kept)
      ((since_closed c.table.clients).ends n cause x c here (all_same c.table.clients))
      (more_quiet c (ending_effects n cause x) (ending_quiet n cause x)) is;
  establishes = λ n conn x l c here ready is.
      went t c (established_at n conn x c l) (good_closed.establishes n conn x l c here ready is.good) ((since_closed t.clients).establishes n conn x l c here ready is.kept)
      ((since_closed c.table.clients).establishes n conn x l c here ready (all_same c.table.clients))
      (more_quiet c (reply c.table.settings x l conn ++ establishing_lines n x l.0)
      (carrying_more (reply c.table.settings x l conn) (establishing_lines n x l.0) (establishing_quiet n x l.0) ∙ reply_quiet c.table.settings x l conn)) is;
  admits = λ from draw c is.
      went t c (with_admitted (client_begun c.table from (session_begun c.table draw).peer) c) (good_closed.admits from draw c is.good) ((since_closed t.clients).admits from draw c is.kept)
      ((since_closed c.table.clients).admits from draw c (all_same c.table.clients)) refl is;
}

-- ---- sealing

-- the course once a packet was sealed in a session
abbrev sealed_course : List ℕ → ℕ → Client → Course → ℕ → Session → Keys → Course
sealed_course inner n x c k s keys = sealed_with n x c (packets.sealed_by x.session inner k s (Some keys) false)

sealed_one : (t : Table) (inner : List ℕ) (n : ℕ) (x : Client) (c : Course) (k : ℕ) (s : Session) (keys : Keys) → client_here c.table n ≡ Some x →
    slice_get x.session.sessions k ≡ Some s → keys_of s.stage ≡ Some keys → x.session.role ≡ roles.Server → Good (sealed_course inner n x c k s keys) →
    AllKept t.clients (sealed_course inner n x c k s keys).table.clients → AllKept c.table.clients (sealed_course inner n x c k s keys).table.clients → HasSealed t c →
    HasSealed t (sealed_course inner n x c k s keys)
sealed_one t inner n x c k s keys here there has role good since kept before =
    let e = sealed_course inner n x c k s keys in
    let g : Session → Session = λ s. record s { sealed = s.sealed + 1 } in
    let datagram = packets.sealed_under x.session.role keys (kid_of k) (s.sealed + 1) inner in
    let f : Client → Client = with_sent c.table.moment (packets.with_sealed k x.session) (length datagram) in
    let at = here_at c.table n x here in
    let one : Sealing = record { client = n; session = k; id = s.sealed + 1 } in
    let action : Action = Wire x.address datagram in
    let now : sealed_by k (slice_get c.table.clients n) ≡ s.sealed = ap (sealed_by k) at.there ∙ ap (λ (o : Option Session). sealed_in o) there in
    let client : slice_get e.table.clients n ≡ Some (f x) = get_changed n f c.table.clients x at.there in
    let session : slice_get (f x).session.sessions k ≡ Some (g s) = get_changed k g x.session.sessions s there in
    let then : sealed_by k (slice_get e.table.clients n) ≡ s.sealed + 1 = ap (sealed_by k) client ∙ ap (λ (o : Option Session). sealed_in o) session in
    let fell = never_falls t.clients c.table.clients n k before.kept in
    let new : IsSealing t e.table one action = record {
      to = x.address;
      inner = inner;
      keys = keys;
      has_keys = record { client = f x; client_there = client; session = g s; session_there = session; has_keys = has };
      is_packet = ap (λ (role : Role). Wire x.address (packets.sealed_under role keys (kid_of k) (s.sealed + 1) inner)) role;
      above = omega (arith, fell, now);
      upto = le_of_eq (sym then);
    } in
    record {
      good = good;
      kept = since;
      rising = record {
        sealings = before.rising.sealings ++ one ∷ [];
        are_sealings = subst (AreSealings t e.table (before.rising.sealings ++ one ∷ [])) (sym (wires_append c.effects (action ∷ [])))
            (sealings_append t e.table before.rising.sealings (wires c.effects) one action
            (all_later t c.table e.table before.rising.sealings (wires c.effects) kept before.rising.are_sealings) new);
        are_rising = rising_append before.rising.sealings one
            (all_below t c.table before.rising.sealings (wires c.effects) one before.rising.are_sealings (omega (arith, now))) before.rising.are_rising;
      };
    }

module _ (t : Table) (inner : List ℕ) (n : ℕ) (x : Client) (c : Course) (here : client_here c.table n ≡ Some x) (role : x.session.role ≡ roles.Server) (before : HasSealed t c) where
  -- nothing was sealed
  sealed_none : HasSealed t (reported (notes.KeySpent (cid n)) c)
  sealed_none = (sealed_closed t).quiet (Report (notes.KeySpent (cid n)) ∷ []) c refl before

  sealed_by_kept : (k : ℕ) (s : Session) (keys : Option Keys) (spent : Bool) → slice_get x.session.sessions k ≡ Some s → keys_of s.stage ≡ keys →
      Good (sealed_with n x c (packets.sealed_by x.session inner k s keys spent)) → AllKept t.clients (sealed_with n x c (packets.sealed_by x.session inner k s keys spent)).table.clients →
      AllKept c.table.clients (sealed_with n x c (packets.sealed_by x.session inner k s keys spent)).table.clients →
      HasSealed t (sealed_with n x c (packets.sealed_by x.session inner k s keys spent))
  sealed_by_kept k s (Some keys) false there has good since kept = sealed_one t inner n x c k s keys here there has role good since kept before
  sealed_by_kept k s (Some keys) true there has good since kept = sealed_none
  sealed_by_kept k s None spent there has good since kept = sealed_none

  sealed_in_kept : (k : Option ℕ) (s : Option Session) → session_at x.session.sessions k ≡ s → Good (sealed_with n x c (packets.sealed_in x.session inner k s)) →
      AllKept t.clients (sealed_with n x c (packets.sealed_in x.session inner k s)).table.clients →
      AllKept c.table.clients (sealed_with n x c (packets.sealed_in x.session inner k s)).table.clients → HasSealed t (sealed_with n x c (packets.sealed_in x.session inner k s))
  sealed_in_kept (Some k) (Some s) there good since kept = sealed_by_kept k s (keys_of s.stage) (packets.ids_are_spent s) there refl good since kept
  sealed_in_kept (Some k) None there good since kept = sealed_none
  sealed_in_kept None s there good since kept = sealed_none

  sealed_to_kept : Good (sealed_with n x c (packets.sealed_to inner x.session)) → AllKept t.clients (sealed_with n x c (packets.sealed_to inner x.session)).table.clients →
      AllKept c.table.clients (sealed_with n x c (packets.sealed_to inner x.session)).table.clients → HasSealed t (sealed_with n x c (packets.sealed_to inner x.session))
  unfolding packets.sealed_to
  sealed_to_kept good since kept =
      sealed_in_kept (newest_usable x.session.sessions) (session_at x.session.sessions (newest_usable x.session.sessions)) refl good since kept

pub sealed_deals : (t : Table) → DealsWith (HasSealed t)
sealed_deals t = record {
  seals = λ inner. record {
    seals = λ n x c here is.
        let role = (is.good.clients n x (here_at c.table n x here).there).role in
        sealed_to_kept t inner n x c here role is ((good_deals.seals inner).seals n x c here is.good) (((since_deals t.clients).seals inner).seals n x c here is.kept)
        (((since_deals c.table.clients).seals inner).seals n x c here (all_same c.table.clients));
  };
  learns = λ n host c owned is.
      let d : Course = record c { table = record c.table { routes = with_host host (cid n) c.table.routes } } in
      went t c d (good_deals.learns n host c owned is.good) is.kept (all_same c.table.clients) refl is;
  queues = λ inner c few is.
      let d : Course = record c { table = record c.table { queue = c.table.queue ++ inner ∷ [] } } in
      went t c d (good_deals.queues inner c few is.good) is.kept (all_same c.table.clients) refl is;
  dequeues = λ packet rest c same is.
      let d = did (Device packet) (record c { table = record c.table { queue = rest } }) in
      went t c d (good_deals.dequeues packet rest c same is.good) is.kept (all_same c.table.clients) (wires_more c.effects (Device packet ∷ []) refl) is;
}

-- ---- a step, and a run

none_sealed : (t : Table) (c : Course) → c.effects ≡ [] → IsSealedRising t c
none_sealed t c none = record {
  sealings = [];
  are_sealings = subst (λ (effects : List Action). AreSealings t c.table [] (wires effects)) (sym none) tt;
  are_rising = tt;
}

pub step_rising : (lacks : Bool) (t : Table) (event : Event) → IsWellKept t → IsSealedRising t (step lacks t event)
step_rising lacks t event kept =
    by_over (IsSealedRising t) lacks t event (none_sealed t (course_of t) refl)
    (λ goes. (came_kept (sealed_closed t) (sealed_deals t)
    (λ to c is. record { good = is.good; kept = is.kept; rising = rising_then t c _ (all_same c.table.clients) refl is.rising }) lacks event.draw event.kind (course_begun t event)
    (record { good = good_begun t event kept; kept = all_same t.clients; rising = none_sealed t (course_begun t event) refl })).rising)

pub run_since : (entries : List Entry) (t : Table) → AllKept t.clients (after_all t entries).clients
run_since [] t = all_same t.clients
run_since (entry ∷ entries) t =
    all_then t.clients (after t entry).clients (after_all (after t entry) entries).clients (lacking_since t entry.0 entry.1) (run_since entries (after t entry))

-- what is sealed later has a later id
pub later_id : (t : Table) (entry : Entry) (between : List Entry) (v : Table) (a b : Sealing) (x y : Action) → IsSealing t (after t entry) a x →
    IsSealing (after_all (after t entry) between) v b y → a.client ≡ b.client → a.session ≡ b.session → a.id < b.id
later_id t entry between v a b x y first second client session =
    let u = after_all (after t entry) between in
    let one = first.upto in
    let two = never_falls (after t entry).clients u.clients a.client a.session (run_since between (after t entry)) in
    let same : sealed_by a.session (slice_get u.clients a.client) ≡ sealed_by b.session (slice_get u.clients b.client)
    = ap (λ (k : ℕ). sealed_by k (slice_get u.clients a.client)) session ∙ ap (λ (n : ℕ). sealed_by b.session (slice_get u.clients n)) client in
    let three = second.above in
    omega (arith, one, two, same, three)
