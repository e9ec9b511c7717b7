-- What becomes of an inner packet.
use Rattle.std.proofs.Common.{◌≡◌, ℕ, zero, suc, ◌+◌, ◌-◌, ◌^◌, ◌&&◌, not, Bool, true, false, List, [], ◌∷◌, ◌++◌, length, map, Option, Some, None, is_some, option_map, refl, sym, ap, ap₂, ◌∙◌, subst, inl, inr, arith, append-nil, nat_lt, nat_le, bytes_eq, leb-true, Result, Ok}
use Rattle.std.specs.Prelude.{◌⊎◌, slice_get, if◌then◌else◌}
use Rattle.std.specs.List.{AllByRecursion, list_all, list_any}
use Rattle.std.proofs.lemmas.Bool.{and_from, and_parts, eqb-true, false≢true, or_cases}
use lib.Pointwise.{bytes_decides}
use Rattle.vpn_base.specs.declared.address.Addr.{Addr}
use Rattle.vpn_base.specs.declared.address.Ip4.{Ip4}
use Rattle.vpn_base.specs.declared.names.Cid.{Cid}
use Rattle.vpn_base.specs.declared.names.Role.{Role}
use Rattle.vpn_base.specs.declared.names.Role.TheVariants as roles
use Rattle.vpn_base.specs.Network.{Network, contains}
use Rattle.vpn_links.specs.Actions.{Action, Report, Wire, on_wire}
use Rattle.vpn_links.specs.declared.notes.Note.{Note}
use Rattle.vpn_links.specs.declared.notes.Note.TheVariants as notes
use Rattle.ip_packets.specs.Inner.{destination, source}
use Rattle.packet_ids.specs.declared.sending.Spent as sending
use Rattle.route_table.specs.Owner.{Row, best_row, better, owner}
use Rattle.route_table.specs.Learned.{is_learned, rows_of}
use Rattle.ovpn_config.specs.declared.settings.Settings.{Settings}
use Rattle.inner_verdict.specs.declared.Verdict.{Verdict}
use Rattle.inner_verdict.specs.declared.Verdict.TheVariants.{NotIp, TooLong, Multicast, BadSource, ToClient, ToDevice, NoRoute}
use Rattle.inner_verdict.specs.Verdict.{verdict}
use Rattle.peer_table.specs.Places.{changed_at, last_place, later}
use Rattle.peer_table.specs.KeySessions.{Keys, Keyed, Named, Opening, Session, Stage, has_keys, is_keyed, keys_of, kid_of, newest_usable, session_at}
use Rattle.peer_table.specs.DataPackets as packets
use Rattle.peer_table.specs.Peer.{Outcome, Peer}
use Rattle.server_table.specs.Table.{Client, Established, Table}
use Rattle.server_table.specs.Lookups.{cid, client_here, is_address}
use Rattle.server_table.specs.Courses.{Course, Staged, reported}
use Rattle.server_table.specs.DataDatagrams.{carried, carried_as, is_taken, moved, moved_if, passed, ping}
use Rattle.server_table.specs.InnerPackets.{is_host_of, learned, learned_unless_lacking, learned_where, most_queued, queued, queued_unless_full, sealed_as, sealed_for, sealed_to, sealed_with, with_sent}
use Rattle.server_table.specs.Establishing.{networks_of}
use Rattle.server_table.specs.Sound.{IsEstablishedAt}
use Rattle.server_table.specs.Step.{device_came, device_passed}
use Rattle.server_laws.specs.Accepted.{IsLastWithKeys}
use Rattle.server_laws.specs.HandedOn.{DoesLast, GoesOn, IsDealtWith, IsKeySpent, IsQueued, IsReason, IsReported, IsSealed, IsSealedTo, IsSpentFor, is_aside, sealed_by, sealed_in, verdict_on}
use Rattle.server_laws.specs.WellKept.{AreNamed, AreThoseEstablished, HaveKeys, rows_at, rows_for, rows_with}
use Rattle.server_table.proofs.Places.{get_changed, none_some, some_same}
use Rattle.server_table.proofs.Keeps.{here_at}
use Rattle.server_laws.proofs.Closed.{here_from}
use Rattle.server_laws.proofs.ClosedSteps.{learned_kept, moved_kept}
use Rattle.server_laws.proofs.KeptTables.{Good, good_closed, good_deals}
use Rattle.server_laws.proofs.Opening.{last_is}
use Rattle.server_laws.proofs.Rows.{at_changed}
use Rattle.server_laws.proofs.Verdicts.{client_has_route, device_needs_no_source, device_not_to_device, owned_to_client, owned_to_device, target_of}

-- ---- what a step does

pub asides_append : (xs ys : List Action) → list_all is_aside xs ≡ true → list_all is_aside ys ≡ true → list_all is_aside (xs ++ ys) ≡ true
asides_append [] ys all more = more
asides_append (x ∷ xs) ys all more =
    let p = and_parts (is_aside x) (list_all is_aside xs) all in and_from (is_aside x) (list_all is_aside (xs ++ ys)) p.0 (asides_append xs ys p.1 more)

pub outs_alone : (effects : List Action) (staged : List Staged) → staged ≡ [] → effects ++ map (λ (s : Staged). on_wire s.datagram) staged ≡ effects
outs_alone effects staged none = ap (λ (staged : List Staged). effects ++ map (λ (s : Staged). on_wire s.datagram) staged) none ∙ append-nil effects

-- what was done is asides, and then this
does_last : (asides last : List Action) (c : Course) → list_all is_aside asides ≡ true → c.effects ≡ asides ++ last → c.staged ≡ [] → DoesLast last c
does_last asides last c are effects none = record { asides = asides; are_asides = are; all = outs_alone c.effects c.staged none ∙ effects }

-- ---- a packet is about to be carried

-- the queue, the rows and the settings are those that the step found, all that was done are asides, and the table is well kept
pub record IsAbout (t : Table) (c : Course) : Type 0 where
  pub queue : c.table.queue ≡ t.queue
  pub rows : c.table.routes.rows ≡ t.routes.rows
  pub settings : c.table.settings ≡ t.settings
  pub asides : list_all is_aside c.effects ≡ true
  pub staged : c.staged ≡ []
  pub sealed : (n k : ℕ) → sealed_by k (slice_get c.table.clients n) ≡ sealed_by k (slice_get t.clients n)
  pub good : Good c

verdict_same : {t : Table} {c : Course} → IsAbout t c → (from : Option ℕ) (inner : List ℕ) → verdict_on c.table from inner ≡ verdict_on t from inner
verdict_same {t = t} {c = c} is None inner =
    ap₂ (λ (rows : List Row) (s : Settings). verdict rows s.net s.between None inner) is.rows is.settings
verdict_same {t = t} {c = c} is (Some n) inner =
    ap₂ (λ (rows : List Row) (s : Settings). verdict rows s.net s.between (Some (cid n)) inner) is.rows is.settings

module _ {t : Table} where
  moved_if_about : (n : ℕ) (from : Addr) (c : Course) (b : Bool) → Good (moved_if n from c b) → IsAbout t c → IsAbout t (moved_if n from c b)
  moved_if_about n from c false good is = is
  moved_if_about n from c true good is = record {
    queue = is.queue;
    rows = is.rows;
    settings = is.settings;
    asides = asides_append c.effects (Report (notes.Moved (cid n) from) ∷ []) is.asides refl;
    staged = is.staged;
    sealed = λ i k. at_changed (sealed_by k) n (λ (x : Client). record x { address = from }) c.table.clients i (λ y there e. refl) ∙ is.sealed i k;
    good = good;
  }

  pub moved_about : (n : ℕ) (from : Addr) (x : Client) (c : Course) → IsAbout t c → IsAbout t (moved n from x c)
  moved_about n from x c is =
      moved_if_about n from c (not (is_address x.address from) && not (is_taken c.table n from x.session.remote)) (moved_kept good_closed n from x c is.good) is

  learned_unless_about : (n : ℕ) (host : Ip4) (c : Course) (b : Bool) → Good (learned_unless_lacking n host c b) → IsAbout t c → IsAbout t (learned_unless_lacking n host c b)
  learned_unless_about n host c true good is = record {
    queue = is.queue;
    rows = is.rows;
    settings = is.settings;
    asides = asides_append c.effects (Report (notes.NotLearned (cid n) host) ∷ []) is.asides refl;
    staged = is.staged;
    sealed = is.sealed;
    good = good;
  }
  learned_unless_about n host c false good is = record {
    queue = is.queue;
    rows = is.rows;
    settings = is.settings;
    asides = is.asides;
    staged = is.staged;
    sealed = is.sealed;
    good = good;
  }

  learned_where_about : (lacks : Bool) (n : ℕ) (host : Ip4) (c : Course) (b : Bool) → Good (learned_where lacks n host c b) → IsAbout t c → IsAbout t (learned_where lacks n host c b)
  learned_where_about lacks n host c true good is = learned_unless_about n host c (lacks && not (is_learned c.table.routes.learned host)) good is
  learned_where_about lacks n host c false good is = is

  learned_about : (lacks : Bool) (n : ℕ) (host : Ip4) (c : Course) → owner c.table.routes.rows host ≡ Some (cid n) → IsAbout t c → IsAbout t (learned lacks n host c)
  unfolding learned
  learned_about lacks n host c owned is =
      learned_where_about lacks n host c (is_host_of host (client_here c.table n)) (learned_kept good_closed good_deals lacks n host c owned is.good) is

-- ---- who owns an address is established

abbrev HoldsOf : (Row → Type 0) → Option Row → Type 0
HoldsOf P None = Unit {0}
HoldsOf P (Some row) = P row

if_holds : (P : Row → Type 0) (b : Bool) (x y : Option Row) → HoldsOf P x → HoldsOf P y → HoldsOf P (if b then x else y)
if_holds P true x y p q = p
if_holds P false x y p q = q

better_holds : (P : Row → Type 0) (a : Ip4) (row : Row) (o : Option Row) → P row → HoldsOf P o → HoldsOf P (better a row o)
better_holds P a row None p q = if_holds P (contains row.0 a) (Some row) None p tt
better_holds P a row (Some later) p q = if_holds P (contains row.0 a && nat_lt later.0.len row.0.len) (Some row) (Some later) p q

best_holds : (P : Row → Type 0) (rows : List Row) (a : Ip4) → AllByRecursion P rows → HoldsOf P (best_row rows a)
best_holds P [] a all = tt
best_holds P (row ∷ rows) a all = better_holds P a row (best_row rows a) all.0 (best_holds P rows a all.1)

abbrev IsOfEstablished : List Client → Row → Type 0
IsOfEstablished clients row = IsEstablishedAt clients row.1.0

all_append : (P : Row → Type 0) (xs ys : List Row) → AllByRecursion P xs → AllByRecursion P ys → AllByRecursion P (xs ++ ys)
all_append P [] ys all more = more
all_append P (x ∷ xs) ys all more = (all.0, all_append P xs ys all.1 more)

networks_hold : (clients : List Client) (n : ℕ) (networks : List Network) → IsEstablishedAt clients n → AllByRecursion (IsOfEstablished clients) (rows_of (cid n) networks)
networks_hold clients n [] is = tt
networks_hold clients n (network ∷ networks) is = (is, networks_hold clients n networks is)

with_hold : (clients : List Client) (n : ℕ) (x : Client) (e : Option Established) → IsEstablishedAt clients n → AllByRecursion (IsOfEstablished clients) (rows_with n x e)
with_hold clients n x None is = tt
with_hold clients n x (Some e) is = networks_hold clients n (networks_of x e.address) is

at_hold : (clients : List Client) (n : ℕ) (x : Option Client) → IsEstablishedAt clients n → AllByRecursion (IsOfEstablished clients) (rows_at n x)
at_hold clients n None is = tt
at_hold clients n (Some x) is = with_hold clients n x x.established is

for_hold : (clients : List Client) (order : List ℕ) → AllByRecursion (IsEstablishedAt clients) order → AllByRecursion (IsOfEstablished clients) (rows_for clients order)
for_hold clients [] all = tt
for_hold clients (n ∷ order) all =
    all_append (IsOfEstablished clients) (rows_at n (slice_get clients n)) (rows_for clients order) (at_hold clients n (slice_get clients n) all.0) (for_hold clients order all.1)

owner_holds : (P : Row → Type 0) (Q : ℕ → Type 0) (o : Option Row) (id : Cid) → ((row : Row) → P row → Q row.1.0) → HoldsOf P o → option_map (λ (row : Row). row.1) o ≡ Some id → Q id.0
owner_holds P Q None id to holds e = absurd (none_some e)
owner_holds P Q (Some row) id to holds e = subst (λ (i : Cid). Q i.0) (some_same e) (to row holds)

-- the owner of an address is a client that is here and established
pub owner_established : (clients : List Client) (moment : ℕ) (rows : List Row) (a : Ip4) (id : Cid) → AreThoseEstablished clients moment rows → owner rows a ≡ Some id →
    IsEstablishedAt clients id.0
unfolding owner
owner_established clients moment rows a id is e =
    owner_holds (IsOfEstablished clients) (IsEstablishedAt clients) (best_row rows a) id (λ row at. at)
    (best_holds (IsOfEstablished clients) rows a
    (subst (λ (rows : List Row). AllByRecursion (IsOfEstablished clients) rows) (sym is.are_theirs) (for_hold clients is.order is.established))) e

-- ---- the newest usable keys

last_keyed : (ss : List Session) → HaveKeys ss → is_some (last_place has_keys ss) ≡ true
last_keyed [] is = absurd (false≢true is)
last_keyed (s ∷ ss) is = step (last_place has_keys ss) (or_cases (has_keys s) (list_any has_keys ss) is) (last_keyed ss)
  where
    step : (o : Option ℕ) → (has_keys s ≡ true) ⊎ (list_any has_keys ss ≡ true) → (list_any has_keys ss ≡ true → is_some o ≡ true) → is_some (later (has_keys s) o) ≡ true
    step (Some n) e ih = refl
    step None (inl e) ih = ap (λ (b : Bool). is_some (later b None)) e
    step None (inr e) ih = absurd (false≢true (ih e))

record KeysIn (s : Session) : Type 0 where
  keys : Keys
  has : keys_of s.stage ≡ Some keys

keys_in : (stage : Stage) → (s : Session) → s.stage ≡ stage → has_keys s ≡ true → KeysIn s
keys_in Opening s is e = absurd (false≢true (sym (ap (λ (stage : Stage). is_keyed stage) is) ∙ e))
keys_in Named s is e = absurd (false≢true (sym (ap (λ (stage : Stage). is_keyed stage) is) ∙ e))
keys_in (Keyed keys) s is e = record { keys = keys; has = ap (λ (stage : Stage). keys_of stage) is }

-- the session that seals
record Sealer (p : Peer) : Type 0 where
  number : ℕ
  newest : newest_usable p.sessions ≡ Some number
  last : IsLastWithKeys p.sessions number
  session : Session
  there : slice_get p.sessions number ≡ Some session
  keys : Keys
  has : keys_of session.stage ≡ Some keys

sealer_of : (p : Peer) (o : Option ℕ) → newest_usable p.sessions ≡ o → is_some o ≡ true → Sealer p
unfolding newest_usable
sealer_of p None is e = absurd (false≢true e)
sealer_of p (Some n) is e =
    let l = last_is p.sessions n is in
    let k = keys_in l.session.stage l.session refl l.keyed in
    record { number = n; newest = is; last = l; session = l.session; there = l.there; keys = k.keys; has = k.has }

sealer : (p : Peer) → HaveKeys p.sessions → Sealer p
unfolding newest_usable
sealer p keys = sealer_of p (last_place has_keys p.sessions) refl (last_keyed p.sessions keys)

-- sealing changes no keys
keyed_same : (n : ℕ) (g : Session → Session) (ss : List Session) → ((s : Session) → has_keys (g s) ≡ has_keys s) → last_place has_keys (changed_at n g ss) ≡ last_place has_keys ss
keyed_same n g [] same = refl
keyed_same zero g (s ∷ ss) same = ap (λ (b : Bool). later b (last_place has_keys ss)) (same s)
keyed_same (suc n) g (s ∷ ss) same = ap (λ (o : Option ℕ). later (has_keys s) o) (keyed_same n g ss same)

newest_same : (n : ℕ) (ss : List Session) → newest_usable (changed_at n (λ s. record s { sealed = s.sealed + 1 }) ss) ≡ newest_usable ss
unfolding newest_usable
newest_same n ss = keyed_same n (λ s. record s { sealed = s.sealed + 1 }) ss (λ s. refl)

newest_last : (n : ℕ) (ss : List Session) → newest_usable (changed_at n (λ s. record s { sealed = s.sealed + 1 }) ss) ≡ Some n →
    IsLastWithKeys (changed_at n (λ s. record s { sealed = s.sealed + 1 }) ss) n
unfolding newest_usable
newest_last n ss is = last_is (changed_at n (λ s. record s { sealed = s.sealed + 1 }) ss) n is

-- what sealing answers
sealed_answers : (p : Peer) (inner : List ℕ) (s : Sealer p) → packets.sealed_to inner p ≡ packets.sealed_by p inner s.number s.session (Some s.keys) (packets.ids_are_spent s.session)
unfolding packets.sealed_to
sealed_answers p inner s =
    ap (λ (n : Option ℕ). packets.sealed_in p inner n (session_at p.sessions n)) s.newest
    ∙ ap (λ (x : Option Session). packets.sealed_in p inner (Some s.number) x) s.there
    ∙ ap (λ (k : Option Keys). packets.sealed_by p inner s.number s.session k (packets.ids_are_spent s.session)) s.has

-- ---- it goes to a client

-- sealed, or the last packet id was used
pub data GoesTo (n : ℕ) (inner : List ℕ) (c d : Course) : Type 0 where
  Sent : (action : Action) → IsSealedTo c.table d.table n inner action → d.effects ≡ c.effects ++ action ∷ [] → d.staged ≡ c.staged → d.table.queue ≡ c.table.queue → GoesTo n inner c d
  Spent : IsKeySpent d.table n → d.effects ≡ c.effects ++ Report (notes.KeySpent (cid n)) ∷ [] → d.staged ≡ c.staged → d.table.queue ≡ c.table.queue → GoesTo n inner c d

goes_by : (n : ℕ) (inner : List ℕ) (c : Course) (y : Client) (s : Sealer y.session) (b : Bool) → client_here c.table n ≡ Some y → y.session.role ≡ roles.Server →
    AreNamed y.peer_id y.session.sessions → packets.ids_are_spent s.session ≡ b →
    GoesTo n inner c (sealed_with n y c (packets.sealed_by y.session inner s.number s.session (Some s.keys) b))
goes_by n inner c y s true here role names spent =
    Spent (record {
      client = y;
      client_here = here;
      number = s.number;
      is_newest = s.last;
      session = s.session;
      session_there = s.there;
      is_spent = eqb-true s.session.sealed (2 ^ 32 - 1) spent;
    }) refl refl refl
goes_by n inner c y s false here role names spent =
    let g : Session → Session = λ s. record s { sealed = s.sealed + 1 } in
    let peer = packets.with_sealed s.number y.session in
    let datagram = packets.sealed_under y.session.role s.keys (kid_of s.number) (s.session.sealed + 1) inner in
    let f : Client → Client = with_sent c.table.moment peer (length datagram) in
    let at = here_at c.table n y here in
    let d = sealed_as n y c peer (Ok datagram) in
    Sent (Wire y.address datagram) (record {
      client = f y;
      client_here = here_from d.table n (f y) (get_changed n f c.table.clients y at.there) at.here;
      number = s.number;
      is_newest = newest_last s.number y.session.sessions (newest_same s.number y.session.sessions ∙ s.newest);
      session = g s.session;
      session_there = get_changed s.number g y.session.sessions s.session s.there;
      keys = s.keys;
      has_keys = s.has;
      names = names s.number s.session s.keys s.there s.has;
      is_packet = ap (λ (role : Role). Wire y.address (packets.sealed_under role s.keys (kid_of s.number) (s.session.sealed + 1) inner)) role;
      is_next = ap (λ (id : ℕ). id + 1) (sym (ap (sealed_by s.number) at.there ∙ ap (λ (o : Option Session). sealed_in o) s.there));
    }) refl refl refl

goes_here : (n : ℕ) (inner : List ℕ) (c : Course) (y : Option Client) → client_here c.table n ≡ y → is_some y ≡ true →
    ((x : Client) → y ≡ Some x → (x.session.role ≡ roles.Server) × AreNamed x.peer_id x.session.sessions × HaveKeys x.session.sessions) → GoesTo n inner c (sealed_for n inner c y)
goes_here n inner c None here some is = absurd (false≢true some)
goes_here n inner c (Some y) here some is =
    let k = is y refl in
    let s = sealer y.session k.2 in
    subst (λ (o : Outcome (Result (List ℕ) sending.Spent)). GoesTo n inner c (sealed_with n y c o)) (sym (sealed_answers y.session inner s))
    (goes_by n inner c y s (packets.ids_are_spent s.session) here k.0 k.1 refl)

pub goes_to : (n : ℕ) (inner : List ℕ) (c : Course) → Good c → IsEstablishedAt c.table.clients n → GoesTo n inner c (sealed_to n inner c)
unfolding sealed_to
goes_to n inner c good e =
    let here : client_here c.table n ≡ Some e.client = here_from c.table n e.client e.there e.here in
    goes_here n inner c (client_here c.table n) refl (ap (λ (o : Option Client). is_some o) here)
    (λ x is. let there = (here_at c.table n x is).there in
    let same : e.client ≡ x = some_same (sym e.there ∙ there) in
    let k = good.clients n x there in
    (k.role, k.named, k.established (subst (λ (y : Client). is_some y.established ≡ true) same e.established)))

-- a client's packet always has a route, and one of the device does not go back to it
pub always_routed : (t : Table) (n : ℕ) (inner : List ℕ) → verdict_on t (Some n) inner ≡ NoRoute → ⊥
always_routed t n inner v = client_has_route t.routes.rows t.settings.net t.settings.between n inner v

pub never_back : (t : Table) (inner : List ℕ) → verdict_on t None inner ≡ ToDevice → ⊥
never_back t inner v = device_not_to_device t.routes.rows t.settings.net t.settings.between inner v

-- the client that the verdict names owns the destination
pub target_owns : (t : Table) (from : Option ℕ) (inner : List ℕ) (target : Cid) → verdict_on t from inner ≡ ToClient target → owner t.routes.rows (destination inner) ≡ Some target
target_owns t None inner target v = target_of t.routes.rows t.settings.net t.settings.between None inner target v
target_owns t (Some n) inner target v = target_of t.routes.rows t.settings.net t.settings.between (Some (cid n)) inner target v

-- the client that the verdict names is here and established
target_established : (from : Option ℕ) (inner : List ℕ) (target : Cid) (c : Course) → verdict_on c.table from inner ≡ ToClient target → Good c → IsEstablishedAt c.table.clients target.0
target_established None inner target c v good =
    owner_established c.table.clients c.table.moment c.table.routes.rows _ target good.rows
    (target_of c.table.routes.rows c.table.settings.net c.table.settings.between None inner target v)
target_established (Some n) inner target c v good =
    owner_established c.table.clients c.table.moment c.table.routes.rows _ target good.rows
    (target_of c.table.routes.rows c.table.settings.net c.table.settings.between (Some (cid n)) inner target v)

-- what was sealed since a course begins, was since the table that the step found
since_table : (t : Table) (c d : Course) (n : ℕ) (inner : List ℕ) (action : Action) → IsAbout t c → IsSealedTo c.table d.table n inner action → IsSealedTo t d.table n inner action
since_table t c d n inner action is sealed = record {
  client = sealed.client;
  client_here = sealed.client_here;
  number = sealed.number;
  is_newest = sealed.is_newest;
  session = sealed.session;
  session_there = sealed.session_there;
  keys = sealed.keys;
  has_keys = sealed.has_keys;
  names = sealed.names;
  is_packet = sealed.is_packet;
  is_next = sealed.is_next ∙ ap (λ (id : ℕ). id + 1) (is.sealed n sealed.number);
}

module _ {t : Table} where
  -- a packet that the verdict sends to a client
  to_client_dealt : (from : Option ℕ) (inner : List ℕ) (target : Cid) (c d : Course) → verdict_on t from inner ≡ ToClient target → IsAbout t c → GoesTo target.0 inner c d →
      IsDealtWith t from inner d
  to_client_dealt from inner target c d v is (Sent action sealed effects staged queue) =
      GoesOn (IsSealed target.0 action v (since_table t c d target.0 inner action is sealed) (queue ∙ is.queue) (does_last c.effects (action ∷ []) d is.asides effects (staged ∙ is.staged)))
  to_client_dealt from inner target c d v is (Spent spent effects staged queue) =
      IsReported (notes.KeySpent target) (subst (λ (v : Verdict). IsSpentFor d.table target v) (sym v) (refl, spent)) (queue ∙ is.queue)
      (does_last c.effects (Report (notes.KeySpent target) ∷ []) d is.asides effects (staged ∙ is.staged))

  reported_dealt : (from : Option ℕ) (inner : List ℕ) (note : Note) (c : Course) → IsReason t c.table from inner note → IsAbout t c → IsDealtWith t from inner (reported note c)
  reported_dealt from inner note c why is =
      IsReported note why is.queue (does_last c.effects (Report note ∷ []) (reported note c) is.asides refl is.staged)

  queued_dealt : (n : ℕ) (inner : List ℕ) (c : Course) (b : Bool) → nat_le most_queued (length c.table.queue) ≡ b → verdict_on t (Some n) inner ≡ ToDevice → IsAbout t c →
      IsDealtWith t (Some n) inner (queued_unless_full n inner c b)
  queued_dealt n inner c true full v is =
      reported_dealt (Some n) inner (notes.QueueFull (cid n)) c
      (refl, v, (let le = leb-true most_queued (length c.table.queue) full in let e = ap (λ (queue : List (List ℕ)). length queue) is.queue in omega (arith, le, e))) is
  queued_dealt n inner c false full v is =
      let d = queued_unless_full n inner c false in
      GoesOn (IsQueued v (ap (λ (queue : List (List ℕ)). queue ++ inner ∷ []) is.queue) (does_last c.effects [] d is.asides (sym (append-nil c.effects)) is.staged))

  queued_by : (n : ℕ) (inner : List ℕ) (c : Course) → verdict_on t (Some n) inner ≡ ToDevice → IsAbout t c → IsDealtWith t (Some n) inner (queued n inner c)
  unfolding queued
  queued_by n inner c v is = queued_dealt n inner c (nat_le most_queued (length c.table.queue)) refl v is

  -- a packet that a client sent
  passed_dealt : (lacks : Bool) (n : ℕ) (inner : List ℕ) (c : Course) (v : Verdict) → verdict_on c.table (Some n) inner ≡ v → IsAbout t c →
      IsDealtWith t (Some n) inner (passed lacks n inner c v)
  passed_dealt lacks n inner c NotIp v is = reported_dealt (Some n) inner (notes.NotIp (Some (cid n))) c (refl, sym (verdict_same is (Some n) inner) ∙ v) is
  passed_dealt lacks n inner c TooLong v is = reported_dealt (Some n) inner (notes.TooLong (Some (cid n))) c (refl, sym (verdict_same is (Some n) inner) ∙ v) is
  passed_dealt lacks n inner c Multicast v is = reported_dealt (Some n) inner (notes.Multicast (Some (cid n))) c (refl, sym (verdict_same is (Some n) inner) ∙ v) is
  passed_dealt lacks n inner c (BadSource found) v is = reported_dealt (Some n) inner (notes.BadSource (cid n) found) c (refl, sym (verdict_same is (Some n) inner) ∙ v) is
  passed_dealt lacks n inner c NoRoute v is = absurd (client_has_route c.table.routes.rows c.table.settings.net c.table.settings.between n inner v)
  passed_dealt lacks n inner c ToDevice v is =
      let e = learned lacks n (source inner) c in
      let owned = owned_to_device c.table.routes.rows c.table.settings.net c.table.settings.between n inner v in
      queued_by n inner e (sym (verdict_same is (Some n) inner) ∙ v) (learned_about lacks n (source inner) c owned is)
  passed_dealt lacks n inner c (ToClient target) v is =
      let e = learned lacks n (source inner) c in
      let owned = owned_to_client c.table.routes.rows c.table.settings.net c.table.settings.between n inner target v in
      let about = learned_about lacks n (source inner) c owned is in
      let known : verdict_on t (Some n) inner ≡ ToClient target = sym (verdict_same is (Some n) inner) ∙ v in
      to_client_dealt (Some n) inner target e (sealed_to target.0 inner e) known about
      (goes_to target.0 inner e about.good (target_established (Some n) inner target e (verdict_same about (Some n) inner ∙ known) about.good))

  carried_as_dealt : (lacks : Bool) (n : ℕ) (inner : List ℕ) (c : Course) (b : Bool) → bytes_eq inner ping ≡ b → IsAbout t c → IsDealtWith t (Some n) inner (carried_as lacks n inner c b)
  carried_as_dealt lacks n inner c true pinged is = reported_dealt (Some n) inner (notes.Ping (cid n)) c (refl, (bytes_decides inner ping).0 pinged) is
  carried_as_dealt lacks n inner c false pinged is = passed_dealt lacks n inner c (verdict_on c.table (Some n) inner) refl is

  pub carried_dealt : (lacks : Bool) (n : ℕ) (inner : List ℕ) (c : Course) → IsAbout t c → IsDealtWith t (Some n) inner (carried lacks n inner c)
  unfolding carried
  carried_dealt lacks n inner c is = carried_as_dealt lacks n inner c (bytes_eq inner ping) refl is

  -- a packet of the device
  device_dealt : (inner : List ℕ) (c : Course) (v : Verdict) → verdict_on c.table None inner ≡ v → IsAbout t c → IsDealtWith t None inner (device_passed inner c v)
  device_dealt inner c NotIp v is = reported_dealt None inner (notes.NotIp None) c (refl, sym (verdict_same is None inner) ∙ v) is
  device_dealt inner c TooLong v is = reported_dealt None inner (notes.TooLong None) c (refl, sym (verdict_same is None inner) ∙ v) is
  device_dealt inner c Multicast v is = reported_dealt None inner (notes.Multicast None) c (refl, sym (verdict_same is None inner) ∙ v) is
  device_dealt inner c (BadSource found) v is = absurd (device_needs_no_source c.table.routes.rows c.table.settings.net c.table.settings.between inner found v)
  device_dealt inner c ToDevice v is = absurd (device_not_to_device c.table.routes.rows c.table.settings.net c.table.settings.between inner v)
  device_dealt inner c NoRoute v is = reported_dealt None inner notes.NoRoute c (refl, sym (verdict_same is None inner) ∙ v) is
  device_dealt inner c (ToClient target) v is =
      to_client_dealt None inner target c (sealed_to target.0 inner c) (sym (verdict_same is None inner) ∙ v) is
      (goes_to target.0 inner c is.good (target_established None inner target c v is.good))

  pub device_came_dealt : (inner : List ℕ) (c : Course) → IsAbout t c → IsDealtWith t None inner (device_came inner c)
  unfolding device_came
  device_came_dealt inner c is = device_dealt inner c (verdict_on c.table None inner) refl is
