-- Every step keeps a table well.
use Rattle.std.proofs.Common.{◌≡◌, ◌≤◌, ℕ, zero, suc, ◌^◌, true, false, List, [], ◌∷◌, ◌++◌, length, Option, Some, None, is_some, refl, sym, ap, ◌∙◌, subst, inl, inr, arith, length-append, leb-false, nat_le}
use Rattle.std.specs.Prelude.{◌⊎◌, slice_get}
use Rattle.std.proofs.lemmas.Bool.{false≢true}
use Rattle.vpn_base.specs.declared.address.Addr.{Addr}
use Rattle.vpn_base.specs.declared.names.Draw.{Draw}
use Rattle.ccd_files.specs.declared.client_file.Ccd.{Ccd}
use Rattle.route_table.specs.Learned as routes
use Rattle.route_table.specs.Owner.{without}
use Rattle.opcode_codec.specs.declared.opcodes.Opcode.TheVariants.{ServerReset}
use Rattle.ovpn_config.specs.declared.settings.Settings.{Settings}
use Rattle.peer_table.specs.Places.{changed_at}
use Rattle.peer_table.specs.KeySessions.{Keys, Session, keys_of}
use Rattle.peer_table.specs.KeySessions as sessions
use Rattle.peer_table.specs.Peer.{Peer, began}
use Rattle.server_table.specs.Table.{Client, Established, FileState, Awaited, Known, Table, Unasked}
use Rattle.server_table.specs.Lookups.{cid, free_peer_id}
use Rattle.server_table.specs.Courses.{Course}
use Rattle.server_table.specs.ControlDatagrams.{client_begun, session_begun}
use Rattle.server_table.specs.Endings.{gone}
use Rattle.server_table.specs.Establishing.{ccd_in, host_route, networks_of, with_address}
use Rattle.server_table.specs.InnerPackets.{most_queued}
use Rattle.server_laws.specs.WellKept.{AreNamed, AreOfOwners, AreThoseEstablished, HaveKeys, IsClientKept, IsKnown, IsWellKept, rows_with}
use Rattle.server_table.proofs.Places.{WasChanged, got_appended, got_changed, none_some, some_same}
use Rattle.server_laws.proofs.Peers.{HadKeys, PeerExchanged, PeerKept, all_closed_kept, peer_same}
use Rattle.server_table.proofs.Keeps.{here_at}
use Rattle.server_laws.proofs.Closed.{ClientKept, DealsWith, IsClosed, IsReady, at_place}
use Rattle.server_laws.proofs.Rows.{StaysAt, appended_reads, changed_reads, ended_those, established_those, kept_owned, learnt_owned, reads_same}
use Rattle.server_laws.proofs.Everything.{seals_all}

-- ---- a client

record KnownAs (file : FileState) : Type 0 where
  ccd : Ccd
  is : file ≡ Known ccd

known_as : (file : FileState) → IsKnown file → KnownAs file
known_as (Known ccd) is = record { ccd = ccd; is = refl }
known_as (Awaited name) is = elim is [ ]
known_as Unasked is = elim is [ ]

known_later : (y z : Client) → ((ccd : Ccd) → y.file ≡ Known ccd → z.file ≡ Known ccd) → IsKnown y.file → IsKnown z.file
known_later y z file is = let k = known_as y.file is in subst IsKnown (sym (file k.ccd k.is)) tt

same_file : (y z : Client) → ((ccd : Ccd) → y.file ≡ Known ccd → z.file ≡ Known ccd) → IsKnown y.file → z.file ≡ y.file
same_file y z file is = let k = known_as y.file is in file k.ccd k.is ∙ sym k.is

client_kept : {g : Settings} (y z : Client) → z.peer_id ≡ y.peer_id → z.established ≡ y.established → PeerKept y.session z.session →
    ((ccd : Ccd) → y.file ≡ Known ccd → z.file ≡ Known ccd) → IsClientKept g y → IsClientKept g z
client_kept y z peer_id established session file is = record {
  role = session.role_same ∙ is.role;
  timers = session.timers_same ∙ is.timers;
  named = λ k s keys there has. let h = session.from k s keys there has in is.named k h.session keys h.there h.has ∙ sym peer_id;
  asked = λ e. session.keys (is.asked (sym session.asks_same ∙ e));
  established = λ e. session.keys (is.established (ap (λ (o : Option Established). is_some o) (sym established) ∙ e));
  known = λ e. known_later y z file (is.known (session.no_keys e));
}

same_rows : (n : ℕ) (y z : Client) (e : Option Established) → (is_some e ≡ true → z.file ≡ y.file) → rows_with n z e ≡ rows_with n y e
same_rows n y z None same = refl
same_rows n y z (Some e) same = ap (λ (file : FileState). routes.rows_of (cid n) (host_route e.address ∷ (ccd_in file).iroutes)) (same refl)

client_stays : {g : Settings} (n : ℕ) (y z : Client) → ClientKept y z → IsClientKept g y → StaysAt n y z
client_stays n y z kept is = record {
  here = kept.here;
  established = kept.established;
  rows = ap (rows_with n z) kept.established ∙ same_rows n y z y.established (λ e. same_file y z kept.file (is.known (is.established e)));
}

begun_named : (peer_id : ℕ) (x : Session) → keys_of x.stage ≡ None → AreNamed peer_id (x ∷ [])
begun_named peer_id x none zero s keys there has = absurd (none_some (sym none ∙ ap (λ (y : Session). keys_of y.stage) (some_same there) ∙ has))
begun_named peer_id x none (suc k) s keys there has = absurd (none_some there)

begun_kept : (from : Addr) (draw : Draw) (t : Table) → IsClientKept t.settings (client_begun t from (session_begun t draw).peer)
unfolding began
begun_kept from draw t = record {
  role = refl;
  timers = refl;
  named = begun_named (free_peer_id t) (sessions.session_begun t.settings.timers (record { 0 = t.connections }) 0 ServerReset t.moment) refl;
  asked = λ e. absurd (false≢true e);
  established = λ e. absurd (false≢true e);
  known = λ e. absurd (false≢true e);
}

-- ---- all clients

abbrev AllKept : Settings → List Client → Type 0
AllKept g clients = (n : ℕ) (x : Client) → slice_get clients n ≡ Some x → IsClientKept g x

all_changed : {g : Settings} (n : ℕ) (f : Client → Client) (clients : List Client) → ((y : Client) → slice_get clients n ≡ Some y → IsClientKept g y → IsClientKept g (f y)) →
    AllKept g clients → AllKept g (changed_at n f clients)
all_changed {g = g} n f clients keeps all i z there = go (got_changed n i f clients z there)
  where
    go : WasChanged n i f clients z ⊎ (slice_get clients i ≡ Some z) → IsClientKept g z
    go (inl w) = subst (IsClientKept g) (sym w.changed) (keeps w.item (subst (λ (k : ℕ). slice_get clients k ≡ Some w.item) w.place w.there) (all i w.item w.there))
    go (inr e) = all i z e

all_appended : {g : Settings} (clients : List Client) (x : Client) → IsClientKept g x → AllKept g clients → AllKept g (clients ++ x ∷ [])
all_appended {g = g} clients x is all i z there = go (got_appended clients x i z there)
  where
    go : ((i ≡ length clients) × (z ≡ x)) ⊎ (slice_get clients i ≡ Some z) → IsClientKept g z
    go (inl w) = subst (IsClientKept g) (sym w.1) is
    go (inr e) = all i z e

-- ---- tables

-- what holds of a well kept table, by its parts
pub record WellKeptParts (g : Settings) (m : ℕ) (cs : List Client) (r : routes.Table) (q : List (List ℕ)) : Type 0 where
  pub moment : m ≤ 2 ^ 52
  pub rows : AreThoseEstablished cs m r.rows
  pub hosts : AreOfOwners r.rows r.learned
  pub clients : AllKept g cs
  pub queue : length q ≤ most_queued

abbrev pub Good : Course → Type 0
Good c = WellKeptParts c.table.settings c.table.moment c.table.clients c.table.routes c.table.queue

pub parts_kept : (t : Table) → IsWellKept t → WellKeptParts t.settings t.moment t.clients t.routes t.queue
parts_kept t is = record { moment = is.moment; rows = is.rows; hosts = is.hosts; clients = is.clients; queue = is.queue }

pub whole_kept : (t : Table) → WellKeptParts t.settings t.moment t.clients t.routes t.queue → IsWellKept t
whole_kept t is = record { moment = is.moment; rows = is.rows; hosts = is.hosts; clients = is.clients; queue = is.queue }

changed_good : {g : Settings} {m : ℕ} {cs : List Client} {r : routes.Table} {q : List (List ℕ)} (n : ℕ) (f : Client → Client) →
    ((y : Client) → slice_get cs n ≡ Some y → IsClientKept g y → StaysAt n y (f y) × IsClientKept g (f y)) →
    WellKeptParts g m cs r q → WellKeptParts g m (changed_at n f cs) r q
changed_good {m = m} {cs = cs} {r = r} n f keeps is = record {
  moment = is.moment;
  rows = reads_same cs (changed_at n f cs) m r.rows (changed_reads n f cs (λ y there. (keeps y there (is.clients n y there)).0)) is.rows;
  hosts = is.hosts;
  clients = all_changed n f cs (λ y there kept. (keeps y there kept).1) is.clients;
  queue = is.queue;
}

altered_good : {g : Settings} {m : ℕ} {cs : List Client} {r : routes.Table} {q : List (List ℕ)} (n : ℕ) (f : Client → Client) →
    ((y : Client) → slice_get cs n ≡ Some y → ClientKept y (f y)) → WellKeptParts g m cs r q → WellKeptParts g m (changed_at n f cs) r q
altered_good n f keeps is =
    changed_good n f (λ y there kept. let k = keeps y there in (client_stays n y (f y) k kept, client_kept y (f y) k.peer_id k.established k.session.kept k.file kept)) is

exchanged_client : {g : Settings} (x : Client) (ccd : Ccd) (p : Peer) → x.file ≡ Known ccd → PeerExchanged x.peer_id x.session p → IsClientKept g x →
    IsClientKept g (record x { session = p })
exchanged_client x ccd p known ex is = record {
  role = ex.role_same ∙ is.role;
  timers = ex.timers_same ∙ is.timers;
  named = λ k s keys there has. named_by k keys (ex.from k s keys there has);
  asked = λ e. asks (ex.asks e);
  established = λ e. ex.keys (is.established e);
  known = λ e. subst IsKnown (sym known) tt;
}
  where
    named_by : (k : ℕ) (keys : Keys) → (keys.peer_id ≡ x.peer_id) ⊎ HadKeys x.session.sessions k keys → keys.peer_id ≡ x.peer_id
    named_by k keys (inl e) = e
    named_by k keys (inr h) = is.named k h.session keys h.there h.has

    asks : (x.session.asks_push ≡ true) ⊎ HaveKeys p.sessions → HaveKeys p.sessions
    asks (inl e) = ex.keys (is.asked e)
    asks (inr e) = e

ready_keys : {g : Settings} (x : Client) → IsReady x → IsClientKept g x → HaveKeys x.session.sessions
ready_keys x ready is = go ready.keys
  where
    go : (x.session.asks_push ≡ true) ⊎ HaveKeys x.session.sessions → HaveKeys x.session.sessions
    go (inl e) = is.asked e
    go (inr e) = e

-- everything that a step does keeps it
pub good_closed : IsClosed Good
good_closed = record {
  quiet = λ actions c quiet is. is;
  other = λ counted into outof stopped c is. is;
  acts = λ n x o c here peer is.
      altered_good n (λ y. record y { session = o.peer })
      (at_place (λ y. ClientKept y (record y { session = o.peer })) c.table.clients n x (here_at c.table n x here).there
      (record { here = refl; peer_id = refl; established = refl; session = peer; file = λ ccd e. e })) is;
  exchanges = λ n x ccd o c here known ex is.
      changed_good n (λ y. record y { session = o.peer })
      (at_place (λ y. IsClientKept c.table.settings y → StaysAt n y (record y { session = o.peer }) × IsClientKept c.table.settings (record y { session = o.peer })) c.table.clients n x (here_at c.table n x here).there
      (λ kept. (record { here = refl; established = refl; rows = refl }, exchanged_client x ccd o.peer known ex.kept kept))) is;
  alters = λ n f c keeps is. altered_good n f keeps is;
  ends = λ n cause x c here is. record {
    moment = is.moment;
    rows = ended_those c.table.clients n c.table.moment c.table.routes.rows is.rows;
    hosts = kept_owned (without c.table.routes.rows (cid n)) c.table.routes.learned;
    clients = all_changed n gone c.table.clients
        (λ y there kept. client_kept y (gone y) refl refl (all_closed_kept y.session (peer_same y.session)) (λ ccd e. e) kept) is.clients;
    queue = is.queue;
  };
  establishes = λ n conn x l c here ready is. let at = here_at c.table n x here in record {
    moment = is.moment;
    rows = established_those c.table.clients n c.table.moment l.0 x c.table.routes.rows at.there at.here ready.new is.rows;
    hosts = kept_owned (c.table.routes.rows ++ routes.rows_of (cid n) (networks_of x l.0)) c.table.routes.learned;
    clients = all_changed n (with_address l.0 c.table.moment) c.table.clients
        (at_place (λ y. IsClientKept c.table.settings y → IsClientKept c.table.settings (with_address l.0 c.table.moment y)) c.table.clients n x at.there
        (λ kept. record { role = kept.role; timers = kept.timers; named = kept.named; asked = kept.asked; established = λ e. ready_keys x ready kept; known = kept.known })) is.clients;
    queue = is.queue;
  };
  admits = λ from draw c is. record {
    moment = is.moment;
    rows = reads_same c.table.clients (c.table.clients ++ client_begun c.table from (session_begun c.table draw).peer ∷ []) c.table.moment c.table.routes.rows
        (appended_reads c.table.clients (client_begun c.table from (session_begun c.table draw).peer) refl) is.rows;
    hosts = is.hosts;
    clients = all_appended c.table.clients (client_begun c.table from (session_begun c.table draw).peer) (begun_kept from draw c.table) is.clients;
    queue = is.queue;
  };
}

one_longer : (queue : List (List ℕ)) (inner : List ℕ) → nat_le most_queued (length queue) ≡ false → length (queue ++ inner ∷ []) ≤ most_queued
one_longer queue inner few = let e = length-append queue (inner ∷ []) in let lt = leb-false most_queued (length queue) few in omega (arith, e, lt)

one_shorter : (queue rest : List (List ℕ)) (packet : List ℕ) → queue ≡ packet ∷ rest → length queue ≤ most_queued → length rest ≤ most_queued
one_shorter queue rest packet same few = let e : length queue ≡ suc (length rest) = ap length same in omega (arith, e, few)

-- and so does all that is done with packets
pub good_deals : DealsWith Good
good_deals = record {
  seals = λ inner. seals_all good_closed (λ to bytes c is. is) inner;
  learns = λ n host c owned is. record {
    moment = is.moment;
    rows = is.rows;
    hosts = learnt_owned c.table.routes.rows host (cid n) c.table.routes.learned owned is.hosts;
    clients = is.clients;
    queue = is.queue;
  };
  queues = λ inner c few is. record {
    moment = is.moment;
    rows = is.rows;
    hosts = is.hosts;
    clients = is.clients;
    queue = one_longer c.table.queue inner few;
  };
  dequeues = λ packet rest c same is. record {
    moment = is.moment;
    rows = is.rows;
    hosts = is.hosts;
    clients = is.clients;
    queue = one_shorter c.table.queue rest packet same is.queue;
  };
}
