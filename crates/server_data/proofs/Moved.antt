-- Clients that move.
use Rattle.std.proofs.Common.{◌≡◌, ◌≤◌, ℕ, zero, suc, ◌+◌, Bool, true, false, List, [], ◌∷◌, slice_get, Option, Some, None, option_map, refl, sym, ap, subst, ◌∙◌}
use Rattle.std.specs.Prelude.{◌&&◌, not, unwrap_or}
use Rattle.std.specs.List.{AllByRecursion}
use Rattle.vpn_base.specs.declared.address.Addr.{Addr}
use Rattle.vpn_base.specs.declared.names.Cid.{Cid}
use Rattle.vpn_base.specs.declared.names.Sid.{Sid}
use Rattle.vpn_links.specs.Actions.{Action, Contents}
use Rattle.vpn_links.specs.declared.notes.Note.TheVariants.{Moved}
use Rattle.client_table.specs.declared.key.Key.{Key}
use Rattle.client_table.specs.declared.table.ClientTable.{ClientTable}
use Rattle.client_table.specs.Changes as table
use Rattle.client_table.specs.Entries.{Entry}
use Rattle.client_table.specs.Finding.{has_number, is_at}
use Rattle.client_table.specs.Tables.{Has, admitted_by, entries_of, most_of}
use Rattle.peer_table.specs.Peer.{Peer}
use Rattle.server_table.specs.Courses.{Course, reported, with_client}
use Rattle.server_table.specs.DataDatagrams.{is_other, is_taken, moved, moved_if}
use Rattle.server_table.specs.Lookups.{by_session, cid, client_here, is_address}
use Rattle.server_table.specs.Table.{Client, Table}
use Rattle.server_state.specs.declared.client.ClientState.{ClientState}
use Rattle.server_state.specs.declared.state.ServerCore.{ServerCore}
use Rattle.server_state.specs.Core.{CoreStands, CourseStands, GoesOn, IsOfClient, IsSound}
use Rattle.server_state.specs.Places.{IsThere}
use Rattle.server_state.specs.Standing.{StandFrom}

-- another table of clients with the same entries
same_clients : {S : Type 0} (means : S → Peer → Type 0) (core : ServerCore S) (t : Table) (ct : ClientTable (ClientState S)) → CoreStands means core t
    → Has ct (entries_of core.clients) (most_of core.clients) (admitted_by core.clients) → CoreStands means (record core { clients = ct }) t
same_clients means core t ct h has = record {
  settings = h.settings;
  key = h.key;
  clients = subst (λ es. StandFrom (IsOfClient means) es 0 t.clients) (sym has.entries_are) h.clients;
  admitted = has.admitted_is ∙ h.admitted;
  most = has.most_is ∙ h.most;
  routes = h.routes;
  pool = h.pool;
  queue = h.queue;
  moment = h.moment;
  connections = h.connections;
  bytes_in = h.bytes_in;
  bytes_out = h.bytes_out;
  count_interval = h.count_interval;
  counted_at = h.counted_at;
  is_stopped = h.is_stopped;
  events = h.events;
  last_taken = h.last_taken;
}

-- whether it is another, by the number or by its name
same_other : (n : ℕ) (o : Option Cid) → table.is_other n o ≡ is_other n (option_map (λ cid. cid.0) o)
same_other n None = refl
same_other n (Some m) = refl

some_is : {X : Type 0} (o : Option X) (x y : X) → o ≡ Some x → o ≡ Some y → x ≡ y
some_is o x y a b = ap (λ o. unwrap_or o x) (sym a ∙ b)

key_is : {V : Type 0} (o : Option (Entry V)) (e : Entry V) (k : Key) → o ≡ Some e → option_map (λ e. e.key) o ≡ Some k → e.key ≡ k
key_is o e k there is = ap (λ o. unwrap_or o k) (sym (ap (λ o. option_map (λ e. e.key) o) there) ∙ is)

no_move : (a b taken : Bool) → (a ≡ true) → (not a && b) ≡ false
no_move true b taken e = refl
no_move false b taken e = cc

-- ---- sessions stay

keys_changed : {S : Type 0} (goes_on : S → Type 0) (count since : S → ℕ) (most moment : ℕ) (f : Key → Key) (es : List (Entry (ClientState S))) (i : ℕ)
    → AllByRecursion (GoesOn goes_on count since most moment) es → AllByRecursion (GoesOn goes_on count since most moment) (table.changed_at i (table.with_key f) es)
keys_changed goes_on count since most moment f [] i all = all
keys_changed goes_on count since most moment f (e ∷ es) zero all = (record { session = all.0.session; few = all.0.few; past = all.0.past }, all.1)
keys_changed goes_on count since most moment f (e ∷ es) (suc i) all = (all.0, keys_changed goes_on count since most moment f es i all.1)

pub key_sound : {S : Type 0} (goes_on : S → Type 0) (count since : S → ℕ) (core : ServerCore S) (ct : ClientTable (ClientState S)) (f : Key → Key) (o : Option ℕ)
    → Has ct (table.changed_where o (table.with_key f) (entries_of core.clients)) (most_of core.clients) (admitted_by core.clients)
    → IsSound goes_on count since core → IsSound goes_on count since (record core { clients = ct })
key_sound goes_on count since core ct f o has sound = record {
  sessions = subst (AllByRecursion (GoesOn goes_on count since (core.events + 1) core.moment.0)) (sym has.entries_are) (at o);
  most = subst (λ k. k ≤ 4096) (sym has.most_is) sound.most;
  admitted = subst (λ k. k ≤ core.events) (sym has.admitted_is) sound.admitted;
  connections = sound.connections;
  timers = sound.timers;
  no_counts = sound.no_counts;
  late = sound.late;
}
  where
    at : (o : Option ℕ) → AllByRecursion (GoesOn goes_on count since (core.events + 1) core.moment.0) (table.changed_where o (table.with_key f) (entries_of core.clients))
    at None = sound.sessions
    at (Some i) = keys_changed goes_on count since (core.events + 1) core.moment.0 f (entries_of core.clients) i sound.sessions

-- ---- the move

module _ {S : Type 0} (means : S → Peer → Type 0) (before : List Action) (core : ServerCore S) (out : Contents) (c : Course) (x : Client) (m i : ℕ) (from : Addr)
    (h : CourseStands means before core out c) (here : client_here c.table m ≡ Some x) (there : IsThere means core c.table m i) where
  it_is : there.client ≡ x
  it_is = some_is (client_here c.table m) there.client x there.client_there here

  -- the address is the same
  pub stays : (k : Key) → option_map (λ e. e.key) (slice_get (entries_of core.clients) i) ≡ Some k → is_address k.address from ≡ true
      → CourseStands means before core out (moved m from x c)
  stays k at same =
      subst (λ b. CourseStands means before core out (moved_if m from c b))
      (sym (no_move (is_address x.address from) (not (is_taken c.table m from x.session.remote)) false
      (ap (λ a. is_address a from)
      (sym (ap (λ x. x.address) it_is) ∙ sym there.stands.address ∙ ap (λ k. k.address) (key_is (slice_get (entries_of core.clients) i) there.entry k there.entry_there at))
      ∙ same)))
      h

  -- whether the address is taken
  taken_is : (b : Bool) → table.place_of m (entries_of core.clients) ≡ Some i
      → table.item_at (entries_of core.clients) (Some i) ≡ table.entry_where (has_number m) (entries_of core.clients)
      → option_map (λ cid. cid.0) (table.number_where (is_at from there.entry.key.sid) (entries_of core.clients)) ≡ by_session c.table from there.entry.key.sid
      → b ≡ table.may_move m from (entries_of core.clients) → b ≡ not (is_taken c.table m from x.session.remote)
  taken_is b place item found may =
      let es = entries_of core.clients in
      may
      ∙ ap (table.may_move_as m from es) (sym item ∙ there.entry_there)
      ∙ ap not
      (same_other m (table.number_where (is_at from there.entry.key.sid) es) ∙ ap (is_other m) found
      ∙ sym (ap (is_taken c.table m from) (sym (ap (λ x. x.session.remote) it_is) ∙ there.stands.remote)))

  both_false : (a b : Bool) → b ≡ false → (a && b) ≡ false
  both_false true b e = e
  both_false false b e = refl

  both_true : (a b : Bool) → a ≡ false → b ≡ true → (not a && b) ≡ true
  both_true true b e h = cc
  both_true false b e h = h

  -- another client is there
  pub taken : (ct : ClientTable (ClientState S)) → table.place_of m (entries_of core.clients) ≡ Some i
      → table.item_at (entries_of core.clients) (Some i) ≡ table.entry_where (has_number m) (entries_of core.clients)
      → ((sid : Sid) → option_map (λ cid. cid.0) (table.number_where (is_at from sid) (entries_of core.clients)) ≡ by_session c.table from sid)
      → false ≡ table.may_move m from (entries_of core.clients) → Has ct (entries_of core.clients) (most_of core.clients) (admitted_by core.clients)
      → CourseStands means before (record core { clients = ct }) out (moved m from x c)
  taken ct place item found may has =
      subst (λ b. CourseStands means before (record core { clients = ct }) out (moved_if m from c b))
      (sym (both_false (not (is_address x.address from)) (not (is_taken c.table m from x.session.remote))
      (sym (taken_is false place item (found there.entry.key.sid) may))))
      (record { table = same_clients means core c.table ct h.table has; outbox = h.outbox; in_turn = h.in_turn })

  -- it has moved
  pub moves : (new : Contents) (ct : ClientTable (ClientState S)) (k : Key) → option_map (λ e. e.key) (slice_get (entries_of core.clients) i) ≡ Some k
      → is_address k.address from ≡ false → table.place_of m (entries_of core.clients) ≡ Some i
      → table.item_at (entries_of core.clients) (Some i) ≡ table.entry_where (has_number m) (entries_of core.clients)
      → ((sid : Sid) → option_map (λ cid. cid.0) (table.number_where (is_at from sid) (entries_of core.clients)) ≡ by_session c.table from sid)
      → true ≡ table.may_move m from (entries_of core.clients)
      → Has ct (table.key_changed m (table.with_address from) (entries_of core.clients)) (most_of core.clients) (admitted_by core.clients)
      → ((c : Course) → CourseStands means before (record core { clients = ct }) out c → CourseStands means before (record core { clients = ct }) new (reported (Moved (cid m) from) c))
      → CourseStands means before (record core { clients = ct }) new (moved m from x c)
  moves new ct k at apart place item found may has tells =
      let es = entries_of core.clients in
      let st = there.stands.state in
      let g : Client → Client = λ x. record x { address = from } in
      let elsewhere : is_address x.address from ≡ false =
      ap (λ a. is_address a from)
      (sym (ap (λ x. x.address) it_is) ∙ sym there.stands.address ∙ ap (λ k. k.address) (key_is (slice_get es i) there.entry k there.entry_there at))
      ∙ apart in
      subst (λ b. CourseStands means before (record core { clients = ct }) new (moved_if m from c b))
      (sym (both_true (is_address x.address from) (not (is_taken c.table m from x.session.remote)) elsewhere
      (sym (taken_is true place item (found there.entry.key.sid) may))))
      (tells (record c { table = with_client m g c.table }) (record {
        table = there.changed ct (table.with_key (table.with_address from)) g
            (record {
              entries_are = has.entries_are ∙ ap (λ o. table.changed_where o (table.with_key (table.with_address from)) es) place;
              admitted_is = has.admitted_is;
              most_is = has.most_is;
            })
            there.here
            (record {
              number = there.stands.number;
              peer_id = there.stands.peer_id;
              address = refl;
              remote = there.stands.remote;
              name = there.stands.name;
              file = there.stands.file;
              state = record {
                session = st.session;
                established = st.established;
                heard = st.heard;
                sealed_at = st.sealed_at;
                bytes_in = st.bytes_in;
                bytes_out = st.bytes_out;
              };
            })
            (λ y. refl);
        outbox = h.outbox;
        in_turn = h.in_turn;
      }))
