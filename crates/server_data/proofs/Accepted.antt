-- Data packets that were accepted.
use Rattle.std.proofs.Common.{◌≡◌, ℕ, Bool, List, length, drop, slice_get, Option, Some, option_map, Result, Ok, Err, refl, sym, ap, subst, ◌∙◌}
use Rattle.std.specs.Prelude.{◌&&◌, not}
use Rattle.vpn_base.specs.declared.address.Addr.{Addr}
use Rattle.vpn_base.specs.declared.names.Cid.{Cid}
use Rattle.vpn_base.specs.declared.names.Place.{Place}
use Rattle.vpn_links.specs.Actions.{Action, Contents}
use Rattle.client_table.specs.declared.table.ClientTable.{ClientTable}
use Rattle.client_table.specs.Changes as table
use Rattle.client_table.specs.Entries.{Entry}
use Rattle.client_table.specs.Tables.{entries_of}
use Rattle.peer_table.specs.declared.outcomes.SessionFault.{SessionFault}
use Rattle.peer_table.specs.DataPackets.{data_came}
use Rattle.peer_table.specs.Outboxes.{TellsOpened}
use Rattle.peer_table.specs.Peer.{Peer}
use Rattle.server_table.specs.Courses.{Course, counted, with_client}
use Rattle.server_table.specs.DataDatagrams as server
use Rattle.server_table.specs.Lookups.{client_here, is_address}
use Rattle.server_table.specs.Table.{Client, Table}
use Rattle.server_state.specs.declared.client.ClientState.{ClientState}
use Rattle.server_state.specs.declared.state.ServerCore.{ServerCore}
use Rattle.server_state.specs.Core.{AreInTurn, CoreStands, CourseStands, FileStands, IsOfClient, StateStands, name_once}
use Rattle.server_state.specs.Places.{IsChangedAt, IsThere}
use Rattle.server_data.specs.internal.Opening.{Opens, after_opening}
use Rattle.server_data.proofs.Learned.{value_is}
use Rattle.server_data.proofs.Opened.{changed_id, here_changed, keeps}

pub accepted_is : {S : Type 0} (means : S → Peer → Type 0) (core : ServerCore S) (t : Table) (a : Option Place) (b bytes : ℕ) (went : Option Place) → CoreStands means core t
    → a ≡ went → b ≡ counted core.bytes_in bytes
    → CoreStands means (record core { last_taken = a; bytes_in = b }) (record t { last_taken = went; bytes_in = counted t.bytes_in bytes })
accepted_is means core t a b bytes went h is more = record {
  settings = h.settings;
  key = h.key;
  clients = h.clients;
  admitted = h.admitted;
  most = h.most;
  routes = h.routes;
  pool = h.pool;
  queue = h.queue;
  moment = h.moment;
  connections = h.connections;
  bytes_in = more ∙ ap (λ k. counted k bytes) h.bytes_in;
  bytes_out = h.bytes_out;
  count_interval = h.count_interval;
  counted_at = h.counted_at;
  is_stopped = h.is_stopped;
  events = h.events;
  last_taken = is;
}

-- what the core keeps of a client, with another session of the same session id and name
of_client : {S : Type 0} (means : S → Peer → Type 0) (e : Entry (ClientState S)) (m : ℕ) (x y : Client) (w : ClientState S) → IsOfClient means e m x
    → y.peer_id ≡ x.peer_id → y.address ≡ x.address → y.session.remote ≡ x.session.remote → y.session.name ≡ x.session.name → y.established ≡ x.established
    → y.file ≡ x.file → w.file ≡ e.value.file → StateStands means w y → IsOfClient means (table.with_value w e) m y
of_client means e m x y w h peer_id address remote name established file kept state = record {
  number = h.number;
  peer_id = h.peer_id ∙ sym peer_id;
  address = h.address ∙ sym address;
  remote = remote ∙ h.remote;
  name = h.name ∙ sym (ap (λ n. name_once n y.established) name ∙ ap (name_once x.session.name) established);
  file = subst (λ known. FileStands known w.file y.file) (sym name)
      (subst (λ of. FileStands x.session.name w.file of) (sym file) (subst (λ of. FileStands x.session.name of x.file) (sym kept) h.file));
  state = state;
}

module _ {S : Type 0} (means : S → Peer → Type 0) (before : List Action) (core : ServerCore S) (out : Contents) (c : Course) (m i : ℕ) (from : Addr) (D E : List ℕ)
    (h : CourseStands means before core out c) (there : IsThere means core c.table m i) (v w : ClientState S)
    (at : option_map (λ e. e.value) (slice_get (entries_of core.clients) i) ≡ Some v) (ct : ClientTable (ClientState S)) (is : IsChangedAt core i (table.with_value w) ct)
    (file : w.file ≡ v.file) (to : Option Place) (to_is : (p : Peer) → means v.session p → to ≡ server.data_place core.moment.0 D p) where
  abbrev pub x : Client
  x = there.client

  value_same : there.entry.value ≡ v
  value_same = value_is (slice_get (entries_of core.clients) i) there.entry v there.entry_there at

  file_kept : w.file ≡ there.entry.value.file
  file_kept = file ∙ sym (ap (λ (v : ClientState S). v.file) value_same)

  state_was : StateStands means v x
  state_was = subst (λ v. StateStands means v x) value_same there.stands.state

  place_is : to ≡ server.data_place c.table.moment D x.session
  place_is = to_is x.session state_was.session ∙ ap (λ (now : ℕ). server.data_place now D x.session) h.table.moment

  ok_step : (core1 core2 core3 : ServerCore S) (out2 out3 : Contents) (lacks : Bool) (size bytes : ℕ) (inner : List ℕ) → bytes ≡ length D → inner ≡ drop 24 E
      → ((t : Table) → CoreStands means (record core { clients = ct }) t
      → CoreStands means core1 (record t { last_taken = to; bytes_in = counted t.bytes_in bytes }))
      → core1.turn ≡ core.turn → core1.mark ≡ core.mark
      → ((before : List Action) (c : Course) (x : Client) → CourseStands means before core1 out c → client_here c.table m ≡ Some x
      → CourseStands means before core2 out2 (server.moved m from x c))
      → ((before : List Action) (c : Course) → CourseStands means before core2 out2 c → CourseStands means before core3 out3 (server.carried lacks m inner c))
      → (peer : Peer) (a : Result (List ℕ) SessionFault) → peer.remote ≡ x.session.remote → peer.name ≡ x.session.name
      → StateStands means w (after_opening core.moment.0 (length D) x peer a) → TellsOpened (Ok size) E a
      → CourseStands means before core3 out3 (server.opened_as (record { from = from; bytes = D; lacks = lacks }) m x c peer a)
  ok_step core1 core2 core3 out2 out3 lacks size bytes inner len inner_is accept turn mark follow carry peer (Err fault) remote name state told = absurd told
  ok_step core1 core2 core3 out2 out3 lacks size bytes inner len inner_is accept turn mark follow carry peer (Ok opened) remote name state told =
      let d : server.FromWire = record { from = from; bytes = D; lacks = lacks } in
      let g : Client → Client = server.with_opened c.table.moment peer (length D) in
      let t1 : Table = with_client m g c.table in
      let c1 : Course = server.accepted d m x c peer in
      let h1 : CoreStands means (record core { clients = ct }) t1 =
      there.changed ct (table.with_value w) g is there.here
      (of_client means there.entry m x (g x) w there.stands refl refl remote name refl refl file_kept
      (subst (λ (now : ℕ). StateStands means w (server.with_opened now peer (length D) x)) h.table.moment state))
      (λ y. refl) in
      let s1 : CourseStands means before core1 out c1 = record {
        table = subst (λ (last : Option Place). CoreStands means core1 (record t1 { last_taken = last; bytes_in = counted c.table.bytes_in (length D) })) place_is
            (subst (λ k. CoreStands means core1 (record t1 { last_taken = to; bytes_in = counted c.table.bytes_in k })) len (accept t1 h1));
        outbox = h.outbox;
        in_turn = subst (λ n. AreInTurn n core1.mark c.staged) (sym (ap (λ (cid : Cid). cid.0) turn)) (subst (λ k. AreInTurn core.turn.0 k c.staged) (sym mark) h.in_turn);
      } in
      let s2 : CourseStands means before core2 out2 (server.moved m from (g x) c1) =
      follow before c1 (g x) s1
      (here_changed c.table m g x (server.data_place c.table.moment D x.session) (counted c.table.bytes_in (length D)) there.client_there refl) in
      let s3 : CourseStands means before core2 out2 (server.moved m from x c1) =
      subst (λ r. CourseStands means before core2 out2 (server.moved_if m from c1 (not (is_address x.address from) && not (server.is_taken c1.table m from r)))) remote s2 in
      subst (λ inner. CourseStands means before core3 out3 (server.carried lacks m inner (server.moved m from x c1))) (inner_is ∙ told.1)
      (carry before (server.moved m from x c1) s3)

  -- a packet opened, and went on
  pub ok_opened : (core1 core2 core3 : ServerCore S) (out2 out3 : Contents) (lacks : Bool) (size bytes : ℕ) (inner : List ℕ) → bytes ≡ length D → inner ≡ drop 24 E
      → ((x : Client) → StateStands means v x → Opens means w E core.moment.0 (length D) x (Ok size) (data_came D core.moment x.session))
      → ((t : Table) → CoreStands means (record core { clients = ct }) t
      → CoreStands means core1 (record t { last_taken = to; bytes_in = counted t.bytes_in bytes }))
      → core1.turn ≡ core.turn → core1.mark ≡ core.mark
      → ((before : List Action) (c : Course) (x : Client) → CourseStands means before core1 out c → client_here c.table m ≡ Some x
      → CourseStands means before core2 out2 (server.moved m from x c))
      → ((before : List Action) (c : Course) → CourseStands means before core2 out2 c → CourseStands means before core3 out3 (server.carried lacks m inner c))
      → CourseStands means before core3 out3 (server.data_for (record { from = from; bytes = D; lacks = lacks }) m c (client_here c.table m))
  ok_opened core1 core2 core3 out2 out3 lacks size bytes inner len inner_is opens accept turn mark follow carry =
      let o = data_came D core.moment x.session in
      let s = opens x state_was in
      let k = keeps x.session D core.moment in
      subst (λ y. CourseStands means before core3 out3 (server.data_for (record { from = from; bytes = D; lacks = lacks }) m c y)) (sym there.client_there)
      (subst (λ (now : ℕ). CourseStands means before core3 out3 (server.opened (record { from = from; bytes = D; lacks = lacks }) m x c (data_came D (record { 0 = now }) x.session)))
      h.table.moment
      (ok_step core1 core2 core3 out2 out3 lacks size bytes inner len inner_is accept turn mark follow carry o.peer o.answer k.remote k.name s.state s.told))

  err_step : (core2 : ServerCore S) (out2 : Contents) (lacks : Bool) (fault : SessionFault)
      → ((before : List Action) (c : Course) (d : server.FromWire) (x : Client) → to ≡ server.data_place c.table.moment d.bytes x.session
      → CourseStands means before (record core { clients = ct }) out c → CourseStands means before core2 out2 (server.refused d m x c fault))
      → (peer : Peer) (a : Result (List ℕ) SessionFault) → ((f : SessionFault) → a ≡ Err f → peer ≡ x.session)
      → StateStands means w (after_opening core.moment.0 (length D) x peer a) → TellsOpened (Err fault) E a
      → CourseStands means before core2 out2 (server.opened_as (record { from = from; bytes = D; lacks = lacks }) m x c peer a)
  err_step core2 out2 lacks fault refuse peer (Ok opened) same state told = absurd told
  err_step core2 out2 lacks fault refuse peer (Err wanted) same state told =
      let d : server.FromWire = record { from = from; bytes = D; lacks = lacks } in
      let state1 : StateStands means w x = subst (λ (p : Peer). StateStands means w (record x { session = p })) (same wanted refl) state in
      let h1 : CoreStands means (record core { clients = ct }) c.table =
      subst (λ clients. CoreStands means (record core { clients = ct }) (record c.table { clients = clients })) (changed_id m c.table.clients)
      (there.changed ct (table.with_value w) (λ y. y) is there.here (of_client means there.entry m x x w there.stands refl refl refl refl refl refl file_kept state1) (λ y. refl)) in
      subst (λ f. CourseStands means before core2 out2 (server.refused d m x c f)) told
      (refuse before c d x place_is (record { table = h1; outbox = h.outbox; in_turn = h.in_turn }))

  -- a packet is refused
  pub err_opened : (core2 : ServerCore S) (out2 : Contents) (lacks : Bool) (fault : SessionFault)
      → ((x : Client) → StateStands means v x → Opens means w E core.moment.0 (length D) x (Err fault) (data_came D core.moment x.session))
      → ((before : List Action) (c : Course) (d : server.FromWire) (x : Client) → to ≡ server.data_place c.table.moment d.bytes x.session
      → CourseStands means before (record core { clients = ct }) out c → CourseStands means before core2 out2 (server.refused d m x c fault))
      → CourseStands means before core2 out2 (server.data_for (record { from = from; bytes = D; lacks = lacks }) m c (client_here c.table m))
  err_opened core2 out2 lacks fault opens refuse =
      let o = data_came D core.moment x.session in
      let s = opens x state_was in
      let k = keeps x.session D core.moment in
      subst (λ y. CourseStands means before core2 out2 (server.data_for (record { from = from; bytes = D; lacks = lacks }) m c y)) (sym there.client_there)
      (subst (λ (now : ℕ). CourseStands means before core2 out2 (server.opened (record { from = from; bytes = D; lacks = lacks }) m x c (data_came D (record { 0 = now }) x.session)))
      h.table.moment
      (err_step core2 out2 lacks fault refuse o.peer o.answer k.failed s.state s.told))
