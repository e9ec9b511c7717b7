-- No wrap is accepted twice in a run.
use Rattle.std.proofs.Common.{◌≡◌, ◌≢◌, ℕ, zero, suc, ◌==◌, Bool, true, false, List, [], ◌∷◌, ◌++◌, length, Option, Some, None, refl, sym, ap, ◌∙◌, subst, arith}
use Rattle.std.specs.Prelude.{slice_get, if◌then◌else◌}
use Rattle.std.proofs.lemmas.Bool.{false≢true}
use Rattle.vpn_base.specs.declared.address.Addr.{Addr}
use Rattle.vpn_base.specs.declared.names.Draw.{Draw}
use Rattle.vpn_base.specs.declared.names.Freshness.TheVariants.{Fresh, Zero}
use Rattle.vpn_base.specs.declared.names.Moment.{Moment}
use Rattle.vpn_base.specs.declared.names.Sid.{Sid}
use Rattle.packet_ids.specs.LongFreshness.{long_begun, long_freshness}
use Rattle.vpn_links.specs.Actions.{Report}
use Rattle.vpn_links.specs.Steps.{Lack, LacksAll, LacksHost, LacksNothing}
use Rattle.vpn_links.specs.declared.events.Event.{Event}
use Rattle.vpn_links.specs.declared.events.Kind.{Kind}
use Rattle.vpn_links.specs.declared.notes.Note.TheVariants as notes
use Rattle.opcode_codec.specs.declared.opcodes.Opcode.{Opcode}
use Rattle.peer_table.specs.ControlPackets.{control_came, sid_of}
use Rattle.peer_table.specs.Peer.{began}
use Rattle.peer_table.specs.Places.{first_place}
use Rattle.server_table.specs.Table.{Client, Table}
use Rattle.server_table.specs.Lookups.{by_session, client_here, has_session, is_full}
use Rattle.server_table.specs.Courses.{Course, acted}
use Rattle.server_table.specs.ControlDatagrams.{ControlPacket, admitted, admitted_unless_full, client_begun, control_answered, control_arrived, control_at, control_for, control_place, control_read, control_unwrapped, incoming, of_nobody, opened_for, session_begun, to_client, with_admitted}
use Rattle.server_table.specs.DataDatagrams.{FromWire}
use Rattle.server_table.specs.Runs.{Entry, after, after_all, after_lacking}
use Rattle.server_table.specs.Sound.{AtMostOne, IsSound}
use Rattle.server_table.specs.Step.{came, course_begun, datagram_as, moment_of, step}
use Rattle.server_laws.specs.Wraps.{AcceptsWrap, Admits, ComesWrapped, HasWrap, IsAdmitting, IsFreshOf, IsOf}
use Rattle.server_table.proofs.Places.{first_is, get_changed, none_passes, none_some, some_same}
use Rattle.server_table.proofs.Keeps.{here_at}
use Rattle.server_laws.proofs.Closed.{here_from}
use Rattle.server_laws.proofs.ClosedSteps.{answered_kept, last_here}
use Rattle.server_laws.proofs.Ids.{AllKept, all_same, since_closed}
use Rattle.server_laws.proofs.Runs.{after_parts}
use Rattle.server_laws.proofs.Sealings.{run_since}
use Rattle.server_laws.proofs.Steps.{here_begun, step_goes}
use Rattle.server_laws.proofs.WrapsOnce.{control_fresh, not_again}

-- a wrap was accepted of a client
record HasWrapAt (clients : List Client) (n time id : ℕ) : Type 0 where
  client : Client
  there : slice_get clients n ≡ Some client
  accepted : HasWrap client.session time id

wrap_still : (clients later : List Client) (n time id : ℕ) → AllKept clients later → HasWrapAt clients n time id → HasWrapAt later n time id
wrap_still clients later n time id kept has =
    let x = kept n has.client has.there in record { client = x.client; there = x.there; accepted = x.wraps time id has.accepted }

-- who has an address and a session id
found_session : (t : Table) (n : ℕ) (x : Client) (from : Addr) (sid : Sid) → AtMostOne (has_session from sid) t.clients → slice_get t.clients n ≡ Some x →
    has_session from sid x ≡ true → by_session t from sid ≡ Some n
unfolding by_session
found_session t n x from sid one there passes = go (first_place (has_session from sid) t.clients) refl
  where
    go : (o : Option ℕ) → first_place (has_session from sid) t.clients ≡ o → o ≡ Some n
    go None e = absurd (false≢true (sym (none_passes (has_session from sid) t.clients e n x there) ∙ passes))
    go (Some m) e =
        let f = first_is (has_session from sid) t.clients m e in ap (λ (k : ℕ). Some k) (one m n f.item x f.there there f.passed passes)

nobody_found : (t : Table) (from : Addr) (sid : Sid) → ((m : ℕ) (y : Client) → slice_get t.clients m ≡ Some y → has_session from sid y ≡ false) → by_session t from sid ≡ None
unfolding by_session
nobody_found t from sid fails = go (first_place (has_session from sid) t.clients) refl
  where
    go : (o : Option ℕ) → first_place (has_session from sid) t.clients ≡ o → o ≡ None
    go None e = refl
    go (Some m) e =
        let f = first_is (has_session from sid) t.clients m e in absurd (false≢true (sym (fails m f.item f.there) ∙ f.passed))

-- ---- a client takes a packet

acted_has : (r : ControlPacket) (n : ℕ) (c : Course) (x : Client) → client_here c.table n ≡ Some x →
    long_freshness x.session.envelope.accepted r.packet.time r.packet.id (record { 0 = c.table.moment }) ≡ Fresh →
    HasWrapAt (acted n x.address (control_came x.session (incoming r c x)) c).table.clients n r.packet.time r.packet.id
acted_has r n c x here fresh =
    let o = control_came x.session (incoming r c x) in
    record {
      client = record x { session = o.peer };
      there = get_changed n (λ (y : Client). record y { session = o.peer }) c.table.clients x (here_at c.table n x here).there;
      accepted = control_fresh x.session (incoming r c x) fresh;
    }

taken_has : (r : ControlPacket) (n : ℕ) (c : Course) (x : Client) → client_here c.table n ≡ Some x →
    long_freshness x.session.envelope.accepted r.packet.time r.packet.id (record { 0 = c.table.moment }) ≡ Fresh →
    HasWrapAt (to_client r n c).table.clients n r.packet.time r.packet.id
unfolding to_client
taken_has r n c x here fresh =
    let i = incoming r c x in
    let o = control_came x.session i in
    let d = acted n x.address o c in
    subst (λ (y : Option Client). HasWrapAt (control_for r n c y).table.clients n r.packet.time r.packet.id) (sym here)
    (wrap_still d.table.clients (control_answered n (control_place i x.session o.peer) d o.answer).table.clients n r.packet.time r.packet.id
    (answered_kept (since_closed d.table.clients) (λ to c is. is) n (control_place i x.session o.peer) d o.answer (all_same d.table.clients)) (acted_has r n c x here fresh))

-- ---- a client is admitted

first_fresh : (width seconds time id : ℕ) (now : Moment) → (id == 0) ≡ false → long_freshness (long_begun width seconds) time id now ≡ Fresh
unfolding long_freshness
first_fresh width seconds time id now used = go (id == 0) used
  where
    go : (b : Bool) → b ≡ false → (if b then Zero else Fresh) ≡ Fresh
    go true e = absurd (false≢true (sym e))
    go false e = refl

abbrev admitted_one : Addr → Draw → Course → Client
admitted_one from draw c = record (client_begun c.table from (session_begun c.table draw).peer) { session = (session_begun c.table draw).peer }

admitted_fresh : (from : Addr) (draw : Draw) (c : Course) (time id : ℕ) (now : Moment) → (id == 0) ≡ false →
    long_freshness (admitted_one from draw c).session.envelope.accepted time id now ≡ Fresh
unfolding began
admitted_fresh from draw c time id now used = first_fresh c.table.settings.timers.win c.table.settings.timers.win_secs time id now used

admitted_here : (from : Addr) (draw : Draw) (c : Course) →
    client_here (opened_for from c (session_begun c.table draw)).table (length c.table.clients) ≡ Some (admitted_one from draw c)
admitted_here from draw c =
    let o = session_begun c.table draw in
    let e = with_admitted (client_begun c.table from o.peer) c in
    let n = length c.table.clients in
    here_from (opened_for from c o).table n (admitted_one from draw c)
    (get_changed n (λ (x : Client). record x { session = o.peer }) e.table.clients (client_begun c.table from o.peer) (here_at e.table n (client_begun c.table from o.peer) (last_here from c o.peer)).there) refl

used_admitted : (d : FromWire) (draw : Draw) (r : ControlPacket) (c : Course) (b : Bool) → b ≡ false →
    (if b then (let e : Course = record c { effects = c.effects ++ Report (notes.Replayed r.packet.time r.packet.id) ∷ [] } in e) else admitted d draw r c) ≡ admitted d draw r c
used_admitted d draw r c true e = absurd (false≢true (sym e))
used_admitted d draw r c false e = refl

room_same : (t : Table) (event : Event) → is_full (course_begun t event).table ≡ is_full t
unfolding is_full
room_same t event = refl

-- ---- a step

module _ (lacks : Bool) (t : Table) (event : Event) (from : Addr) (op : Opcode) (r : ControlPacket) (w : ComesWrapped t event from op r) where
  abbrev wire : FromWire
  wire = record { from = from; bytes = w.bytes; lacks = lacks }

  abbrev course : Course
  course = course_begun t event

  arrives : step lacks t event ≡ control_at wire event.draw op r course (by_session course.table from (sid_of r.packet))
  unfolding came control_arrived
  arrives =
      step_goes lacks t event w.is_taken
      ∙ ap (λ (kind : Kind). came lacks event.draw kind course) w.comes
      ∙ ap (datagram_as wire event.draw course) w.is_control
      ∙ ap (control_unwrapped wire event.draw op course) w.unwraps
      ∙ ap (control_read wire event.draw op r.packet course) w.reads

  known_has : (n : ℕ) → IsSound t → IsFreshOf t (moment_of t event) from r n → HasWrapAt (step lacks t event).table.clients n r.packet.time r.packet.id
  known_has n sound a =
      let found = found_session course.table n a.client from (sid_of r.packet) (sound.sessions from (sid_of r.packet)) (here_at t n a.client a.client_here).there a.sends in
      subst (λ (c : Course). HasWrapAt c.table.clients n r.packet.time r.packet.id) (sym (arrives ∙ ap (control_at wire event.draw op r course) found))
      (taken_has r n course a.client (here_begun t event n ∙ a.client_here) a.is_fresh)

  admits : (n : ℕ) → IsAdmitting t from op r n → step lacks t event ≡ admitted wire event.draw r course
  admits n a =
      arrives
      ∙ ap (control_at wire event.draw op r course) (nobody_found course.table from (sid_of r.packet) a.nobody)
      ∙ ap (of_nobody wire event.draw r course) a.begins
      ∙ ap (admitted_unless_full wire event.draw r course) (room_same t event ∙ a.has_room)
      ∙ used_admitted wire event.draw r course (r.packet.id == 0) a.used

  new_has : (n : ℕ) → IsAdmitting t from op r n → HasWrapAt (step lacks t event).table.clients n r.packet.time r.packet.id
  new_has n a =
      let c = opened_for from course (session_begun course.table event.draw) in
      subst (λ (d : Course). HasWrapAt d.table.clients n r.packet.time r.packet.id) (sym (admits n a))
      (subst (λ (m : ℕ). HasWrapAt (admitted wire event.draw r course).table.clients m r.packet.time r.packet.id) (sym a.next)
      (taken_has r (length t.clients) c (admitted_one from event.draw course) (admitted_here from event.draw course)
      (admitted_fresh from event.draw course r.packet.time r.packet.id (record { 0 = c.table.moment }) a.used)))

step_has : (lacks : Bool) (t : Table) (event : Event) (n : ℕ) (r : ControlPacket) → IsSound t → AcceptsWrap t event n r →
    HasWrapAt (step lacks t event).table.clients n r.packet.time r.packet.id
step_has lacks t event n r sound (IsOf from op w a) = known_has lacks t event from op r w n sound a
step_has lacks t event n r sound (Admits from op w a) = new_has lacks t event from op r w n a

lacking_has : (t : Table) (event : Event) (lack : Lack) (n : ℕ) (r : ControlPacket) → IsSound t → lack ≢ LacksAll → AcceptsWrap t event n r →
    HasWrapAt (after_lacking t event lack).clients n r.packet.time r.packet.id
lacking_has t event LacksNothing n r sound some a = step_has false t event n r sound a
lacking_has t event LacksHost n r sound some a = step_has true t event n r sound a
lacking_has t event LacksAll n r sound some a = absurd (some refl)

-- ---- a run

past_all : (clients : List Client) (n : ℕ) → n ≡ length clients → slice_get clients n ≡ None
past_all [] n e = refl
past_all (x ∷ clients) zero e = absurd (let none : ⊥ = omega (arith, e) in none)
past_all (x ∷ clients) (suc n) e = past_all clients n (omega (arith, e))

never_accepted : (u : Table) (event : Event) (n time id : ℕ) (q : ControlPacket) → HasWrapAt u.clients n time id → AcceptsWrap u event n q → time ≡ q.packet.time → id ≡ q.packet.id → ⊥
never_accepted u event n time id q has (IsOf from op w a) same_time same_id =
    let same : has.client ≡ a.client = some_same (sym has.there ∙ (here_at u n a.client a.client_here).there) in
    not_again a.client.session q.packet.time q.packet.id (record { 0 = moment_of u event })
    (subst (λ (other : ℕ). HasWrap a.client.session q.packet.time other) same_id
    (subst (λ (other : ℕ). HasWrap a.client.session other id) same_time (subst (λ (x : Client). HasWrap x.session time id) same has.accepted))) a.is_fresh
never_accepted u event n time id q has (Admits from op w a) same_time same_id = none_some (sym (past_all u.clients n a.next) ∙ has.there)

accepted_once : (t : Table) (first : Entry) (between : List Entry) (second : Event) (n : ℕ) (r q : ControlPacket) → IsSound t → first.1 ≢ LacksAll → AcceptsWrap t first.0 n r →
    AcceptsWrap (after_all (after t first) between) second n q → r.packet.time ≡ q.packet.time → r.packet.id ≡ q.packet.id → ⊥
accepted_once t first between second n r q sound some one two time id =
    let u = after_all (after t first) between in
    never_accepted u second n r.packet.time r.packet.id q
    (wrap_still (after t first).clients u.clients n r.packet.time r.packet.id (run_since between (after t first)) (lacking_has t first.0 first.1 n r sound some one)) two time id

pub wrap_once : (before : List Entry) (first : Entry) (between : List Entry) (t : Table) (second : Event) (n : ℕ) (r q : ControlPacket) → IsSound (after_all t before) → first.1 ≢ LacksAll →
    AcceptsWrap (after_all t before) first.0 n r → AcceptsWrap (after_all t (before ++ first ∷ between)) second n q → r.packet.time ≡ q.packet.time → r.packet.id ≡ q.packet.id → ⊥
wrap_once before first between t second n r q sound some one two time id =
    accepted_once (after_all t before) first between second n r q sound some one
    (subst (λ (u : Table). AcceptsWrap u second n q) (after_parts before (first ∷ between) t) two) time id
