-- What one step does with packets.
use Rattle.std.proofs.Common.{◌≡◌, ℕ, ◌==◌, Bool, true, false, List, [], ◌∷◌, ◌++◌, length, map, Option, Some, None, refl, sym, ap, ◌∙◌, subst, arith, Result, Ok, Err}
use Rattle.std.specs.Prelude.{slice_get}
use Rattle.std.proofs.lemmas.Bool.{and_from, and_parts, eq-eqb, eqb-true, false≢true}
use Rattle.vpn_base.specs.declared.address.Addr.{Addr}
use Rattle.vpn_base.specs.declared.names.Draw.{Draw}
use Rattle.vpn_base.specs.declared.names.Malformed.{Malformed}
use Rattle.vpn_base.specs.declared.names.Moment.{Moment}
use Rattle.vpn_base.specs.declared.names.Role.{Role}
use Rattle.vpn_base.specs.declared.names.Timers.{Timers}
use Rattle.vpn_links.specs.Actions.{Action, Report, on_wire}
use Rattle.vpn_links.specs.declared.events.Event.{Event}
use Rattle.vpn_links.specs.declared.events.Kind.{Kind}
use Rattle.vpn_links.specs.declared.events.Kind.TheVariants.{Datagram}
use Rattle.opcode_codec.specs.DataPacket.{DataForm}
use Rattle.opcode_codec.specs.Packet.{PacketForm, Wrapped, Inner, packet_of}
use Rattle.ip_packets.specs.Inner.{source}
use Rattle.route_table.specs.Owner.{owner}
use Rattle.peer_table.specs.declared.outcomes.SessionFault.{SessionFault}
use Rattle.peer_table.specs.declared.outcomes.SessionFault.TheVariants as faults
use Rattle.peer_table.specs.Places.{first_place}
use Rattle.packet_ids.specs.Freshness.{recorded}
use Rattle.peer_table.specs.KeySessions.{Session, kid_of, usable_with}
use Rattle.peer_table.specs.Peer.{Outcome, Peer, other}
use Rattle.peer_table.specs.DataPackets as packets
use Rattle.server_table.specs.Table.{Client, Table}
use Rattle.server_table.specs.Lookups.{by_peer_id, cid, client_here, has_peer_id}
use Rattle.server_table.specs.Courses.{Course, Staged}
use Rattle.server_table.specs.ControlDatagrams.{control_arrived}
use Rattle.server_table.specs.DataDatagrams.{FromWire, accepted, carried, data_at, data_came, data_for, moved, opened_as, refused, with_opened}
use Rattle.server_table.specs.Sound.{AtMostOne, IsSound}
use Rattle.server_table.specs.Step.{came, course_begun, course_of, datagram_as, is_over, moment_of, step, step_if}
use Rattle.server_laws.specs.Accepted.{Accepts, IsAccepted, IsUsable}
use Rattle.server_laws.specs.HandedOn.{Brings, BringsNone, BringsOne, DoesLast, GoesOn, IsDealtWith, IsHandedOn, IsQueued, IsReported, IsSealed, carrying, sealed_by, sealed_in}
use Rattle.server_laws.specs.WellKept.{IsWellKept}
use Rattle.server_table.proofs.Places.{first_is, get_changed, none_passes, some_same}
use Rattle.server_table.proofs.Keeps.{here_at}
use Rattle.server_laws.proofs.ClosedSteps.{accepted_kept, arrived_kept, carried_kept, moved_kept}
use Rattle.server_laws.proofs.Dealing.{IsAbout, carried_dealt, moved_about}
use Rattle.server_laws.proofs.Ids.{HasAccepted, all_same, has_still, now_accepted, since_closed, since_deals}
use Rattle.server_laws.proofs.KeptTables.{Good, good_closed}
use Rattle.server_laws.proofs.Opening.{OpenedAs, answer_tells, opened_answers, usable_found, usable_from, usable_is, usable_plain}
use Rattle.server_laws.proofs.Quiet.{IsQuietly, asides_quiet, carrying_append, carrying_more, is_empty, quiet_closed}
use Rattle.server_laws.proofs.Rows.{at_changed, until_later}
use Rattle.server_laws.proofs.Verdicts.{owned_to_client, owned_to_device}

-- ---- a step begins

pub good_begun : (t : Table) (event : Event) → IsWellKept t → Good (course_begun t event)
good_begun t event is = record {
  moment = omega arith;
  rows = until_later t.clients t.moment (moment_of t event) t.routes.rows (let m = is.moment in omega (arith, m)) is.rows;
  hosts = is.hosts;
  clients = is.clients;
  queue = is.queue;
}

pub begun_about : (t : Table) (event : Event) → IsWellKept t → IsAbout t (course_begun t event)
begun_about t event is = record { queue = refl; rows = refl; settings = refl; asides = refl; staged = refl; sealed = λ n k. refl; good = good_begun t event is }

pub here_begun : (t : Table) (event : Event) (n : ℕ) → client_here (course_begun t event).table n ≡ client_here t n
unfolding client_here
here_begun t event n = refl

pub step_goes : (lacks : Bool) (t : Table) (event : Event) → is_over t ≡ false → step lacks t event ≡ came lacks event.draw event.kind (course_begun t event)
unfolding step
step_goes lacks t event goes = ap (step_if lacks t event) goes

pub step_stays : (lacks : Bool) (t : Table) (event : Event) → is_over t ≡ true → step lacks t event ≡ course_of t
unfolding step
step_stays lacks t event over = ap (step_if lacks t event) over

-- by whether the server takes events still
pub by_over : (P : Course → Type 0) (lacks : Bool) (t : Table) (event : Event) → P (course_of t) → (is_over t ≡ false → P (came lacks event.draw event.kind (course_begun t event))) →
    P (step lacks t event)
by_over P lacks t event stays goes = go (is_over t) refl
  where
    go : (b : Bool) → is_over t ≡ b → P (step lacks t event)
    go true over = subst P (sym (step_stays lacks t event over)) stays
    go false over = subst P (sym (step_goes lacks t event over)) (goes over)

-- ---- who has a peer id

pub found_peer : (t : Table) (n : ℕ) (x : Client) (peer : ℕ) → AtMostOne (has_peer_id peer) t.clients → client_here t n ≡ Some x → x.peer_id ≡ peer → by_peer_id t peer ≡ Some n
unfolding by_peer_id
found_peer t n x peer one here is = go (first_place (has_peer_id peer) t.clients) refl
  where
    passes : has_peer_id peer x ≡ true
    passes = and_from x.is_here (x.peer_id == peer) (here_at t n x here).here (eq-eqb x.peer_id peer is)

    go : (o : Option ℕ) → first_place (has_peer_id peer) t.clients ≡ o → o ≡ Some n
    go None e = absurd (false≢true (sym (none_passes (has_peer_id peer) t.clients e n x (here_at t n x here).there) ∙ passes))
    go (Some m) e =
        let f = first_is (has_peer_id peer) t.clients m e in
        ap (λ (k : ℕ). Some k) (one m n f.item x f.there (here_at t n x here).there f.passed passes)

-- ---- a data packet that is accepted

nil_left : (xs ys : List Action) → xs ++ ys ≡ [] → xs ≡ []
nil_left [] ys e = refl
nil_left (x ∷ xs) ys e = absurd (false≢true (ap (λ (actions : List Action). is_empty actions) e))

-- what does asides, and then what carries nothing, carries nothing
quiet_last : (last : List Action) (c : Course) → carrying last ≡ [] → DoesLast last c → carrying c.effects ≡ []
quiet_last last c none does =
    nil_left (carrying c.effects) (carrying (map (λ (s : Staged). on_wire s.datagram) c.staged))
    (sym (carrying_append c.effects (map (λ (s : Staged). on_wire s.datagram) c.staged)) ∙ ap (λ (actions : List Action). carrying actions) does.all
    ∙ carrying_more does.asides last none ∙ asides_quiet does.asides does.are_asides)

owner_of : (t : Table) (n : ℕ) (inner : List ℕ) (c : Course) → IsHandedOn t (Some n) inner c → owner t.routes.rows (source inner) ≡ Some (cid n)
owner_of t n inner c (IsQueued v queue does) = owned_to_device t.routes.rows t.settings.net t.settings.between n inner v
owner_of t n inner c (IsSealed target action v sealed queue does) = owned_to_client t.routes.rows t.settings.net t.settings.between n inner (cid target) v

dealt_brings : (t : Table) (event : Event) (n k id : ℕ) (inner : List ℕ) (c : Course) → Accepts t event n k id inner → IsDealtWith t (Some n) inner c →
    BringsOne t event c
dealt_brings t event n k id inner c accepts (GoesOn on) = Brings n k id inner accepts (owner_of t n inner c on) on
dealt_brings t event n k id inner c accepts (IsReported note why queue does) = BringsNone queue (quiet_last (Report note ∷ []) c refl does)

-- opening seals nothing
opened_seals : (x : Client) (m : Moment) (datagram inner : List ℕ) (k : ℕ) → OpenedAs x.session m datagram inner →
    sealed_in (slice_get (packets.data_came datagram m x.session).peer.sessions k) ≡ sealed_in (slice_get x.session.sessions k)
opened_seals x m datagram inner k o =
    let g : Session → Session = λ s. record s { received = recorded s.received o.id m } in
    ap (λ (out : Outcome (Result (List ℕ) SessionFault)). sealed_in (slice_get out.peer.sessions k)) (opened_answers x.session m datagram inner o)
    ∙ at_changed (λ (s : Option Session). sealed_in s) o.number g x.session.sessions k (λ s there e. refl)

accepted_about : (t : Table) (event : Event) (d : FromWire) (n : ℕ) (x : Client) (inner : List ℕ) → IsWellKept t → client_here (course_begun t event).table n ≡ Some x →
    OpenedAs x.session (record { 0 = moment_of t event }) d.bytes inner →
    IsAbout t (accepted d n x (course_begun t event) (packets.data_came d.bytes (record { 0 = moment_of t event }) x.session).peer)
accepted_about t event d n x inner is here o =
    let peer = (packets.data_came d.bytes (record { 0 = moment_of t event }) x.session).peer in
    let f : Client → Client = with_opened (moment_of t event) peer (length d.bytes) in
    record {
      queue = refl;
      rows = refl;
      settings = refl;
      asides = refl;
      staged = refl;
      sealed = λ i k. at_changed (sealed_by k) n f t.clients i
          (λ y there e. opened_seals x (record { 0 = moment_of t event }) d.bytes inner k o
          ∙ ap (λ (z : Client). sealed_in (slice_get z.session.sessions k)) (some_same (sym (here_at (course_begun t event).table n x here).there ∙ there)));
      good = accepted_kept good_closed (λ to c is. is) d n x (course_begun t event) here (good_begun t event is);
    }

refused_none : (t : Table) (event : Event) (d : FromWire) (n : ℕ) (x : Client) (fault : SessionFault) →
    BringsOne t event (refused d n x (course_begun t event) fault)
refused_none t event d n x (faults.BadKey kid) = BringsNone refl refl
refused_none t event d n x faults.NotSealed = BringsNone refl refl
refused_none t event d n x (faults.Stale kind id greatest) = BringsNone refl refl

module _ (t : Table) (event : Event) (kept : IsWellKept t) (goes : is_over t ≡ false) where
  -- what an answer tells, in the words of the laws
  accepted_as : (d : FromWire) (f : DataForm) (n : ℕ) (x : Client) (inner : List ℕ) → packet_of d.bytes ≡ Ok (Inner f) → client_here t n ≡ Some x → x.peer_id ≡ f.peer →
      (o : OpenedAs x.session (record { 0 = moment_of t event }) d.bytes inner) → IsAccepted t (moment_of t event) d.bytes n o.number o.id inner
  accepted_as d f n x inner is_inner here peer o =
      let u = usable_is x.session.timers (moment_of t event) x.session.sessions (packets.data_kid d.bytes) o.number o.found in
      let client = kept.clients n x (here_at t n x here).there in
      let role = client.role in
      record {
        form = f;
        is_data = is_inner;
        client = x;
        client_here = here;
        peer_id = peer;
        session = o.session;
        session_there = o.there;
        is_usable = subst (λ (timers : Timers). IsUsable timers (moment_of t event) x.session.sessions o.number) client.timers
            (usable_plain x.session.timers (moment_of t event) x.session.sessions o.number u.0);
        key_id = u.1;
        keys = o.keys;
        has_keys = o.has;
        opens = ap (λ (role : Role). packets.opened_under (other role) o.keys (kid_of o.number) d.bytes) (sym role) ∙ o.opens;
        is_fresh = o.fresh;
      }

  as_brings : (d : FromWire) (f : DataForm) (n : ℕ) (x : Client) (r : Result (List ℕ) SessionFault) → event.kind ≡ Datagram d.from d.bytes → packet_of d.bytes ≡ Ok (Inner f) → client_here t n ≡ Some x → x.peer_id ≡ f.peer →
      (packets.data_came d.bytes (record { 0 = moment_of t event }) x.session).answer ≡ r →
      BringsOne t event (opened_as d n x (course_begun t event) (packets.data_came d.bytes (record { 0 = moment_of t event }) x.session).peer r)
  as_brings d f n x (Err fault) comes is_inner here peer is = refused_none t event d n x fault
  as_brings d f n x (Ok inner) comes is_inner here peer is =
      let o = answer_tells x.session (record { 0 = moment_of t event }) d.bytes inner is in
      let e = accepted d n x (course_begun t event) (packets.data_came d.bytes (record { 0 = moment_of t event }) x.session).peer in
      let about = moved_about n d.from x e (accepted_about t event d n x inner kept (here_begun t event n ∙ here) o) in
      dealt_brings t event n o.number o.id inner (carried d.lacks n inner (moved n d.from x e))
      (record { is_taken = goes; from = d.from; datagram = d.bytes; comes = comes; accepted = accepted_as d f n x inner is_inner here peer o }) (carried_dealt d.lacks n inner (moved n d.from x e) about)

  for_brings : (d : FromWire) (f : DataForm) (n : ℕ) (x : Option Client) → event.kind ≡ Datagram d.from d.bytes → packet_of d.bytes ≡ Ok (Inner f) → client_here t n ≡ x → ((y : Client) → x ≡ Some y → y.peer_id ≡ f.peer) →
      BringsOne t event (data_for d n (course_begun t event) x)
  for_brings d f n None comes is_inner here peer = BringsNone refl refl
  for_brings d f n (Some x) comes is_inner here peer =
      as_brings d f n x (packets.data_came d.bytes (record { 0 = moment_of t event }) x.session).answer comes is_inner here (peer x refl) refl

  peer_of : (n peer : ℕ) → by_peer_id (course_begun t event).table peer ≡ Some n → (y : Client) → client_here t n ≡ Some y → y.peer_id ≡ peer
  unfolding by_peer_id
  peer_of n peer found y here =
      let f = first_is (has_peer_id peer) t.clients n found in
      let same : f.item ≡ y = some_same (sym f.there ∙ (here_at t n y here).there) in
      subst (λ (z : Client). z.peer_id ≡ peer) same (eqb-true f.item.peer_id peer (and_parts f.item.is_here (f.item.peer_id == peer) f.passed).1)

  at_brings : (d : FromWire) (f : DataForm) (n : Option ℕ) → event.kind ≡ Datagram d.from d.bytes → packet_of d.bytes ≡ Ok (Inner f) → by_peer_id (course_begun t event).table f.peer ≡ n →
      BringsOne t event (data_at d f.peer (course_begun t event) n)
  at_brings d f None comes is_inner found = BringsNone refl refl
  at_brings d f (Some n) comes is_inner found =
      subst (λ (x : Option Client). BringsOne t event (data_for d n (course_begun t event) x)) (sym (here_begun t event n))
      (for_brings d f n (client_here t n) comes is_inner refl (λ y here. peer_of n f.peer found y here))

  data_brings : (d : FromWire) (f : DataForm) → event.kind ≡ Datagram d.from d.bytes → packet_of d.bytes ≡ Ok (Inner f) → BringsOne t event (data_came d f (course_begun t event))
  unfolding data_came
  data_brings d f comes is_inner = at_brings d f (by_peer_id (course_begun t event).table f.peer) comes is_inner refl

  quiet_brings : (c : Course) → IsQuietly t c.table.settings c.table.queue c.effects → BringsOne t event c
  quiet_brings c is = BringsNone is.queue_same is.none

  datagram_brings : (d : FromWire) (draw : Draw) (p : Result PacketForm Malformed) → event.kind ≡ Datagram d.from d.bytes → packet_of d.bytes ≡ p → BringsOne t event (datagram_as d draw (course_begun t event) p)
  datagram_brings d draw (Err e) comes is = BringsNone refl refl
  datagram_brings d draw (Ok (Wrapped op kid sid)) comes is =
      quiet_brings (control_arrived d draw op (course_begun t event))
      (arrived_kept (quiet_closed t) (λ to c is. is) d draw op (course_begun t event) (record { settings_same = refl; queue_same = refl; none = refl }))
  datagram_brings d draw (Ok (Inner f)) comes is = data_brings d f comes is

  -- what a datagram brings
  pub came_brings : (lacks : Bool) (from : Addr) (bytes : List ℕ) → event.kind ≡ Datagram from bytes → BringsOne t event (came lacks event.draw (Datagram from bytes) (course_begun t event))
  unfolding came
  came_brings lacks from bytes comes = datagram_brings (record { from = from; bytes = bytes; lacks = lacks }) event.draw (packet_of bytes) comes refl

pub brings : (lacks : Bool) (t : Table) (event : Event) (from : Addr) (bytes : List ℕ) → IsWellKept t → event.kind ≡ Datagram from bytes → BringsOne t event (step lacks t event)
brings lacks t event from bytes kept is =
    by_over (BringsOne t event) lacks t event (BringsNone refl refl)
    (λ goes. subst (λ (kind : Kind). BringsOne t event (came lacks event.draw kind (course_begun t event))) (sym is) (came_brings t event kept goes lacks from bytes is))

-- ---- an accepted packet is carried

-- what its session has found
opened_from : (t : Table) (m : ℕ) (bytes : List ℕ) (n k id : ℕ) (inner : List ℕ) → IsSound t → IsWellKept t → (a : IsAccepted t m bytes n k id inner) →
    OpenedAs a.client.session (record { 0 = m }) bytes inner
opened_from t m bytes n k id inner sound kept a =
    let there = (here_at t n a.client a.client_here).there in
    let client = kept.clients n a.client there in
    let role = client.role in
    let one = usable_from a.client.session.timers m a.client.session.sessions k
    (subst (λ (timers : Timers). IsUsable timers m a.client.session.sessions k) (sym client.timers) a.is_usable) in
    record {
      number = k;
      session = a.session;
      found = usable_found a.client.session.timers m a.client.session.sessions (packets.data_kid bytes) k (sound.orderly n a.client there) one a.key_id;
      there = a.session_there;
      keys = a.keys;
      has = a.has_keys;
      id = id;
      opens = ap (λ (role : Role). packets.opened_under (other role) a.keys (kid_of k) bytes) role ∙ a.opens;
      fresh = a.is_fresh;
    }

pub found_from : (t : Table) (m : ℕ) (bytes : List ℕ) (n k id : ℕ) (inner : List ℕ) → IsSound t → IsWellKept t → (a : IsAccepted t m bytes n k id inner) →
    usable_with a.client.session.timers m a.client.session.sessions (packets.data_kid bytes) ≡ Some k
unfolding opened_from
found_from t m bytes n k id inner sound kept a = (opened_from t m bytes n k id inner sound kept a).found

module _ (t : Table) (event : Event) (from : Addr) (bytes : List ℕ) (lacks : Bool) (sound : IsSound t) (kept : IsWellKept t) where
  abbrev wire : FromWire
  wire = record { from = from; bytes = bytes; lacks = lacks }

  abbrev answer : Client → Outcome (Result (List ℕ) SessionFault)
  answer x = packets.data_came bytes (record { 0 = moment_of t event }) x.session

  -- the course once the packet was accepted, and its client may have moved
  abbrev pub before_carried : ℕ → Client → Course
  before_carried n x = moved n from x (accepted wire n x (course_begun t event) (answer x).peer)

  carried_from : (n : ℕ) (x : Client) (f : DataForm) (inner : List ℕ) → by_peer_id t f.peer ≡ Some n → client_here t n ≡ Some x → (answer x).answer ≡ Ok inner →
      data_came wire f (course_begun t event) ≡ carried lacks n inner (before_carried n x)
  unfolding data_came by_peer_id
  carried_from n x f inner found here opened =
      ap (data_at wire f.peer (course_begun t event)) found
      ∙ ap (data_for wire n (course_begun t event)) (here_begun t event n ∙ here)
      ∙ ap (opened_as wire n x (course_begun t event) (answer x).peer) opened

  pub accepted_step : (n k id : ℕ) (inner : List ℕ) → is_over t ≡ false → event.kind ≡ Datagram from bytes → (a : IsAccepted t (moment_of t event) bytes n k id inner) →
      step lacks t event ≡ carried lacks n inner (before_carried n a.client)
  unfolding came
  accepted_step n k id inner goes is a =
      let o = opened_from t (moment_of t event) bytes n k id inner sound kept a in
      step_goes lacks t event goes
      ∙ ap (λ (kind : Kind). came lacks event.draw kind (course_begun t event)) is
      ∙ ap (datagram_as wire event.draw (course_begun t event)) a.is_data
      ∙ carried_from n a.client a.form inner (found_peer t n a.client a.form.peer (sound.peer_ids a.form.peer) a.client_here a.peer_id) a.client_here
      (ap (λ (o : Outcome (Result (List ℕ) SessionFault)). o.answer) (opened_answers a.client.session (record { 0 = moment_of t event }) bytes inner o))

  pub accepted_dealt : (n k id : ℕ) (inner : List ℕ) → is_over t ≡ false → event.kind ≡ Datagram from bytes → IsAccepted t (moment_of t event) bytes n k id inner →
      IsDealtWith t (Some n) inner (step lacks t event)
  accepted_dealt n k id inner goes is a =
      subst (IsDealtWith t (Some n) inner) (sym (accepted_step n k id inner goes is a))
      (carried_dealt lacks n inner (before_carried n a.client)
      (moved_about n from a.client (accepted wire n a.client (course_begun t event) (answer a.client).peer)
      (accepted_about t event wire n a.client inner kept (here_begun t event n ∙ a.client_here) (opened_from t (moment_of t event) bytes n k id inner sound kept a))))

  -- its id is accepted then
  pub accepted_has : (n k id : ℕ) (inner : List ℕ) → is_over t ≡ false → event.kind ≡ Datagram from bytes → IsAccepted t (moment_of t event) bytes n k id inner →
      HasAccepted (step lacks t event).table.clients n k id
  unfolding opened_from
  accepted_has n k id inner goes is a =
      let o = opened_from t (moment_of t event) bytes n k id inner sound kept a in
      let x = a.client in
      let peer = (answer x).peer in
      let f : Client → Client = with_opened (moment_of t event) peer (length bytes) in
      let c = accepted wire n x (course_begun t event) peer in
      let received : peer ≡ packets.with_received k id (record { 0 = moment_of t event }) x.session
      = ap (λ (o : Outcome (Result (List ℕ) SessionFault)). o.peer) (opened_answers x.session (record { 0 = moment_of t event }) bytes inner o) in
      let g : Session → Session = λ s. record s { received = recorded s.received id (record { 0 = moment_of t event }) } in
      let first : HasAccepted c.table.clients n k id = record {
        client = f x;
        there = get_changed n f t.clients x (here_at t n x a.client_here).there;
        session = g a.session;
        session_there = ap (λ (p : Peer). slice_get p.sessions k) received ∙ get_changed k g x.session.sessions a.session a.session_there;
        accepted = now_accepted a.session.received.accepted id (record { 0 = moment_of t event });
      } in
      subst (λ (d : Course). HasAccepted d.table.clients n k id) (sym (accepted_step n k id inner goes is a))
      (has_still c.table.clients (carried lacks n inner (moved n from x c)).table.clients n k id
      (carried_kept (since_closed c.table.clients) (since_deals c.table.clients) lacks n inner (moved n from x c)
      (moved_kept (since_closed c.table.clients) n from x c (all_same c.table.clients)))
      first)
