-- When time passes, a ping goes to none but a client that is here then.
use Rattle.std.proofs.Common.{◌≡◌, ◌<◌, ℕ, zero, suc, Bool, true, false, cond, List, [], ◌∷◌, ◌++◌, length, Option, Some, None, is_some, refl, sym, ap, ◌∙◌, subst, arith, Result, Ok, Err}
use Rattle.std.specs.Prelude.{slice_get}
use Rattle.std.specs.List.{AllByRecursion}
use Rattle.std.proofs.lemmas.Bool.{and_parts, false≢true}
use Rattle.vpn_base.specs.declared.names.Cause.{Cause}
use Rattle.vpn_base.specs.declared.names.Role.TheVariants as roles
use Rattle.vpn_links.specs.Actions.{Action, Report, Wire}
use Rattle.vpn_links.specs.declared.events.Event.{Event}
use Rattle.vpn_links.specs.declared.events.Kind.{Kind}
use Rattle.vpn_links.specs.declared.events.Kind.TheVariants.{Tick}
use Rattle.vpn_links.specs.declared.notes.Note.TheVariants as notes
use Rattle.packet_ids.specs.declared.sending.Spent.{Spent}
use Rattle.peer_table.specs.declared.outcomes.Turn.{Turn}
use Rattle.peer_table.specs.declared.outcomes.Turn.TheVariants.{Going, Ignored, Named, Exchange, Over}
use Rattle.peer_table.specs.KeySessions.{Keys, has_passed, kid_of}
use Rattle.peer_table.specs.Places.{changed_at}
use Rattle.peer_table.specs.Outboxes.{actions_of}
use Rattle.peer_table.specs.Peer.{Outcome, Peer}
use Rattle.peer_table.specs.Time.{ticked}
use Rattle.peer_table.specs.DataPackets as packets
use Rattle.server_table.specs.Table.{Client, Table}
use Rattle.server_table.specs.Lookups.{cid, client_here, if_here}
use Rattle.server_table.specs.Courses.{Course, acted}
use Rattle.server_table.specs.Endings.{ended, ended_as, ending_effects, gone, turned}
use Rattle.server_table.specs.DataDatagrams.{ping}
use Rattle.server_table.specs.InnerPackets.{sealed_as, sealed_for, sealed_to, with_sent}
use Rattle.server_table.specs.Step.{came, course_begun, step}
use Rattle.server_table.specs.Time.{client_ticked, clients_ticked, count_lines, counts_are_due, ping_is_due, pinged, pinged_if, tick, tick_for, ticking_for, told_counts}
use Rattle.server_laws.specs.HandedOn.{IsPingToOneHere, carrying, is_carrying}
use Rattle.server_laws.specs.WellKept.{IsWellKept}
use Rattle.server_table.proofs.Places.{get_other}
use Rattle.server_laws.proofs.CallsKeep.{tick_call}
use Rattle.server_table.proofs.Keeps.{here_at}
use Rattle.server_laws.proofs.Closed.{turned_kept}
use Rattle.server_laws.proofs.ClosedSteps.{lines_quiet, sealed_to_kept}
use Rattle.server_laws.proofs.Dealing.{GoesTo, Sent, Spent as IsSpent, goes_to}
use Rattle.server_laws.proofs.KeptTables.{Good, good_closed, good_deals}
use Rattle.server_laws.proofs.Quiet.{actions_quiet, carrying_append, carrying_more, ending_quiet}
use Rattle.server_laws.proofs.Steps.{by_over, good_begun}

-- ---- the other clients

-- all clients but the one of this number are here as before
abbrev OthersSame : ℕ → Course → Course → Type 0
OthersSame n c d = (m : ℕ) → m < n → client_here d.table m ≡ client_here c.table m

changed_others : (n : ℕ) (f : Client → Client) (clients : List Client) (m : ℕ) → m < n → slice_get (changed_at n f clients) m ≡ slice_get clients m
changed_others n f clients m lt = get_other n m f clients (λ e. let none : ⊥ = omega (arith, lt, e) in none)

acted_others : (n : ℕ) (x : Client) (c : Course) (o : Outcome Turn) → OthersSame n c (acted n x.address o c)
unfolding client_here
acted_others n x c o m lt = ap if_here (changed_others n (λ y. record y { session = o.peer }) c.table.clients m lt)

ended_as_others : (n : ℕ) (cause : Cause) (c : Course) (x : Option Client) → OthersSame n c (ended_as n cause c x)
unfolding client_here
ended_as_others n cause c None m lt = refl
ended_as_others n cause c (Some x) m lt = ap if_here (changed_others n gone c.table.clients m lt)

turned_others : (n : ℕ) (turn : Turn) (c : Course) → OthersSame n c (turned n turn c)
unfolding ended
turned_others n Going c m lt = refl
turned_others n Ignored c m lt = refl
turned_others n Named c m lt = refl
turned_others n Exchange c m lt = refl
turned_others n (Over cause) c m lt = ended_as_others n cause c (client_here c.table n) m lt

sealed_as_others : (n : ℕ) (x : Client) (c : Course) (peer : Peer) (r : Result (List ℕ) Spent) → OthersSame n c (sealed_as n x c peer r)
unfolding client_here
sealed_as_others n x c peer (Ok datagram) m lt = ap if_here (changed_others n (with_sent c.table.moment peer (length datagram)) c.table.clients m lt)
sealed_as_others n x c peer (Err spent) m lt = refl

sealed_for_others : (n : ℕ) (inner : List ℕ) (c : Course) (x : Option Client) → OthersSame n c (sealed_for n inner c x)
sealed_for_others n inner c None m lt = refl
sealed_for_others n inner c (Some x) m lt = sealed_as_others n x c (packets.sealed_to inner x.session).peer (packets.sealed_to inner x.session).answer m lt

sealed_others : (n : ℕ) (inner : List ℕ) (c : Course) → OthersSame n c (sealed_to n inner c)
unfolding sealed_to
sealed_others n inner c m lt = sealed_for_others n inner c (client_here c.table n) m lt

-- ---- pings to clients of lower numbers

record IsBelow (t : Table) (most : ℕ) (action : Action) : Type 0 where
  number : ℕ
  below : number < most
  client : Client
  here : client_here t number ≡ Some client
  keys : Keys
  session : ℕ
  id : ℕ
  is_packet : action ≡ Wire client.address (packets.sealed_under roles.Server keys (kid_of session) id ping)

all_to : {P Q : Action → Type 0} → ((action : Action) → P action → Q action) → (actions : List Action) → AllByRecursion P actions → AllByRecursion Q actions
all_to to [] all = tt
all_to to (action ∷ actions) all = (to action all.0, all_to to actions all.1)

all_more : (P : Action → Type 0) (xs ys : List Action) → AllByRecursion P xs → AllByRecursion P ys → AllByRecursion P (xs ++ ys)
all_more P [] ys all more = more
all_more P (x ∷ xs) ys all more = (all.0, all_more P xs ys all.1 more)

one_if : (P : Action → Type 0) (b : Bool) (action : Action) → P action → AllByRecursion P (cond b (action ∷ []) [])
one_if P true action is = (is, tt)
one_if P false action is = tt

-- so far only such pings were sealed
record PingsBelow (n : ℕ) (c : Course) : Type 0 where
  good : Good c
  pings : AllByRecursion (IsBelow c.table n) (carrying c.effects)

still_below : (n most : ℕ) (c d : Course) → n < suc most → OthersSame n c d → (actions : List Action) → AllByRecursion (IsBelow c.table n) actions → AllByRecursion (IsBelow d.table most) actions
still_below n most c d le others actions all =
    all_to (λ action is. let lt = is.below in record {
      number = is.number;
      below = omega (arith, le, lt);
      client = is.client;
      here = others is.number is.below ∙ is.here;
      keys = is.keys;
      session = is.session;
      id = is.id;
      is_packet = is.is_packet;
    }) actions all

-- what carries nothing was done
quietly : (n : ℕ) (c d : Course) (more : List Action) → Good d → OthersSame n c d → d.effects ≡ c.effects ++ more → carrying more ≡ [] → PingsBelow n c → PingsBelow n d
quietly n c d more good others done none is = record {
  good = good;
  pings = subst (AllByRecursion (IsBelow d.table n)) (sym (ap (λ (actions : List Action). carrying actions) done ∙ carrying_more c.effects more none))
      (still_below n n c d (omega arith) others (carrying c.effects) is.pings);
}

turned_pings : (n : ℕ) (turn : Turn) (c : Course) → Good (turned n turn c) → PingsBelow n c → PingsBelow n (turned n turn c)
unfolding ended
turned_pings n Going c good is = is
turned_pings n Ignored c good is = is
turned_pings n Named c good is = is
turned_pings n Exchange c good is = is
turned_pings n (Over cause) c good is = by (client_here c.table n) good
  where
    by : (x : Option Client) → Good (ended_as n cause c x) → PingsBelow n (ended_as n cause c x)
    by None good = is
    by (Some x) good =
        quietly n c (ended_as n cause c (Some x)) (ending_effects n cause x) good (ended_as_others n cause c (Some x)) refl (ending_quiet n cause x) is

later_pings : (n : ℕ) (c : Course) → PingsBelow n c → PingsBelow (suc n) c
later_pings n c is = record { good = is.good; pings = still_below n (suc n) c c (omega arith) (λ m lt. refl) (carrying c.effects) is.pings }

sent_pings : (n : ℕ) (c d : Course) → Good d → OthersSame n c d → GoesTo n ping c d → PingsBelow n c → PingsBelow (suc n) d
sent_pings n c d good others (Sent action sealed effects staged queue) is = record {
  good = good;
  pings = subst (AllByRecursion (IsBelow d.table (suc n))) (sym (ap (λ (actions : List Action). carrying actions) effects ∙ carrying_append c.effects (action ∷ [])))
      (all_more (IsBelow d.table (suc n)) (carrying c.effects) (carrying (action ∷ [])) (still_below n (suc n) c d (omega arith) others (carrying c.effects) is.pings)
      (one_if (IsBelow d.table (suc n)) (is_carrying action) action (record {
        number = n;
        below = omega arith;
        client = sealed.client;
        here = sealed.client_here;
        keys = sealed.keys;
        session = sealed.number;
        id = sealed.session.sealed;
        is_packet = sealed.is_packet;
      })));
}
sent_pings n c d good others (IsSpent spent effects staged queue) is =
    later_pings n d (quietly n c d (Report (notes.KeySpent (cid n)) ∷ []) good others effects refl is)

pinged_pings : (n : ℕ) (c : Course) (x : Option Client) → client_here c.table n ≡ x → PingsBelow n c → PingsBelow (suc n) (pinged n c x)
pinged_pings n c None here is = later_pings n c is
pinged_pings n c (Some x) here is = by (ping_is_due c.table.settings.keepalive c.table.moment x) refl
  where
    due : (keepalive : Option (ℕ × ℕ)) (moment : ℕ) → ping_is_due keepalive moment x ≡ true → is_some x.established ≡ true
    due None moment e = absurd (false≢true e)
    due (Some times) moment e = (and_parts (is_some x.established) (has_passed times.0 x.sealed_at moment) e).0

    by : (b : Bool) → ping_is_due c.table.settings.keepalive c.table.moment x ≡ b → PingsBelow (suc n) (pinged_if n c b)
    by false e = later_pings n c is
    by true e =
        let at = here_at c.table n x here in
        sent_pings n c (sealed_to n ping c) (sealed_to_kept good_closed ping (good_deals.seals ping) n c is.good) (sealed_others n ping c)
        (goes_to n ping c is.good (record { client = x; there = at.there; here = at.here; established = due c.table.settings.keepalive c.table.moment e })) is

tick_for_pings : (n : ℕ) (c : Course) (x : Option Client) → client_here c.table n ≡ x → PingsBelow n c → PingsBelow (suc n) (tick_for n c x)
tick_for_pings n c None here is = later_pings n c is
tick_for_pings n c (Some x) here is =
    let o = ticked (ticking_for c.table x) x.session in
    let d = acted n x.address o c in
    let good : Good d = good_closed.acts n x o c here (tick_call (ticking_for c.table x) x.session) is.good in
    let e = turned n o.answer d in
    pinged_pings n e (client_here e.table n) refl
    (turned_pings n o.answer d (turned_kept good_closed n o.answer d good)
    (quietly n c d (actions_of o.peer.role o.doings) good (acted_others n x c o) refl (actions_quiet o.peer.role o.doings) is))

client_pings : (n : ℕ) (c : Course) → PingsBelow n c → PingsBelow (suc n) (client_ticked n c)
unfolding client_ticked
client_pings n c is = tick_for_pings n c (client_here c.table n) refl is

-- each is of a client that is here
abbrev AllHere : Course → Type 0
AllHere c = AllByRecursion (IsPingToOneHere c.table) (carrying c.effects)

all_here : (n : ℕ) (c : Course) → PingsBelow n c → AllHere c
all_here n c is =
    all_to (λ action is. record { n = is.number; client = is.client; client_here = is.here; keys = is.keys; number = is.session; id = is.id; is_packet = is.is_packet })
    (carrying c.effects) is.pings

clients_pings : (most n : ℕ) (c : Course) → PingsBelow n c → AllHere (clients_ticked most n c)
unfolding clients_ticked
clients_pings zero n c is = all_here n c is
clients_pings (suc most) n c is = clients_pings most (suc n) (client_ticked n c) (client_pings n c is)

told_pings : (c : Course) (b : Bool) → AllHere c → AllHere (told_counts c b)
unfolding client_here
told_pings c false is = is
told_pings c true is =
    subst (AllByRecursion (IsPingToOneHere (told_counts c true).table)) (sym (carrying_more c.effects (count_lines 0 c.table.clients) (lines_quiet 0 c.table.clients)))
    (all_to (λ action is. record { n = is.n; client = is.client; client_here = is.client_here; keys = is.keys; number = is.number; id = is.id; is_packet = is.is_packet })
    (carrying c.effects) is)

tick_pings : (c : Course) → PingsBelow 0 c → AllHere (tick c)
unfolding tick
tick_pings c is =
    let d = clients_ticked (length c.table.clients) 0 c in told_pings d (counts_are_due d.table) (clients_pings (length c.table.clients) 0 c is)

came_pings : (lacks : Bool) (t : Table) (event : Event) → IsWellKept t → AllHere (came lacks event.draw Tick (course_begun t event))
unfolding came
came_pings lacks t event kept = tick_pings (course_begun t event) (record { good = good_begun t event kept; pings = tt })

pub pings_here : (t : Table) (event : Event) → IsWellKept t → (lacks : Bool) → event.kind ≡ Tick → AllHere (step lacks t event)
pings_here t event kept lacks is =
    by_over AllHere lacks t event tt
    (λ goes. subst (λ (kind : Kind). AllHere (came lacks event.draw kind (course_begun t event))) (sym is) (came_pings lacks t event kept))
