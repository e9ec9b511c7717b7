-- In a step of the server keys that are due are renewed.
use Rattle.std.proofs.Common.{◌≡◌, ◌≤◌, ◌<◌, ◌+◌, ℕ, zero, suc, ◌==◌, Bool, true, false, List, [], ◌∷◌, length, Option, Some, None, is_some, refl, sym, ap, ◌∙◌, subst, arith, nat_lt, Result, Ok, Err}
use Rattle.std.specs.Prelude.{slice_get}
use Rattle.std.proofs.lemmas.Bool.{eqb-false, eqb-true, leb-false, leb-true}
use Rattle.std.proofs.lemmas.List.{length-map}
use Rattle.vpn_base.specs.declared.names.Cause.{Cause}
use Rattle.vpn_base.specs.declared.names.Cause.TheVariants.{PingRestart}
use Rattle.vpn_links.specs.declared.events.Event.{Event}
use Rattle.vpn_links.specs.declared.events.Kind.{Kind}
use Rattle.vpn_links.specs.declared.events.Kind.TheVariants.{Tick}
use Rattle.packet_ids.specs.declared.sending.Spent.{Spent}
use Rattle.peer_table.specs.declared.outcomes.Turn.{Turn}
use Rattle.peer_table.specs.declared.outcomes.Turn.TheVariants.{Going, Ignored, Named, Exchange, Over}
use Rattle.peer_table.specs.DataPackets as packets
use Rattle.peer_table.specs.KeySessions.{Session, has_keys, newest_session}
use Rattle.peer_table.specs.Peer.{Outcome, Peer}
use Rattle.peer_table.specs.Places.{changed_at}
use Rattle.peer_table.specs.Time.{ticked}
use Rattle.server_table.specs.Table.{Client, Table}
use Rattle.server_table.specs.Lookups.{client_here, if_here}
use Rattle.server_table.specs.Courses.{Course, acted}
use Rattle.server_table.specs.DataDatagrams.{ping}
use Rattle.server_table.specs.Endings.{ended, ended_as, gone, turned}
use Rattle.server_table.specs.InnerPackets.{sealed_as, sealed_for, sealed_to, with_sent}
use Rattle.server_table.specs.Step.{came, course_begun, is_over, moment_of, step, step_if}
use Rattle.server_table.specs.Time.{client_ticked, clients_ticked, counts_are_due, ping_is_due, pinged, pinged_if, tick, tick_acted, tick_for, ticking_for, told_counts}
use Rattle.control_laws.specs.Renewals.{AreDue}
use Rattle.control_laws.proofs.Actions.{none_some, some_same}
use Rattle.control_laws.proofs.Calls.{sealed_lines}
use Rattle.server_table.proofs.Keeps.{here_at}
use Rattle.control_laws.proofs.Lines.{get_changed, line_of}
use Rattle.control_laws.proofs.Lost.{is_here_at}
use Rattle.control_laws.proofs.Renewals.{idle_ends, keys_renewed}

-- ---- the other clients

get_other : {X : Type 0} (n i : ℕ) (f : X → X) (xs : List X) → (i ≡ n → ⊥) → slice_get (changed_at n f xs) i ≡ slice_get xs i
get_other n i f [] apart = refl
get_other zero zero f (x ∷ xs) apart = absurd (apart refl)
get_other zero (suc i) f (x ∷ xs) apart = refl
get_other (suc n) zero f (x ∷ xs) apart = refl
get_other (suc n) (suc i) f (x ∷ xs) apart = get_other n i f xs (λ e. apart (ap suc e))

-- the moment is the same, and each client but the one of this number
record Elsewhere (n : ℕ) (c d : Course) : Type 0 where
  moment : d.table.moment ≡ c.table.moment
  others : (m : ℕ) → (m ≡ n → ⊥) → client_here d.table m ≡ client_here c.table m

then_elsewhere : (n : ℕ) (c d e : Course) → Elsewhere n c d → Elsewhere n d e → Elsewhere n c e
then_elsewhere n c d e first second = record { moment = second.moment ∙ first.moment; others = λ m apart. second.others m apart ∙ first.others m apart }

same_elsewhere : (n : ℕ) (c : Course) → Elsewhere n c c
same_elsewhere n c = record { moment = refl; others = λ m apart. refl }

acted_elsewhere : (n : ℕ) (x : Client) (c : Course) (o : Outcome Turn) → Elsewhere n c (acted n x.address o c)
unfolding client_here
acted_elsewhere n x c o = record { moment = refl; others = λ m apart. ap if_here (get_other n m (λ (y : Client). record y { session = o.peer }) c.table.clients apart) }

ended_as_elsewhere : (n : ℕ) (cause : Cause) (c : Course) (x : Option Client) → Elsewhere n c (ended_as n cause c x)
unfolding client_here
ended_as_elsewhere n cause c None = same_elsewhere n c
ended_as_elsewhere n cause c (Some x) = record { moment = refl; others = λ m apart. ap if_here (get_other n m gone c.table.clients apart) }

turned_elsewhere : (n : ℕ) (turn : Turn) (c : Course) → Elsewhere n c (turned n turn c)
unfolding ended
turned_elsewhere n Going c = same_elsewhere n c
turned_elsewhere n Ignored c = same_elsewhere n c
turned_elsewhere n Named c = same_elsewhere n c
turned_elsewhere n Exchange c = same_elsewhere n c
turned_elsewhere n (Over cause) c = ended_as_elsewhere n cause c (client_here c.table n)

sealed_as_elsewhere : (n : ℕ) (x : Client) (c : Course) (peer : Peer) (r : Result (List ℕ) Spent) → Elsewhere n c (sealed_as n x c peer r)
unfolding client_here
sealed_as_elsewhere n x c peer (Ok datagram) =
    record { moment = refl; others = λ m apart. ap if_here (get_other n m (with_sent c.table.moment peer (length datagram)) c.table.clients apart) }
sealed_as_elsewhere n x c peer (Err spent) = record { moment = refl; others = λ m apart. refl }

sealed_for_elsewhere : (n : ℕ) (inner : List ℕ) (c : Course) (x : Option Client) → Elsewhere n c (sealed_for n inner c x)
sealed_for_elsewhere n inner c None = same_elsewhere n c
sealed_for_elsewhere n inner c (Some x) = sealed_as_elsewhere n x c (packets.sealed_to inner x.session).peer (packets.sealed_to inner x.session).answer

pinged_if_elsewhere : (n : ℕ) (c : Course) (b : Bool) → Elsewhere n c (pinged_if n c b)
unfolding sealed_to
pinged_if_elsewhere n c true = sealed_for_elsewhere n ping c (client_here c.table n)
pinged_if_elsewhere n c false = same_elsewhere n c

pinged_elsewhere : (n : ℕ) (c : Course) (x : Option Client) → Elsewhere n c (pinged n c x)
pinged_elsewhere n c None = same_elsewhere n c
pinged_elsewhere n c (Some x) = pinged_if_elsewhere n c (ping_is_due c.table.settings.keepalive c.table.moment x)

tick_acted_elsewhere : (n : ℕ) (x : Client) (c : Course) (o : Outcome Turn) → Elsewhere n c (tick_acted n x c o)
tick_acted_elsewhere n x c o =
    let d = acted n x.address o c in
    let e = turned n o.answer d in
    then_elsewhere n c d (tick_acted n x c o) (acted_elsewhere n x c o)
    (then_elsewhere n d e (tick_acted n x c o) (turned_elsewhere n o.answer d) (pinged_elsewhere n e (client_here e.table n)))

tick_for_elsewhere : (n : ℕ) (c : Course) (x : Option Client) → Elsewhere n c (tick_for n c x)
tick_for_elsewhere n c None = same_elsewhere n c
tick_for_elsewhere n c (Some x) = tick_acted_elsewhere n x c (ticked (ticking_for c.table x) x.session)

ticked_elsewhere : (n : ℕ) (c : Course) → Elsewhere n c (client_ticked n c)
unfolding client_ticked
ticked_elsewhere n c = tick_for_elsewhere n c (client_here c.table n)

-- ---- the client itself

-- a client that is here has so many key sessions
abbrev HasMany : ℕ → Option Client → Type 0
HasMany k None = Unit {0}
HasMany k (Some y) = length y.session.sessions ≡ k

-- the client at a place was changed, and is here as before
changed_here : (t u : Table) (n : ℕ) (f : Client → Client) (x : Client) → client_here t n ≡ Some x → u.clients ≡ changed_at n f t.clients → (f x).is_here ≡ x.is_here →
    client_here u n ≡ Some (f x)
changed_here t u n f x here same stays =
    let at = here_at t n x here in
    is_here_at u n (f x) (ap (λ (all : List Client). slice_get all n) same ∙ get_changed n f t.clients x at.there) (stays ∙ at.here)

ended_many : (k n : ℕ) (cause : Cause) (c : Course) (x : Client) → client_here c.table n ≡ Some x → HasMany k (client_here (ended_as n cause c (Some x)).table n)
unfolding client_here
ended_many k n cause c x here =
    subst (HasMany k) (sym (ap if_here (get_changed n gone c.table.clients x (here_at c.table n x here).there))) tt

turned_many : (k n : ℕ) (turn : Turn) (c : Course) (x : Client) → client_here c.table n ≡ Some x → HasMany k (Some x) → HasMany k (client_here (turned n turn c).table n)
unfolding ended
turned_many k n Going c x here many = subst (HasMany k) (sym here) many
turned_many k n Ignored c x here many = subst (HasMany k) (sym here) many
turned_many k n Named c x here many = subst (HasMany k) (sym here) many
turned_many k n Exchange c x here many = subst (HasMany k) (sym here) many
turned_many k n (Over cause) c x here many =
    subst (λ (o : Option Client). HasMany k (client_here (ended_as n cause c o).table n)) (sym here) (ended_many k n cause c x here)

-- one that ends is not here
over_many : (k n : ℕ) (turn : Turn) (cause : Cause) (c : Course) (x : Client) → client_here c.table n ≡ Some x → turn ≡ Over cause → HasMany k (client_here (turned n turn c).table n)
unfolding ended
over_many k n turn cause c x here is =
    subst (λ (turn : Turn). HasMany k (client_here (turned n turn c).table n)) (sym is)
    (subst (λ (o : Option Client). HasMany k (client_here (ended_as n cause c o).table n)) (sym here) (ended_many k n cause c x here))

sealed_length : (inner : List ℕ) (p : Peer) → length (packets.sealed_to inner p).peer.sessions ≡ length p.sessions
sealed_length inner p =
    sym (length-map (packets.sealed_to inner p).peer.sessions line_of) ∙ ap (λ lines. length lines) (sealed_lines inner p) ∙ length-map p.sessions line_of

sealed_as_many : (k n : ℕ) (x : Client) (c : Course) (peer : Peer) (r : Result (List ℕ) Spent) → client_here c.table n ≡ Some x → length peer.sessions ≡ k → HasMany k (Some x) →
    HasMany k (client_here (sealed_as n x c peer r).table n)
sealed_as_many k n x c peer (Ok datagram) here long many =
    subst (HasMany k) (sym (changed_here c.table (sealed_as n x c peer (Ok datagram)).table n (with_sent c.table.moment peer (length datagram)) x here refl refl)) long
sealed_as_many k n x c peer (Err spent) here long many = subst (HasMany k) (sym here) many

sealed_for_many : (k n : ℕ) (inner : List ℕ) (c : Course) (x : Option Client) → client_here c.table n ≡ x → HasMany k x → HasMany k (client_here (sealed_for n inner c x).table n)
sealed_for_many k n inner c None here many = subst (HasMany k) (sym here) many
sealed_for_many k n inner c (Some x) here many =
    let o = packets.sealed_to inner x.session in sealed_as_many k n x c o.peer o.answer here (sealed_length inner x.session ∙ many) many

pinged_if_many : (k n : ℕ) (c : Course) (b : Bool) → HasMany k (client_here c.table n) → HasMany k (client_here (pinged_if n c b).table n)
unfolding sealed_to
pinged_if_many k n c true many = sealed_for_many k n ping c (client_here c.table n) refl many
pinged_if_many k n c false many = many

pinged_many : (k n : ℕ) (c : Course) (x : Option Client) → HasMany k (client_here c.table n) → HasMany k (client_here (pinged n c x).table n)
pinged_many k n c None many = many
pinged_many k n c (Some x) many = pinged_if_many k n c (ping_is_due c.table.settings.keepalive c.table.moment x) many

module _ (n : ℕ) (x : Client) (s : Session) (moment : ℕ) (established : is_some x.established ≡ true) (newest : newest_session x.session.sessions ≡ Some s)
    (keyed : has_keys s ≡ true) (due : AreDue x.session.timers moment s) where
  abbrev more : ℕ
  more = suc (length x.session.sessions)

  due_at : (c : Course) → c.table.moment ≡ moment → AreDue x.session.timers c.table.moment s
  due_at c same = subst (λ (m : ℕ). AreDue x.session.timers m s) (sym same) due

  own_turn : (c : Course) (b : Bool) → client_here c.table n ≡ Some x → c.table.moment ≡ moment → (ticking_for c.table x).idle ≡ b →
      HasMany more (client_here (turned n (ticked (ticking_for c.table x) x.session).answer (acted n x.address (ticked (ticking_for c.table x) x.session) c)).table n)
  own_turn c true here same is =
      let o = ticked (ticking_for c.table x) x.session in
      let d = acted n x.address o c in
      over_many more n o.answer PingRestart d (record x { session = o.peer }) (changed_here c.table d.table n (λ (y : Client). record y { session = o.peer }) x here refl refl)
      (idle_ends x.session (ticking_for c.table x) s established is newest keyed)
  own_turn c false here same is =
      let o = ticked (ticking_for c.table x) x.session in
      let d = acted n x.address o c in
      turned_many more n o.answer d (record x { session = o.peer }) (changed_here c.table d.table n (λ (y : Client). record y { session = o.peer }) x here refl refl)
      (keys_renewed x.session (ticking_for c.table x) s established is newest keyed (due_at c same)).one_more

  own_tick : (c : Course) → client_here c.table n ≡ Some x → c.table.moment ≡ moment → HasMany more (client_here (client_ticked n c).table n)
  unfolding client_ticked
  own_tick c here same =
      let e = turned n (ticked (ticking_for c.table x) x.session).answer (acted n x.address (ticked (ticking_for c.table x) x.session) c) in
      subst (λ (o : Option Client). HasMany more (client_here (tick_for n c o).table n)) (sym here)
      (pinged_many more n e (client_here e.table n) (own_turn c (ticking_for c.table x).idle here same refl))

  past : (i n : ℕ) → i ≤ n → (i ≡ n → ⊥) → suc i ≤ n
  past i n le apart = go (nat_lt i n) refl
    where
      go : (b : Bool) → nat_lt i n ≡ b → suc i ≤ n
      go true e = leb-true (suc i) n e
      go false e = absurd (apart (let ge = leb-false (suc i) n e in omega (arith, le, ge)))

  -- those of higher numbers leave it
  behind : (most i : ℕ) (c : Course) → n < i → client_here (clients_ticked most i c).table n ≡ client_here c.table n
  unfolding clients_ticked
  behind zero i c lt = refl
  behind (suc most) i c lt =
      behind most (suc i) (client_ticked i c) (omega (arith, lt)) ∙ (ticked_elsewhere i c).others n (λ e. let none : ⊥ = omega (arith, lt, e) in none)

  all_ticked : (most i : ℕ) (c : Course) → i ≤ n → n < i + most → client_here c.table n ≡ Some x → c.table.moment ≡ moment → HasMany more (client_here (clients_ticked most i c).table n)
  unfolding clients_ticked
  all_ticked zero i c le lt here same = absurd (let none : ⊥ = omega (arith, le, lt) in none)
  all_ticked (suc most) i c le lt here same = by (i == n) refl (λ apart. let other = ticked_elsewhere i c in
      all_ticked most (suc i) (client_ticked i c) (past i n le apart) (omega (arith, lt)) (other.others n (λ e. apart (sym e)) ∙ here) (other.moment ∙ same))
    where
      by : (b : Bool) → (i == n) ≡ b → ((i ≡ n → ⊥) → HasMany more (client_here (clients_ticked most (suc i) (client_ticked i c)).table n)) →
          HasMany more (client_here (clients_ticked most (suc i) (client_ticked i c)).table n)
      by true is ih =
          let at : i ≡ n = eqb-true i n is in
          subst (HasMany more) (sym (behind most (suc i) (client_ticked i c) (omega (arith, at))))
          (subst (λ (j : ℕ). HasMany more (client_here (client_ticked j c).table n)) (sym at) (own_tick c here same))
      by false is ih = ih (eqb-false i n is)

within : {X : Type 0} (xs : List X) (n : ℕ) (x : X) → slice_get xs n ≡ Some x → n < length xs
within [] n x there = absurd (none_some there)
within (y ∷ xs) zero x there = omega arith
within (y ∷ xs) (suc n) x there = let lt = within xs n x there in omega (arith, lt)

told_same : (c : Course) (b : Bool) (n : ℕ) → client_here (told_counts c b).table n ≡ client_here c.table n
unfolding client_here
told_same c true n = refl
told_same c false n = refl

begun_same : (t : Table) (event : Event) (n : ℕ) → client_here (course_begun t event).table n ≡ client_here t n
unfolding client_here
begun_same t event n = refl

tick_many : (t : Table) (event : Event) (n : ℕ) (x : Client) (s : Session) → client_here t n ≡ Some x → is_some x.established ≡ true →
    newest_session x.session.sessions ≡ Some s → has_keys s ≡ true → AreDue x.session.timers (moment_of t event) s →
    HasMany (suc (length x.session.sessions)) (client_here (tick (course_begun t event)).table n)
unfolding tick
tick_many t event n x s here established newest keyed due =
    let c = course_begun t event in
    let d = clients_ticked (length t.clients) 0 c in
    subst (HasMany (suc (length x.session.sessions))) (sym (told_same d (counts_are_due d.table) n))
    (all_ticked n x s (moment_of t event) established newest keyed due (length t.clients) 0 c (omega arith) (let lt = within t.clients n x (here_at t n x here).there in omega (arith, lt))
    (begun_same t event n ∙ here) refl)

many_of : (k : ℕ) (o : Option Client) (y : Client) → HasMany k o → o ≡ Some y → length y.session.sessions ≡ k
many_of k None y many is = absurd (none_some is)
many_of k (Some z) y many is = ap (λ (z : Client). length z.session.sessions) (sym (some_same is)) ∙ many

pub step_renewed : (lacks : Bool) (t : Table) (event : Event) (n : ℕ) (x y : Client) (s : Session) → is_over t ≡ false → event.kind ≡ Tick → client_here t n ≡ Some x →
    is_some x.established ≡ true → newest_session x.session.sessions ≡ Some s → has_keys s ≡ true → AreDue x.session.timers (moment_of t event) s →
    client_here (step lacks t event).table n ≡ Some y → length y.session.sessions ≡ suc (length x.session.sessions)
unfolding step came
step_renewed lacks t event n x y s goes is here established newest keyed due later =
    many_of (suc (length x.session.sessions)) (client_here (tick (course_begun t event)).table n) y (tick_many t event n x s here established newest keyed due)
    (ap (λ (c : Course). client_here c.table n)
    (sym (ap (step_if lacks t event) goes ∙ ap (λ (kind : Kind). came lacks event.draw kind (course_begun t event)) is)) ∙ later)
