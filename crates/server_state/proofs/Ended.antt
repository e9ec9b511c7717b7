-- What an ending leaves.
use Rattle.std.proofs.Common.{◌≡◌, ℕ, zero, suc, ◌+◌, ◌<◌, ◌==◌, not, Bool, true, false, cond, List, [], ◌∷◌, ◌++◌, append-nil, length, take, slice_get, map, option_map, Option, Some, None, refl, sym, ap, subst, ◌∙◌, arith}
use Rattle.std.specs.Prelude.{filter_map, is_some, unwrap_or}
use Rattle.std.specs.List.{AllByRecursion, cons_option}
use Rattle.std.proofs.lemmas.Bool.{false≢true}
use Rattle.std.proofs.lemmas.Grind.{common_steps}
use Rattle.std.proofs.lemmas.List.{append_assoc, length-map, map-append}
use Rattle.std.proofs.lemmas.List.Elements.{filter-append}
use Rattle.vpn_base.specs.declared.address.Ip4.{Ip4}
use Rattle.vpn_base.specs.declared.names.Cause.{Cause}
use Rattle.vpn_base.specs.declared.names.Moment.{Moment}
use Rattle.vpn_links.specs.Actions.{Action, Contents, Datagram, Holds}
use Rattle.address_pool.specs.declared.Pool.{Pool}
use Rattle.address_pool.specs.Holds.{Holds as HoldsTakings}
use Rattle.route_table.specs.Learned as routes
use Rattle.route_table.specs.Learned.{table_of, without_client}
use Rattle.client_table.specs.declared.table.ClientTable.{ClientTable}
use Rattle.client_table.specs.Changes as table
use Rattle.client_table.specs.Entries.{Entry}
use Rattle.client_table.specs.Tables.{Has, admitted_by, entries_of, most_of}
use Rattle.peer_table.specs.Peer.{Peer}
use Rattle.peer_table.specs.Places.{changed_at}
use Rattle.server_table.specs.Courses.{Course, Staged}
use Rattle.server_table.specs.Endings.{ended, ended_as, ending_effects, gone, of_others}
use Rattle.server_table.specs.Lookups.{address_in, cid, client_here, if_here}
use Rattle.server_table.specs.Table.{Client, Established}
use Rattle.server_state.specs.declared.client.ClientState.{ClientState}
use Rattle.server_state.specs.declared.state.ServerCore.{ServerCore}
use Rattle.server_state.specs.Core.{AreInTurn, CourseStands, GoesOn, IsOfClient, StateStands, established_at, with_held}
use Rattle.server_state.specs.Endings.{GivesBack, IsSoundBut, left_out}
use Rattle.server_state.specs.Standing.{StandFrom}
use Rattle.server_state.proofs.Changed.{length_same, nobody_at, there_at}

-- whether a client is established, as the core has it
pub established_is : (o : Option (Ip4 × Moment)) (e : Option Established) → option_map established_at o ≡ e → is_some e ≡ is_some o
established_is None e is = ap is_some (sym is)
established_is (Some p) e is = ap is_some (sym is)

-- one effect, and then two lists of them
pub in_order : (was xs ys : List Action) (a : Action) → ((was ++ a ∷ []) ++ xs) ++ ys ≡ was ++ a ∷ (xs ++ ys)
in_order was xs ys a = ap (λ (l : List Action). l ++ ys) (append_assoc was (a ∷ []) xs) ∙ append_assoc was (a ∷ xs) ys

-- ---- what is staged

all_as : {X : Type 0} (P Q : X → Type 0) → ((x : X) → P x → Q x) → (xs : List X) → AllByRecursion P xs → AllByRecursion Q xs
all_as P Q into [] all = all
all_as P Q into (x ∷ xs) all = (into x all.0, all_as P Q into xs all.1)

keep_first : (m : ℕ) (s : Staged) (xs : List Staged) (b : Bool) → (s.number == m) ≡ b → b ≡ false → of_others m xs ≡ xs → of_others m (s ∷ xs) ≡ s ∷ xs
keep_first m s xs b is kept rest = rw (is, kept, rest) refl

keep_all : (m : ℕ) (xs : List Staged) → AllByRecursion (λ (s : Staged). (s.number == m) ≡ false) xs → of_others m xs ≡ xs
keep_all m [] all = refl
keep_all m (s ∷ xs) all = keep_first m s xs (s.number == m) refl all.0 (keep_all m xs all.1)

keep_none : (m : ℕ) (xs : List Staged) → AllByRecursion (λ (s : Staged). (s.number == m) ≡ true) xs → of_others m xs ≡ []
keep_none m [] all = refl
keep_none m (s ∷ xs) all = rw (all.0, keep_none m xs all.1) refl

is_less : (turn m n : ℕ) (b : Bool) → m ≡ turn → n < turn → (n == m) ≡ b → b ≡ false
is_less turn m n true same less is = absurd (grind (arith, common_steps))
is_less turn m n false same less is = refl

is_same : (turn m n : ℕ) (b : Bool) → m ≡ turn → n ≡ turn → (n == m) ≡ b → b ≡ true
is_same turn m n true same also is = refl
is_same turn m n false same also is = absurd (grind (arith, common_steps))

is_apart : (turn m n : ℕ) (b : Bool) → (m == turn) ≡ false → n ≡ turn → (n == m) ≡ b → b ≡ false
is_apart turn m n true apart also is = absurd (grind (arith, common_steps))
is_apart turn m n false apart also is = refl

take_front : {X : Type 0} (xs ys : List X) (n : ℕ) → length xs ≡ n → take n (xs ++ ys) ≡ xs
take_front [] ys zero is = refl
take_front [] ys (suc n) is = absurd (grind (arith, common_steps))
take_front (x ∷ xs) ys zero is = absurd (grind (arith, common_steps))
take_front (x ∷ xs) ys (suc n) is = ap (λ zs. x ∷ zs) (take_front xs ys n (omega (arith, is)))

none_of : {X : Type 0} (xs : List X) (n : ℕ) → length xs ≡ n → n ≡ 0 → xs ≡ []
none_of [] n is zero_is = refl
none_of (x ∷ xs) n is zero_is = absurd (grind (arith, common_steps))

-- what stays staged of others
pub record StaysStaged (turn mark m : ℕ) (staged : List Staged) (b : Bool) : Type 0 where
  pub left : left_out b mark (map (λ (s : Staged). s.datagram) staged) ≡ map (λ (s : Staged). s.datagram) (of_others m staged)
  pub in_turn : AreInTurn turn mark (of_others m staged)

own_out : (turn mark m : ℕ) (staged : List Staged) → AreInTurn turn mark staged → m ≡ turn → StaysStaged turn mark m staged true
own_out turn mark m staged h same =
    let datagram : Staged → Datagram = λ s. s.datagram in
    let first : of_others m h.earlier ≡ h.earlier =
    keep_all m h.earlier (all_as (λ (s : Staged). s.number < turn) (λ s. (s.number == m) ≡ false) (λ s less. is_less turn m s.number (s.number == m) same less refl) h.earlier h.before) in
    let last : of_others m h.own ≡ [] =
    keep_none m h.own (all_as (λ (s : Staged). s.number ≡ turn) (λ s. (s.number == m) ≡ true) (λ s is. is_same turn m s.number (s.number == m) same is refl) h.own h.behind) in
    let others : of_others m staged ≡ h.earlier ++ [] =
    ap (of_others m) h.all ∙ filter-append (λ (s : Staged). not (s.number == m)) h.earlier h.own
    ∙ ap (λ (l : List Staged). l ++ of_others m h.own) first ∙ ap (λ (l : List Staged). h.earlier ++ l) last in
    record {
      left =
          ap (λ (l : List Staged). take mark (map datagram l)) h.all
          ∙ ap (take mark) (map-append datagram h.earlier h.own)
          ∙ take_front (map datagram h.earlier) (map datagram h.own) mark (length-map h.earlier datagram ∙ h.marked)
          ∙ ap (map datagram) (sym (append-nil h.earlier)) ∙ sym (ap (map datagram) others);
      in_turn = record { earlier = h.earlier; own = []; all = others; marked = h.marked; before = h.before; behind = tt };
    }

others_stay : (turn mark m : ℕ) (staged : List Staged) → AreInTurn turn mark staged → (m == turn) ≡ false → mark ≡ 0 → StaysStaged turn mark m staged false
others_stay turn mark m staged h apart none =
    let empty : h.earlier ≡ [] = none_of h.earlier mark h.marked none in
    let is_own : staged ≡ h.own = h.all ∙ ap (λ (l : List Staged). l ++ h.own) empty in
    let kept : of_others m h.own ≡ h.own =
    keep_all m h.own (all_as (λ (s : Staged). s.number ≡ turn) (λ s. (s.number == m) ≡ false) (λ s is. is_apart turn m s.number (s.number == m) apart is refl) h.own h.behind) in
    let others : of_others m staged ≡ staged = ap (of_others m) is_own ∙ kept ∙ sym is_own in
    record {
      left = sym (ap (map (λ (s : Staged). s.datagram)) others);
      in_turn = subst (AreInTurn turn mark) (sym others) h;
    }

same_number : (m n : ℕ) → (m == n) ≡ true → m ≡ n
same_number m n is = grind (arith, common_steps)

pub stays_staged : (turn mark m : ℕ) (staged : List Staged) → AreInTurn turn mark staged → (b : Bool) → (m == turn) ≡ b → (b ≡ false → mark ≡ 0)
    → StaysStaged turn mark m staged b
stays_staged turn mark m staged h true is none = own_out turn mark m staged h (same_number m turn is)
stays_staged turn mark m staged h false is none = others_stay turn mark m staged h is (none refl)

-- ---- addresses

-- an address is among those that clients have, and the client that has it goes
pub record IsGivenUp (a : Ip4) (was is : List Ip4) : Type 0 where
  pub front : List Ip4
  pub behind : List Ip4
  pub among : was ≡ front ++ a ∷ behind
  pub others : is ≡ front ++ behind

behind_another : (a : Ip4) (o : Option Ip4) (was is : List Ip4) → IsGivenUp a was is → IsGivenUp a (cons_option o was) (cons_option o is)
behind_another a None was is h = h
behind_another a (Some b) was is h = record {
  front = b ∷ h.front;
  behind = h.behind;
  among = ap (λ (l : List Ip4). b ∷ l) h.among;
  others = ap (λ (l : List Ip4). b ∷ l) h.others;
}

given_up_first : (a : Ip4) (x : Client) (o : Option Ip4) (rest : List Ip4) → address_in x ≡ o → o ≡ Some a
    → IsGivenUp a (cons_option (address_in x) rest) (cons_option (address_in (gone x)) rest)
given_up_first a x o rest is some =
    subst (λ o. IsGivenUp a (cons_option o rest) rest) (sym (is ∙ some)) (record { front = []; behind = rest; among = refl; others = refl })

pub given_up : (a : Ip4) (x : Client) (clients : List Client) (m : ℕ) → slice_get clients m ≡ Some x → address_in x ≡ Some a
    → IsGivenUp a (filter_map address_in clients) (filter_map address_in (changed_at m gone clients))
given_up a x [] m there has = absurd (false≢true (ap is_some there))
given_up a x (y ∷ clients) zero there has =
    given_up_first a y (address_in y) (filter_map address_in clients) refl (ap (λ (o : Option Client). address_in (unwrap_or o y)) there ∙ has)
given_up a x (y ∷ clients) (suc m) there has =
    behind_another a (address_in y) (filter_map address_in clients) (filter_map address_in (changed_at m gone clients)) (given_up a x clients m there has)

pub none_given_up : (x : Client) (clients : List Client) (m : ℕ) → slice_get clients m ≡ Some x → address_in x ≡ None
    → filter_map address_in (changed_at m gone clients) ≡ filter_map address_in clients
none_given_up x [] m there none = refl
none_given_up x (y ∷ clients) zero there none =
    sym (ap (λ o. cons_option o (filter_map address_in clients)) (ap (λ (o : Option Client). address_in (unwrap_or o y)) there ∙ none))
none_given_up x (y ∷ clients) (suc m) there none = ap (cons_option (address_in y)) (none_given_up x clients m there none)

address_of : (x : Client) (o : Option (Ip4 × Moment)) → x.is_here ≡ true → option_map established_at o ≡ x.established → address_in x ≡ option_map (λ p. p.0) o
address_of x None here is = ap (λ b. cond b (option_map (λ (e : Established). e.address) x.established) None) here ∙ ap (option_map (λ (e : Established). e.address)) (sym is)
address_of x (Some p) here is = ap (λ b. cond b (option_map (λ (e : Established). e.address) x.established) None) here ∙ ap (option_map (λ (e : Established). e.address)) (sym is)

pool_step : (first last : Ip4) (held : Option Ip4) (x : Client) (clients : List Client) (m : ℕ) (o : Option (Ip4 × Moment)) (was is : Pool)
    → slice_get clients m ≡ Some x → address_in x ≡ option_map (λ p. p.0) o → GivesBack o was is
    → HoldsTakings was (record { first = first; last = last; taken = with_held held (filter_map address_in clients) })
    → HoldsTakings is (record { first = first; last = last; taken = with_held held (filter_map address_in (changed_at m gone clients)) })
pool_step first last held x clients m None was is there has back h =
    subst (λ p. HoldsTakings p (record { first = first; last = last; taken = with_held held (filter_map address_in (changed_at m gone clients)) })) (sym back)
    (subst (λ taken. HoldsTakings was (record { first = first; last = last; taken = with_held held taken })) (sym (none_given_up x clients m there has)) h)
pool_step first last None x clients m (Some p) was is there has back h =
    let g = given_up p.0 x clients m there has in
    subst (λ taken. HoldsTakings is (record { first = first; last = last; taken = taken })) (sym g.others)
    (back (record { first = first; last = last; taken = filter_map address_in clients }) g.front g.behind h g.among)
pool_step first last (Some a) x clients m (Some p) was is there has back h =
    let g = given_up p.0 x clients m there has in
    subst (λ taken. HoldsTakings is (record { first = first; last = last; taken = a ∷ taken })) (sym g.others)
    (back (record { first = first; last = last; taken = a ∷ filter_map address_in clients }) (a ∷ g.front) g.behind h (ap (λ (l : List Ip4). a ∷ l) g.among))

-- ---- the core

-- the value of an entry at a place
pub value_at : {S : Type 0} (es : List (Entry (ClientState S))) (i : ℕ) (o : Option (Entry (ClientState S))) (v : ClientState S)
    → slice_get es i ≡ o → Some v ≡ option_map (λ e. e.value) o → option_map (λ e. e.value) (slice_get es i) ≡ Some v
value_at es i o v is value = ap (option_map (λ e. e.value)) is ∙ sym value

-- somebody is there
pub somebody : {S : Type 0} (es : List (Entry (ClientState S))) (i : ℕ) (o : Option (Entry (ClientState S))) → i < length es → slice_get es i ≡ o
    → None ≡ option_map (λ (e : Entry (ClientState S)). e.value) o → ⊥
somebody [] i o within is none = grind (arith, common_steps)
somebody (e ∷ es) zero o within is none = absurd (false≢true (ap is_some none ∙ sym (ap (λ o. is_some (option_map (λ (e : Entry (ClientState _)). e.value) o)) is)))
somebody (e ∷ es) (suc i) o within is none = somebody es i o (omega (arith, within)) is none

module _ {S : Type 0} (means : S → Peer → Type 0) (before : List Action) (core : ServerCore S) (c : Course) (old : Contents)
    (h : CourseStands means before core old c) (m : ℕ) (cause : Cause) where
  -- nobody has the number
  pub nobody_ends : table.place_of m (entries_of core.clients) ≡ None → CourseStands means before core old (ended m cause c)
  unfolding ended
  nobody_ends none = subst (λ o. CourseStands means before core old (ended_as m cause c o)) (sym (nobody_at means core c.table m h.table none)) h

  here_is : (x : Client) → slice_get c.table.clients m ≡ Some x → x.is_here ≡ true → client_here c.table m ≡ Some x
  unfolding client_here
  here_is x there here = ap if_here there ∙ ap (λ b. cond b (Some x) None) here

  -- the client at a place
  pub somebody_ends : (i : ℕ) (v : ClientState S) → table.place_of m (entries_of core.clients) ≡ Some i
      → option_map (λ e. e.value) (slice_get (entries_of core.clients) i) ≡ Some v
      → (ct : ClientTable (ClientState S)) → Has ct (table.without m (entries_of core.clients)) (most_of core.clients) (admitted_by core.clients)
      → (routes : routes.Contents) → table_of routes ≡ without_client (cid m) (table_of core.routes)
      → (pool : Pool) → GivesBack v.established core.pool pool
      → (mid new : Contents) → ((x : Client) → StateStands means v x → Holds mid (old.effects ++ ending_effects m cause x) old.staged)
      → Holds new mid.effects (left_out (m == core.turn.0) core.mark mid.staged) → ((m == core.turn.0) ≡ false → core.mark ≡ 0)
      → CourseStands means before (record core { clients = ct; routes = routes; pool = pool }) new (ended m cause c)
  unfolding ended
  somebody_ends i v place value ct has routes routes_are pool back mid new said holds none =
      let l = there_at means core c.table m i h.table place in
      let value_is : l.entry.value ≡ v = ap (λ o. unwrap_or o v) (sym (ap (λ o. option_map (λ e. e.value) o) l.entry_there) ∙ value) in
      let state : StateStands means v l.client = subst (λ v. StateStands means v l.client) value_is l.stands.state in
      let told = said l.client state in
      let stays = stays_staged core.turn.0 core.mark m c.staged h.in_turn (m == core.turn.0) refl none in
      let ends = ending_effects m cause l.client in
      subst (λ o. CourseStands means before (record core { clients = ct; routes = routes; pool = pool }) new (ended_as m cause c o))
      (sym (here_is l.client l.client_there l.here))
      (record {
        table = record {
          settings = h.table.settings;
          key = h.table.key;
          clients = subst (λ es. StandFrom (IsOfClient means) es 0 (changed_at m gone c.table.clients))
              (sym (has.entries_are ∙ ap (λ o. table.without_where o (entries_of core.clients)) place)) (l.removed gone refl);
          admitted = has.admitted_is ∙ h.table.admitted ∙ sym (length_same gone m c.table.clients);
          most = has.most_is ∙ h.table.most;
          routes = routes_are ∙ ap (without_client (cid m)) h.table.routes;
          pool = pool_step _ _ core.held l.client c.table.clients m v.established core.pool pool l.client_there
              (address_of l.client v.established l.here state.established) back h.table.pool;
          queue = h.table.queue;
          moment = h.table.moment;
          connections = h.table.connections;
          bytes_in = h.table.bytes_in;
          bytes_out = h.table.bytes_out;
          count_interval = h.table.count_interval;
          counted_at = h.table.counted_at;
          is_stopped = h.table.is_stopped;
          events = h.table.events;
          last_taken = h.table.last_taken;
        };
        outbox = (
          holds.0 ∙ told.0 ∙ ap (λ (l : List Action). l ++ ends) h.outbox.0 ∙ append_assoc before c.effects ends,
          holds.1 ∙ ap (left_out (m == core.turn.0) core.mark) (told.1 ∙ h.outbox.1) ∙ stays.left,
        );
        in_turn = stays.in_turn;
      })

-- ---- what holds of every core

all_of : {X : Type 0} (P : X → Type 0) (xs : List X) → ((j : ℕ) (x : X) → slice_get xs j ≡ Some x → P x) → AllByRecursion P xs
all_of P [] each = tt
all_of P (x ∷ xs) each = (each 0 x refl, all_of P xs (λ j y there. each (suc j) y there))

all_but : {X : Type 0} (P : X → Type 0) (xs : List X) (i : ℕ) → ((j : ℕ) (x : X) → slice_get xs j ≡ Some x → (i ≡ j → ⊥) → P x) → AllByRecursion P (table.without_at i xs)
all_but P [] i others = tt
all_but P (x ∷ xs) zero others = all_of P xs (λ j y there. others (suc j) y there (λ e. grind (arith, common_steps)))
all_but P (x ∷ xs) (suc i) others =
    (others 0 x refl (λ e. grind (arith, common_steps)), all_but P xs i (λ j y there apart. others (suc j) y there (λ e. apart (omega (arith, e)))))

some_same : (i j : ℕ) → Some i ≡ Some j → i ≡ j
some_same i j is = ap (λ (o : Option ℕ). unwrap_or o i) is

pub sound_after : {S : Type 0} (goes_on : S → Type 0) (count since : S → ℕ) (m : ℕ) (core : ServerCore S) (o : Option ℕ)
    → table.place_of m (entries_of core.clients) ≡ o → IsSoundBut goes_on count since m core
    → AllByRecursion (GoesOn goes_on count since (core.events + 1) core.moment.0) (table.without_where o (entries_of core.clients))
sound_after goes_on count since m core None place h =
    all_of (GoesOn goes_on count since (core.events + 1) core.moment.0) (entries_of core.clients) (λ j e there. h.sessions j e there (λ is. absurd (false≢true (ap is_some (sym place ∙ is)))))
sound_after goes_on count since m core (Some i) place h =
    all_but (GoesOn goes_on count since (core.events + 1) core.moment.0) (entries_of core.clients) i
    (λ j e there apart. h.sessions j e there (λ is. apart (some_same i j (sym place ∙ is))))

-- nobody is taken out where nobody has the number
pub nobody_goes : {V : Type 0} (n : ℕ) (es : List (Entry V)) → table.place_of n es ≡ None → es ≡ table.without n es
nobody_goes n es none = sym (ap (λ (o : Option ℕ). table.without_where o es) none)
