-- A client's session takes memory.
use Rattle.std.proofs.Common.{◌≡◌, ℕ, zero, suc, ◌+◌, ◌<◌, ◌≤◌, ◌==◌, ◌&&◌, Bool, true, false, List, [], ◌∷◌, drop, length, slice_get, Option, None, Some, Result, Ok, Err, option_map, refl, sym, ap, subst, ◌∙◌, arith}
use Rattle.std.specs.Prelude.{is_some, nat_le, unwrap_or, IfOk}
use Rattle.std.specs.List.{AllByRecursion}
use Rattle.std.proofs.lemmas.Bool.{false≢true}
use Rattle.std.proofs.lemmas.Grind.{common_steps}
use Rattle.vpn_links.specs.Actions.{Action, Contents}
use Rattle.vpn_links.specs.declared.events.Kind.{Kind}
use Rattle.client_table.specs.declared.key.Key.{Key}
use Rattle.client_table.specs.declared.table.ClientTable.{ClientTable}
use Rattle.client_table.specs.Changes as table
use Rattle.client_table.specs.Changes.{earlier, place_of, with_value}
use Rattle.client_table.specs.Entries.{Entry, entries}
use Rattle.client_table.specs.Sound.{rise_from}
use Rattle.client_table.specs.Tables.{entries_of}
use Rattle.peer_table.specs.Peer.{Peer}
use Rattle.peer_table.specs.Places.{changed_at}
use Rattle.server_table.specs.Courses.{Course}
use Rattle.server_table.specs.Table.{Client, Table}
use Rattle.server_state.specs.declared.client.ClientState.{ClientState}
use Rattle.server_state.specs.declared.state.ServerCore.{ServerCore}
use Rattle.server_state.specs.Core.{CoreStands, CourseStands, FileStands, GoesOn, StateStands}
use Rattle.server_state.specs.Places.{IsChangedAt, IsThere}
use Rattle.server_time.specs.Memory.{AreReady, StaysSame}
use Rattle.server_time.specs.Turns.{IsReadyAs}
use Rattle.server_time.proofs.Pinged.{value_is}
use Rattle.server_time.proofs.Sound.{all_at, all_changed}

-- ---- results

pub if_ok : {A E : Type 0} (P Q : A → Type 0) (r : Result A E) → IfOk r P → ((a : A) → P a → Q a) → IfOk r Q
if_ok P Q (Ok a) h into = into a h
if_ok P Q (Err e) h into = h

-- ---- places

pub both : (a b : Bool) → (a && b) ≡ true → (a ≡ true) × (b ≡ true)
both true true h = (refl, refl)
both true false h = absurd (false≢true h)
both false b h = absurd (false≢true h)

pub is_least : (a b : ℕ) → nat_le a b ≡ true → a ≤ b
is_least a b is = grind (arith, common_steps)

is_self : (n : ℕ) (b : Bool) → (n == n) ≡ b → b ≡ true
is_self n true is = refl
is_self n false is = absurd (grind (arith, common_steps))

is_lower : (m n : ℕ) (b : Bool) → m < n → (m == n) ≡ b → b ≡ false
is_lower m n true less is = absurd (grind (arith, common_steps))
is_lower m n false less is = refl

record IsPlaced {V : Type 0} (least : ℕ) (es : List (Entry V)) (i : ℕ) (e : Entry V) : Type 0 where
  low : least ≤ e.key.number.0
  place : place_of e.key.number.0 es ≡ Some i

first_placed : {V : Type 0} (k : Key) (v : V) (es : List (Entry V)) (least : ℕ) → least ≤ k.number.0
    → IsPlaced least (record { key = k; value = v } ∷ es) 0 (record { key = k; value = v })
first_placed k v es least low = record {
  low = low;
  place = ap (λ b. earlier b (place_of k.number.0 es)) (is_self k.number.0 (k.number.0 == k.number.0) refl);
}

later_placed : {V : Type 0} (k : Key) (v : V) (es : List (Entry V)) (least i : ℕ) (e : Entry V) → least ≤ k.number.0 → IsPlaced (k.number.0 + 1) es i e
    → IsPlaced least (record { key = k; value = v } ∷ es) (suc i) e
later_placed k v es least i e low h = record {
  low = omega (arith, low, h.low);
  place = ap (λ b. earlier b (place_of e.key.number.0 es)) (is_lower k.number.0 e.key.number.0 (k.number.0 == e.key.number.0) (omega (arith, h.low)) refl)
      ∙ ap (earlier false) h.place;
}

-- numbers rise, so each client is at the place of its number
placed : {V : Type 0} (keys : List Key) (values : List V) (least end i : ℕ) (e : Entry V) → rise_from least end keys ≡ true
    → slice_get (entries keys values) i ≡ Some e → IsPlaced least (entries keys values) i e
placed [] values least end i e rising there = absurd (false≢true (ap is_some there))
placed (k ∷ keys) [] least end i e rising there = absurd (false≢true (ap is_some there))
placed (k ∷ keys) (v ∷ values) least end zero e rising there =
    subst (IsPlaced least (entries (k ∷ keys) (v ∷ values)) 0) (ap (λ o. unwrap_or o e) there)
    (first_placed k v (entries keys values) least (is_least least k.number.0 (both (nat_le least k.number.0) (rise_from (k.number.0 + 1) end keys) rising).0))
placed (k ∷ keys) (v ∷ values) least end (suc i) e rising there =
    let two = both (nat_le least k.number.0) (rise_from (k.number.0 + 1) end keys) rising in
    later_placed k v (entries keys values) least i e (is_least least k.number.0 two.0) (placed keys values (k.number.0 + 1) end i e two.1 there)

pub place_there : {V : Type 0} (t : ClientTable V) (i : ℕ) (e : Entry V) → slice_get (entries_of t) i ≡ Some e → place_of e.key.number.0 (entries_of t) ≡ Some i
place_there t i e there = (placed t.keys.items t.values.items 0 t.admitted i e t.rising there).place

-- ---- lists

changed_id : {X : Type 0} (n : ℕ) (xs : List X) → changed_at n (λ (x : X). x) xs ≡ xs
changed_id n [] = refl
changed_id zero (x ∷ xs) = refl
changed_id (suc n) (x ∷ xs) = ap (λ ys. x ∷ ys) (changed_id n xs)

pub length_same : {X : Type 0} (f : X → X) (i : ℕ) (xs : List X) → length (table.changed_at i f xs) ≡ length xs
length_same f i [] = refl
length_same f zero (x ∷ xs) = refl
length_same f (suc i) (x ∷ xs) = ap suc (length_same f i xs)

behind : {X : Type 0} (f : X → X) (i : ℕ) (xs : List X) → drop (suc i) (table.changed_at i f xs) ≡ drop (suc i) xs
behind f i [] = refl
behind f zero (x ∷ xs) = refl
behind f (suc i) (x ∷ xs) = behind f i xs

pub behind_same : {X : Type 0} (f : X → X) (i : ℕ) (xs : List X) → drop (i + 1) (table.changed_at i f xs) ≡ drop (i + 1) xs
behind_same f i xs =
    let more : suc i ≡ i + 1 = omega arith in
    subst (λ (n : ℕ). drop n (table.changed_at i f xs) ≡ drop n xs) more (behind f i xs)

pub value_set : {V : Type 0} (w v : V) (i : ℕ) (es : List (Entry V)) → option_map (λ e. e.value) (slice_get (table.changed_at i (with_value w) es) i) ≡ Some v → w ≡ v
value_set w v i [] there = absurd (false≢true (ap is_some there))
value_set w v zero (e ∷ es) there = ap (λ o. unwrap_or o w) there
value_set w v (suc i) (e ∷ es) there = value_set w v i es there

-- ---- the core

module _ {S : Type 0} (means : S → Peer → Type 0) (before : List Action) (core : ServerCore S) (out : Contents) (c : Course)
    (h : CourseStands means before core out c) (i : ℕ) (v w : ClientState S) (ct : ClientTable (ClientState S)) (is : IsChangedAt core i (with_value w) ct)
    (same : (x : Client) → StateStands means v x → StateStands means w x) (file : w.file ≡ v.file)
    (there : (t : Table) (m : ℕ) → CoreStands means core t → place_of m (entries_of core.clients) ≡ Some i → IsThere means core t m i) where
  table_same : (m : ℕ) (l : IsThere means core c.table m i) → l.entry.value ≡ v → CoreStands means (record core { clients = ct }) c.table
  table_same m l value =
      subst (λ clients. CoreStands means (record core { clients = ct }) (record c.table { clients = clients })) (changed_id m c.table.clients)
      (l.changed ct (with_value w) (λ x. x) is l.here
      (record {
        number = l.stands.number;
        peer_id = l.stands.peer_id;
        address = l.stands.address;
        remote = l.stands.remote;
        name = l.stands.name;
        file = subst (λ f. FileStands l.client.session.name f l.client.file) (ap (λ (v : ClientState S). v.file) value ∙ sym file) l.stands.file;
        state = same l.client (subst (λ v. StateStands means v l.client) value l.stands.state);
      })
      (λ y. refl))

  by_entry : (o : Option (Entry (ClientState S))) → slice_get (entries_of core.clients) i ≡ o → option_map (λ e. e.value) o ≡ Some v
      → CoreStands means (record core { clients = ct }) c.table
  by_entry None at value = absurd (false≢true (ap is_some value))
  by_entry (Some e) at value =
      let l = there c.table e.key.number.0 h.table (place_there core.clients i e at) in
      table_same e.key.number.0 l (value_is (slice_get (entries_of core.clients) i) l.entry v l.entry_there (ap (option_map (λ e. e.value)) at ∙ value))

  -- the core stands for the same
  pub stands_still : option_map (λ e. e.value) (slice_get (entries_of core.clients) i) ≡ Some v → CourseStands means before (record core { clients = ct }) out c
  stands_still value = record { table = by_entry (slice_get (entries_of core.clients) i) refl value; outbox = h.outbox; in_turn = h.in_turn }

-- every session goes on still
pub go_on_still : {S : Type 0} (goes_on : S → Type 0) (count since : S → ℕ) (most moment : ℕ) (es : List (Entry (ClientState S))) (i : ℕ) (v w : ClientState S)
    → AllByRecursion (GoesOn goes_on count since most moment) es → option_map (λ e. e.value) (slice_get es i) ≡ Some v
    → goes_on w.session → count w.session ≡ count v.session → since w.session ≡ since v.session
    → AllByRecursion (GoesOn goes_on count since most moment) (table.changed_at i (with_value w) es)
go_on_still goes_on count since most moment es i v w all value goes counted told =
    all_changed (GoesOn goes_on count since most moment) (with_value w) es i all
    (λ e at.
    let was = all_at (GoesOn goes_on count since most moment) es i e all at in
    let same : e.value ≡ v = value_is (slice_get es i) e v at value in
    record {
      session = goes;
      few = subst (λ n. n ≤ most) (ap (λ (v : ClientState _). count v.session) same ∙ sym counted) was.few;
      past = subst (λ n. n ≤ moment) (ap (λ (v : ClientState _). since v.session) same ∙ sym told) was.past;
    })

-- ---- all clients

pub stays_itself : {S : Type 0} (means : S → Peer → Type 0) (goes_on : S → Type 0) (count since : S → ℕ) (core : ServerCore S) → StaysSame means goes_on count since core core
stays_itself means goes_on count since core = record {
  same = λ before out c h. h;
  others = refl;
  sessions = λ most moment all. all;
  admitted = refl;
  most = refl;
  number = refl;
}

pub stays_on : {S : Type 0} (means : S → Peer → Type 0) (goes_on : S → Type 0) (count since : S → ℕ) (a b c : ServerCore S) → StaysSame means goes_on count since a b
    → StaysSame means goes_on count since b c → StaysSame means goes_on count since a c
stays_on means goes_on count since a b c first second = record {
  same = λ before out course h. second.same before out course (first.same before out course h);
  others = second.others ∙ ap (λ (core : ServerCore _). record core { clients = c.clients }) first.others;
  sessions = λ most moment all. second.sessions most moment (first.sessions most moment all);
  admitted = second.admitted ∙ first.admitted;
  most = second.most ∙ first.most;
  number = second.number ∙ first.number;
}

pub all_go_on : {S : Type 0} (means : S → Peer → Type 0) (goes_on : S → Type 0) (count since : S → ℕ) (before after : ServerCore S)
    → StaysSame means goes_on count since before after → (most : ℕ) → AllByRecursion (GoesOn goes_on count since most before.moment.0) (entries_of before.clients)
    → AllByRecursion (GoesOn goes_on count since most after.moment.0) (entries_of after.clients)
all_go_on means goes_on count since before after h most all =
    subst (λ (m : ℕ). AllByRecursion (GoesOn goes_on count since most m) (entries_of after.clients)) (sym (ap (λ (core : ServerCore _). core.moment.0) h.others))
    (h.sessions most before.moment.0 all)

module _ {S : Type 0} (is_ready : S → Kind → Bool → ℕ → ℕ → Type 0) where
  -- no client stands behind all
  pub none_ready : (es : List (Entry (ClientState S))) (n : ℕ) → n ≡ length es → (effects bytes : ℕ) → AreReady is_ready (drop n es) effects bytes
  none_ready [] zero is effects bytes = tt
  none_ready [] (suc n) is effects bytes = tt
  none_ready (e ∷ es) zero is effects bytes = absurd (grind (arith, common_steps))
  none_ready (e ∷ es) (suc n) is effects bytes = none_ready es n (omega (arith, is)) effects bytes

  first_ready : (es : List (Entry (ClientState S))) (i : ℕ) → i < length es → (a b m n effects bytes : ℕ)
      → ((v : ClientState S) → option_map (λ e. e.value) (slice_get es i) ≡ Some v → IsReadyAs is_ready v a b)
      → AreReady is_ready (drop (suc i) es) m n → m + a + 7 ≡ effects → n + b + 1563 ≡ bytes → AreReady is_ready (drop i es) effects bytes
  first_ready [] i within a b m n effects bytes ready rest e1 e2 = absurd (grind (arith, common_steps))
  first_ready (e ∷ es) zero within a b m n effects bytes ready rest e1 e2 = record {
    own_effects = a;
    own_bytes = b;
    other_effects = m;
    other_bytes = n;
    ready = ready e.value refl;
    rest = rest;
    effects_are = e1;
    bytes_are = e2;
  }
  first_ready (e ∷ es) (suc i) within a b m n effects bytes ready rest e1 e2 = first_ready es i (omega (arith, within)) a b m n effects bytes ready rest e1 e2

  -- one client more, before those that are ready
  pub one_more_ready : (es was : List (Entry (ClientState S))) (i : ℕ) → i < length es → (a b m n effects bytes : ℕ)
      → ((v : ClientState S) → option_map (λ e. e.value) (slice_get es i) ≡ Some v → IsReadyAs is_ready v a b) → drop (i + 1) es ≡ drop (i + 1) was
      → AreReady is_ready (drop (i + 1) was) m n → effects ≡ m + a + 7 → bytes ≡ n + b + 1563 → AreReady is_ready (drop i es) effects bytes
  one_more_ready es was i within a b m n effects bytes ready same rest e1 e2 =
      let more : i + 1 ≡ suc i = omega arith in
      first_ready es i within a b m n effects bytes ready
      (subst (λ (k : ℕ). AreReady is_ready (drop k es) m n) more (subst (λ es. AreReady is_ready es m n) (sym same) rest)) (sym e1) (sym e2)
