-- The next client, and that it is ready.
use Rattle.std.proofs.Common.{◌≡◌, ℕ, zero, suc, ◌+◌, ◌<◌, ◌≤◌, ◌==◌, Bool, true, false, cond, List, [], ◌∷◌, slice_get, Option, None, Some, option_map, refl, sym, ap, subst, ◌∙◌, arith}
use Rattle.std.specs.Prelude.{is_some, nat_le, unwrap_or}
use Rattle.std.proofs.lemmas.Bool.{false≢true}
use Rattle.std.proofs.lemmas.Grind.{common_steps}
use Rattle.vpn_links.specs.declared.events.Kind.{Kind}
use Rattle.client_table.specs.declared.key.Key.{Key}
use Rattle.client_table.specs.declared.table.ClientTable.{ClientTable}
use Rattle.client_table.specs.Changes.{earlier, number_where, place_of}
use Rattle.client_table.specs.Entries.{Entry, entries}
use Rattle.client_table.specs.Finding.{is_from}
use Rattle.client_table.specs.Sound.{rise_from}
use Rattle.client_table.specs.Tables.{admitted_by, entries_of}
use Rattle.server_state.specs.declared.client.ClientState.{ClientState}
use Rattle.server_state.specs.declared.state.ServerCore.{ServerCore}
use Rattle.server_time.specs.Memory.{AreReady, IsEnoughFor, NextIsReady, from_on}
use Rattle.server_time.specs.Turns.{IsReadyAs}
use Rattle.server_time.proofs.Ready.{both, is_least}
use Rattle.server_time.proofs.Skips.{found, is_apart, number_of}

pub at_least : (n m : ℕ) (b : Bool) → n ≤ m → nat_le n m ≡ b → b ≡ true
at_least n m true low is = refl
at_least n m false low is = absurd (grind (arith, common_steps))

pub not_least : (n m : ℕ) (b : Bool) → m < n → nat_le n m ≡ b → b ≡ false
not_least n m true low is = absurd (grind (arith, common_steps))
not_least n m false low is = refl

pub kept_by : {S : Type 0} (n : ℕ) (k : Key) (v : ClientState S) (es : List (Entry (ClientState S))) (b : Bool) → nat_le n k.number.0 ≡ b
    → from_on n (record { key = k; value = v } ∷ es) ≡ cond b (record { key = k; value = v } ∷ from_on n es) (from_on n es)
kept_by n k v es b is = ap (λ b. cond b (record { key = k; value = v } ∷ from_on n es) (from_on n es)) is

-- all are, where numbers rise from there
all_from : {S : Type 0} (keys : List Key) (values : List (ClientState S)) (least end n : ℕ) → rise_from least end keys ≡ true → n ≤ least
    → from_on n (entries keys values) ≡ entries keys values
all_from [] values least end n rising low = refl
all_from (k ∷ keys) [] least end n rising low = refl
all_from (k ∷ keys) (v ∷ values) least end n rising low =
    let two = both (nat_le least k.number.0) (rise_from (k.number.0 + 1) end keys) rising in
    let above : n ≤ k.number.0 = omega (arith, low, is_least least k.number.0 two.0) in
    kept_by n k v (entries keys values) true (at_least n k.number.0 (nat_le n k.number.0) above refl)
    ∙ ap (λ es. record { key = k; value = v } ∷ es) (all_from keys values (k.number.0 + 1) end n two.1 (omega (arith, above)))

pub all_are : {S : Type 0} (t : ClientTable (ClientState S)) → from_on 0 (entries_of t) ≡ entries_of t
all_are t = all_from t.keys.items t.values.items 0 t.admitted 0 t.rising (omega arith)

-- ---- which client is next

-- a client is the first of those from a number on, and the others of them stand behind it
pub record IsFirst {S : Type 0} (es : List (Entry (ClientState S))) (least end n m : ℕ) : Type 0 where
  pub first : Entry (ClientState S)
  pub low : least ≤ m
  pub later : n ≤ m
  pub below : m < end
  pub there : (i : ℕ) (v : ClientState S) → place_of m es ≡ Some i → option_map (λ e. e.value) (slice_get es i) ≡ Some v → first.value ≡ v
  pub are : from_on n es ≡ first ∷ from_on (m + 1) es

is_itself : (n : ℕ) (b : Bool) → (n == n) ≡ b → b ≡ true
is_itself n true is = refl
is_itself n false is = absurd (grind (arith, common_steps))

-- numbers that rise from one on end behind it
ends_behind : (keys : List Key) (least end : ℕ) → rise_from least end keys ≡ true → least ≤ end
ends_behind [] least end rising = is_least least end rising
ends_behind (k ∷ keys) least end rising =
    let two = both (nat_le least k.number.0) (rise_from (k.number.0 + 1) end keys) rising in
    omega (arith, is_least least k.number.0 two.0, ends_behind keys (k.number.0 + 1) end two.1)

module _ {S : Type 0} where
  at_first : (k : Key) (v w : ClientState S) (es : List (Entry (ClientState S))) (m i : ℕ) (b : Bool) → (k.number.0 == m) ≡ b → b ≡ true
      → earlier b (place_of m es) ≡ Some i → option_map (λ e. e.value) (slice_get (record { key = k; value = v } ∷ es) i) ≡ Some w → v ≡ w
  at_first k v w es m zero true is holds place there = ap (λ o. unwrap_or o v) there
  at_first k v w es m (suc i) true is holds place there = cc
  at_first k v w es m i false is holds place there = absurd (false≢true holds)

  first_next : (k : Key) (v : ClientState S) (es : List (Entry (ClientState S))) (least end n m : ℕ) → least ≤ k.number.0 → k.number.0 < end → k.number.0 ≡ m
      → from_on n es ≡ es → from_on (m + 1) es ≡ es → nat_le n k.number.0 ≡ true → IsFirst (record { key = k; value = v } ∷ es) least end n m
  first_next k v es least end n m low last same all also is =
      let above : k.number.0 < m + 1 = omega (arith, same) in
      record {
        first = record { key = k; value = v };
        low = omega (arith, low, same);
        later = omega (arith, is_least n k.number.0 is, same);
        below = omega (arith, last, same);
        there = λ i w place there.
            at_first k v w es m i (k.number.0 == m) refl
            (subst (λ (m : ℕ). (k.number.0 == m) ≡ true) same (is_itself k.number.0 (k.number.0 == k.number.0) refl)) place there;
        are = kept_by n k v es true is
            ∙ ap (λ es. record { key = k; value = v } ∷ es)
            (all ∙ sym also ∙ sym (kept_by (m + 1) k v es false (not_least (m + 1) k.number.0 (nat_le (m + 1) k.number.0) above refl)));
      }

  behind_first : (k : Key) (u v w : ClientState S) (es : List (Entry (ClientState S))) (i : ℕ) (o : Option ℕ) (b : Bool) → b ≡ false → earlier b o ≡ Some i
      → option_map (λ e. e.value) (slice_get (record { key = k; value = v } ∷ es) i) ≡ Some w
      → ((i : ℕ) (w : ClientState S) → o ≡ Some i → option_map (λ e. e.value) (slice_get es i) ≡ Some w → u ≡ w) → u ≡ w
  behind_first k u v w es i o true fails place there rest = absurd (false≢true (sym fails))
  behind_first k u v w es i None false fails place there rest = absurd (false≢true (ap is_some place))
  behind_first k u v w es zero (Some j) false fails place there rest = cc
  behind_first k u v w es (suc i) (Some j) false fails place there rest = rest i w (ap (λ (n : ℕ). Some n) (omega (arith, ap (λ o. unwrap_or o 0) place))) there

  later_next : (k : Key) (v : ClientState S) (es : List (Entry (ClientState S))) (least end n m : ℕ) → least ≤ k.number.0 → nat_le n k.number.0 ≡ false
      → IsFirst es (k.number.0 + 1) end n m → IsFirst (record { key = k; value = v } ∷ es) least end n m
  later_next k v es least end n m low is h =
      let above : k.number.0 < m = omega (arith, h.low) in
      record {
        first = h.first;
        low = omega (arith, low, above);
        later = h.later;
        below = h.below;
        there = λ i w place there.
            behind_first k h.first.value v w es i (place_of m es) (k.number.0 == m) (is_apart k.number.0 m (k.number.0 == m) (λ same. omega (arith, same, above)) refl)
            place there h.there;
        are = kept_by n k v es false is ∙ h.are
            ∙ ap (λ es. h.first ∷ es) (sym (kept_by (m + 1) k v es false (not_least (m + 1) k.number.0 (nat_le (m + 1) k.number.0) (omega (arith, above)) refl)));
      }

  by_first : (k : Key) (v : ClientState S) (keys : List Key) (values : List (ClientState S)) (least end n m : ℕ) (b : Bool) → nat_le n k.number.0 ≡ b
      → least ≤ k.number.0 → rise_from (k.number.0 + 1) end keys ≡ true
      → number_of n (record { key = k; value = v } ∷ entries keys values) ≡ Some m
      → (number_of n (entries keys values) ≡ Some m → IsFirst (entries keys values) (k.number.0 + 1) end n m)
      → IsFirst (record { key = k; value = v } ∷ entries keys values) least end n m
  by_first k v keys values least end n m true is low rising next rest =
      let same : k.number.0 ≡ m = ap (λ o. unwrap_or o m) (sym (found k v (entries keys values) n true is) ∙ next) in
      let above : n ≤ k.number.0 = is_least n k.number.0 is in
      first_next k v (entries keys values) least end n m low (omega (arith, ends_behind keys (k.number.0 + 1) end rising)) same
      (all_from keys values (k.number.0 + 1) end n rising (omega (arith, above)))
      (all_from keys values (k.number.0 + 1) end (m + 1) rising (omega (arith, same))) is
  by_first k v keys values least end n m false is low rising next rest =
      later_next k v (entries keys values) least end n m low is (rest (sym (found k v (entries keys values) n false is) ∙ next))

  next_of : (keys : List Key) (values : List (ClientState S)) (least end n m : ℕ) → rise_from least end keys ≡ true
      → number_of n (entries keys values) ≡ Some m → IsFirst (entries keys values) least end n m
  next_of [] values least end n m rising next = absurd (false≢true (ap is_some next))
  next_of (k ∷ keys) [] least end n m rising next = absurd (false≢true (ap is_some next))
  next_of (k ∷ keys) (v ∷ values) least end n m rising next =
      let two = both (nat_le least k.number.0) (rise_from (k.number.0 + 1) end keys) rising in
      by_first k v keys values least end n m (nat_le n k.number.0) refl (is_least least k.number.0 two.0) two.1 next
      (λ next. next_of keys values (k.number.0 + 1) end n m two.1 next)

  pub next_is : (t : ClientTable (ClientState S)) (n m : ℕ) → option_map (λ cid. cid.0) (number_where (is_from n) (entries_of t)) ≡ Some m
      → IsFirst (entries_of t) 0 (admitted_by t) n m
  next_is t n m next = next_of t.keys.items t.values.items 0 t.admitted n m t.rising next

-- ---- it is ready

module _ {S : Type 0} (is_ready : S → Kind → Bool → ℕ → ℕ → Type 0) where
  first_ready : (core : ServerCore S) (n m effects bytes : ℕ) (f : IsFirst (entries_of core.clients) 0 (admitted_by core.clients) n m)
      → IsEnoughFor is_ready (AreReady is_ready (from_on (m + 1) (entries_of core.clients))) f.first.value effects bytes → NextIsReady is_ready core m effects bytes
  first_ready core n m effects bytes f h = record {
    own_effects = h.own_effects;
    own_bytes = h.own_bytes;
    other_effects = h.other_effects;
    other_bytes = h.other_bytes;
    ready = λ i v place there. subst (λ v. IsReadyAs is_ready v h.own_effects h.own_bytes) (f.there i v place there) h.ready;
    rest = h.rest;
    effects_are = h.effects_are;
    bytes_are = h.bytes_are;
  }

  pub next_is_ready : (core : ServerCore S) (n m effects bytes : ℕ) → option_map (λ cid. cid.0) (number_where (is_from n) (entries_of core.clients)) ≡ Some m
      → AreReady is_ready (from_on n (entries_of core.clients)) effects bytes → NextIsReady is_ready core m effects bytes
  next_is_ready core n m effects bytes next ready =
      let f = next_is core.clients n m next in
      first_ready core n m effects bytes f (subst (λ es. AreReady is_ready es effects bytes) f.are ready)
