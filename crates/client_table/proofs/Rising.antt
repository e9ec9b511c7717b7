-- Keys stay in order of admission, with peer ids below the most.
use Rattle.std.proofs.Common.{◌≡◌, ℕ, zero, suc, ◌+◌, ◌<◌, ◌≤◌, Bool, true, false, List, [], ◌∷◌, ◌++◌, length, Option, Some, None, IfSome, refl, ap, sym, ◌∙◌, arith}
use Rattle.std.proofs.lemmas.Grind.{common_steps}
use Rattle.std.specs.Prelude.{◌&&◌, nat_le, nat_lt}
use Rattle.std.proofs.lemmas.List.{length-append}
use Rattle.vpn_base.specs.declared.names.Cid.{Cid}
use Rattle.client_table.specs.declared.key.Key.{Key}
use Rattle.client_table.specs.Changes.{changed_at, item_at, without_at}
use Rattle.client_table.specs.declared.table.ClientTable.{ClientTable}
use Rattle.client_table.specs.Sound.{are_below, rise_from}
use Rattle.client_table.specs.Tables.{entries_of, most_of}
use Rattle.client_table.proofs.Lists.{length_changed}
use Rattle.client_table.proofs.Pairs.{length_is}

both : (a b : Bool) → (a && b) ≡ true → (a ≡ true) × (b ≡ true)
both true b e = (refl, e)
both false b e = cc

is_less : (m n : ℕ) → nat_lt m n ≡ true → m < n
is_less m n e = grind (arith, common_steps)

pair : (a b : Bool) → a ≡ true → b ≡ true → (a && b) ≡ true
pair true b p q = q
pair false b p q = cc

-- a change that leaves the number, and one that leaves the peer id
pub rise_changed : (least end : ℕ) (keys : List Key) (i : ℕ) (f : Key → Key) → ((k : Key) → (f k).number ≡ k.number)
    → rise_from least end (changed_at i f keys) ≡ rise_from least end keys
rise_changed least end [] i f keeps = refl
rise_changed least end (k ∷ keys) zero f keeps = ap (λ (c : Cid). nat_le least c.0 && rise_from (c.0 + 1) end keys) (keeps k)
rise_changed least end (k ∷ keys) (suc i) f keeps = ap (λ b. nat_le least k.number.0 && b) (rise_changed (k.number.0 + 1) end keys i f keeps)

pub below_changed : (most : ℕ) (keys : List Key) (i : ℕ) (f : Key → Key) → ((k : Key) → (f k).peer_id ≡ k.peer_id)
    → are_below most (changed_at i f keys) ≡ are_below most keys
below_changed most [] i f keeps = refl
below_changed most (k ∷ keys) zero f keeps = ap (λ p. nat_lt p most && are_below most keys) (keeps k)
below_changed most (k ∷ keys) (suc i) f keeps = ap (λ b. nat_lt k.peer_id most && b) (below_changed most keys i f keeps)

-- one client more
pub rise_more : (least end : ℕ) (keys : List Key) (k : Key) → k.number.0 ≡ end → rise_from least end keys ≡ true
    → rise_from least (end + 1) (keys ++ k ∷ []) ≡ true
rise_more least end [] k is rises = pair (nat_le least k.number.0) (nat_le (k.number.0 + 1) (end + 1)) (ap (nat_le least) is ∙ rises) (grind (arith, common_steps))
rise_more least end (l ∷ keys) k is rises =
    let h = both (nat_le least l.number.0) (rise_from (l.number.0 + 1) end keys) rises in
    pair (nat_le least l.number.0) (rise_from (l.number.0 + 1) (end + 1) (keys ++ k ∷ [])) h.0 (rise_more (l.number.0 + 1) end keys k is h.1)

pub below_more : (most : ℕ) (keys : List Key) (k : Key) → k.peer_id < most → are_below most keys ≡ true → are_below most (keys ++ k ∷ []) ≡ true
below_more most [] k is below = grind (arith, common_steps)
below_more most (l ∷ keys) k is below =
    let h = both (nat_lt l.peer_id most) (are_below most keys) below in
    pair (nat_lt l.peer_id most) (are_below most (keys ++ k ∷ [])) h.0 (below_more most keys k is h.1)

-- as many values as keys, with one more of each
pub paired_more : {V : Type 0} (keys : List Key) (values : List V) (k : Key) (v : V) → length values ≡ length keys
    → length (values ++ v ∷ []) ≡ length (keys ++ k ∷ [])
paired_more keys values k v same = length-append values (v ∷ []) ∙ ap (λ n. n + 1) same ∙ sym (length-append keys (k ∷ []))

weaker : (m n k : ℕ) → m ≤ n → nat_le n k ≡ true → nat_le m k ≡ true
weaker m n k le is = grind (arith, common_steps)

past : (m k : ℕ) → nat_le m k ≡ true → m ≤ k + 1
past m k is = grind (arith, common_steps)

-- one client less
lower : (m n end : ℕ) (keys : List Key) → m ≤ n → rise_from n end keys ≡ true → rise_from m end keys ≡ true
lower m n end [] le rises = grind (arith, common_steps)
lower m n end (k ∷ keys) le rises =
    let h = both (nat_le n k.number.0) (rise_from (k.number.0 + 1) end keys) rises in
    pair (nat_le m k.number.0) (rise_from (k.number.0 + 1) end keys) (weaker m n k.number.0 le h.0) h.1

pub rise_less : (least end : ℕ) (keys : List Key) (i : ℕ) → rise_from least end keys ≡ true → rise_from least end (without_at i keys) ≡ true
rise_less least end [] i rises = rises
rise_less least end (k ∷ keys) zero rises =
    let h = both (nat_le least k.number.0) (rise_from (k.number.0 + 1) end keys) rises in
    lower least (k.number.0 + 1) end keys (past least k.number.0 h.0) h.1
rise_less least end (k ∷ keys) (suc i) rises =
    let h = both (nat_le least k.number.0) (rise_from (k.number.0 + 1) end keys) rises in
    pair (nat_le least k.number.0) (rise_from (k.number.0 + 1) end (without_at i keys)) h.0 (rise_less (k.number.0 + 1) end keys i h.1)

pub below_less : (most : ℕ) (keys : List Key) (i : ℕ) → are_below most keys ≡ true → are_below most (without_at i keys) ≡ true
below_less most [] i below = below
below_less most (k ∷ keys) zero below = (both (nat_lt k.peer_id most) (are_below most keys) below).1
below_less most (k ∷ keys) (suc i) below =
    let h = both (nat_lt k.peer_id most) (are_below most keys) below in
    pair (nat_lt k.peer_id most) (are_below most (without_at i keys)) h.0 (below_less most keys i h.1)

-- no more than so many
is_few : (n most : ℕ) → nat_le n most ≡ true → n ≤ most
is_few n most is = grind (arith, common_steps)

are_few : (n most : ℕ) → n ≤ most → nat_le n most ≡ true
are_few n most few = grind (arith, common_steps)

pub few_changed : (most : ℕ) (keys : List Key) (i : ℕ) (f : Key → Key) → nat_le (length keys) most ≡ true → nat_le (length (changed_at i f keys)) most ≡ true
few_changed most keys i f few = ap (λ n. nat_le n most) (length_changed i f keys) ∙ few

pub few_more : (most : ℕ) (keys : List Key) (k : Key) → length keys < most → nat_le (length (keys ++ k ∷ [])) most ≡ true
few_more most keys k less = are_few (length (keys ++ k ∷ [])) most (omega (arith, less, length-append keys (k ∷ [])))

length_less : (i : ℕ) (keys : List Key) → length (without_at i keys) ≤ length keys
length_less i [] = omega arith
length_less zero (k ∷ keys) = omega arith
length_less (suc i) (k ∷ keys) = omega (arith, length_less i keys)

pub few_less : (most : ℕ) (keys : List Key) (i : ℕ) → nat_le (length keys) most ≡ true → nat_le (length (without_at i keys)) most ≡ true
few_less most keys i few = are_few (length (without_at i keys)) most (omega (arith, length_less i keys, is_few (length keys) most few))

pub few_here : {V : Type 0} (t : ClientTable V) → length (entries_of t) ≤ most_of t
few_here t = omega (arith, length_is t.keys.items t.values.items t.paired, is_few (length t.keys.items) t.most t.few)

-- the peer id at each place is below the most
pub below_at : (most : ℕ) (keys : List Key) (o : Option ℕ) → are_below most keys ≡ true → IfSome (item_at keys o) (λ k. k.peer_id < most)
below_at most keys None below = tt
below_at most [] (Some i) below = tt
below_at most (k ∷ keys) (Some zero) below = is_less k.peer_id most (both (nat_lt k.peer_id most) (are_below most keys) below).0
below_at most (k ∷ keys) (Some (suc i)) below = below_at most keys (Some i) (both (nat_lt k.peer_id most) (are_below most keys) below).1
