-- Numbers that are not here are skipped.
use Rattle.std.proofs.Common.{◌≡◌, ℕ, zero, suc, ◌+◌, ◌-◌, ◌<◌, ◌≤◌, ◌==◌, Bool, true, false, cond, List, [], ◌∷◌, Option, None, Some, option_map, refl, sym, ap, ◌∙◌, arith}
use Rattle.std.specs.Prelude.{find, is_some, nat_le, unwrap_or}
use Rattle.std.proofs.lemmas.Bool.{false≢true}
use Rattle.std.proofs.lemmas.Grind.{common_steps}
use Rattle.vpn_base.specs.declared.names.Cid.{Cid}
use Rattle.client_table.specs.declared.key.Key.{Key}
use Rattle.client_table.specs.declared.table.ClientTable.{ClientTable}
use Rattle.client_table.specs.Changes.{by_key, earlier, number_where, place_of}
use Rattle.client_table.specs.Entries.{Entry, entries}
use Rattle.client_table.specs.Finding.{is_from}
use Rattle.client_table.specs.Sound.{rise_from}
use Rattle.client_table.specs.Tables.{entries_of}
use Rattle.server_table.specs.Courses.{Course}
use Rattle.server_table.specs.Lookups.{client_here}
use Rattle.server_table.specs.Time.{client_ticked, clients_ticked, tick_for}
use Rattle.server_time.proofs.Ready.{both, is_least}

-- ---- numbers

abbrev pub number_of : {V : Type 0} → ℕ → List (Entry V) → Option ℕ
number_of n es = option_map (λ cid. cid.0) (number_where (is_from n) es)

pub is_apart : (m n : ℕ) (b : Bool) → (m ≡ n → ⊥) → (m == n) ≡ b → b ≡ false
is_apart m n true apart is = absurd (apart (grind (arith, common_steps)))
is_apart m n false apart is = refl

pub is_below : (n m : ℕ) → nat_le n m ≡ false → m < n
is_below n m is = grind (arith, common_steps)

-- a client of another number, before others
behind_other : {V : Type 0} (k : Key) (v : V) (es : List (Entry V)) (j : ℕ) → (k.number.0 ≡ j → ⊥) → place_of j es ≡ None
    → place_of j (record { key = k; value = v } ∷ es) ≡ None
behind_other k v es j apart none =
    ap (λ b. earlier b (place_of j es)) (is_apart k.number.0 j (k.number.0 == j) apart refl) ∙ ap (earlier false) none

pub found : {V : Type 0} (k : Key) (v : V) (es : List (Entry V)) (n : ℕ) (b : Bool) → nat_le n k.number.0 ≡ b
    → number_of n (record { key = k; value = v } ∷ es) ≡ cond b (Some k.number.0) (number_of n es)
found k v es n true is = ap (λ b. option_map (λ (cid : Cid). cid.0) (option_map (λ (e : Entry _). e.key.number) (cond b (Some (record { key = k; value = v })) (find (by_key (is_from n)) es)))) is
found k v es n false is = ap (λ b. option_map (λ (cid : Cid). cid.0) (option_map (λ (e : Entry _). e.key.number) (cond b (Some (record { key = k; value = v })) (find (by_key (is_from n)) es)))) is

-- all numbers are higher
higher : {V : Type 0} (keys : List Key) (values : List V) (least end j : ℕ) → rise_from least end keys ≡ true → j < least → place_of j (entries keys values) ≡ None
higher [] values least end j rising less = refl
higher (k ∷ keys) [] least end j rising less = refl
higher (k ∷ keys) (v ∷ values) least end j rising less =
    let two = both (nat_le least k.number.0) (rise_from (k.number.0 + 1) end keys) rising in
    let low : least ≤ k.number.0 = is_least least k.number.0 two.0 in
    behind_other k v (entries keys values) j (λ same. omega (arith, same, less, low)) (higher keys values (k.number.0 + 1) end j two.1 (omega (arith, less, low)))

none_from_step : {V : Type 0} (k : Key) (v : V) (es : List (Entry V)) (n j : ℕ) (b : Bool) → nat_le n k.number.0 ≡ b
    → number_of n (record { key = k; value = v } ∷ es) ≡ None → n ≤ j → (number_of n es ≡ None → place_of j es ≡ None)
    → place_of j (record { key = k; value = v } ∷ es) ≡ None
none_from_step k v es n j true is none from rest = absurd (false≢true (ap is_some (sym none ∙ found k v es n true is)))
none_from_step k v es n j false is none from rest =
    let less : k.number.0 < n = is_below n k.number.0 is in
    behind_other k v es j (λ same. omega (arith, same, less, from)) (rest (sym (found k v es n false is) ∙ none))

-- nobody has a number from this one on
none_from : {V : Type 0} (keys : List Key) (values : List V) (n j : ℕ) → number_of n (entries keys values) ≡ None → n ≤ j → place_of j (entries keys values) ≡ None
none_from [] values n j none from = refl
none_from (k ∷ keys) [] n j none from = refl
none_from (k ∷ keys) (v ∷ values) n j none from =
    none_from_step k v (entries keys values) n j (nat_le n k.number.0) refl none from (λ rest. none_from keys values n j rest from)

between_step : {V : Type 0} (k : Key) (v : V) (es : List (Entry V)) (n m j : ℕ) (b : Bool) → nat_le n k.number.0 ≡ b
    → number_of n (record { key = k; value = v } ∷ es) ≡ Some m → n ≤ j → j < m → (j < k.number.0 + 1 → place_of j es ≡ None)
    → (number_of n es ≡ Some m → place_of j es ≡ None) → place_of j (record { key = k; value = v } ∷ es) ≡ None
between_step k v es n m j true is next from before all rest =
    let same : k.number.0 ≡ m = ap (λ o. unwrap_or o m) (sym (found k v es n true is) ∙ next) in
    behind_other k v es j (λ also. omega (arith, also, same, before)) (all (omega (arith, same, before)))
between_step k v es n m j false is next from before all rest =
    let less : k.number.0 < n = is_below n k.number.0 is in
    behind_other k v es j (λ same. omega (arith, same, less, from)) (rest (sym (found k v es n false is) ∙ next))

-- nobody has a number between this one and the next that is here
between : {V : Type 0} (keys : List Key) (values : List V) (least end n m j : ℕ) → rise_from least end keys ≡ true
    → number_of n (entries keys values) ≡ Some m → n ≤ j → j < m → place_of j (entries keys values) ≡ None
between [] values least end n m j rising next from before = refl
between (k ∷ keys) [] least end n m j rising next from before = refl
between (k ∷ keys) (v ∷ values) least end n m j rising next from before =
    let two = both (nat_le least k.number.0) (rise_from (k.number.0 + 1) end keys) rising in
    between_step k v (entries keys values) n m j (nat_le n k.number.0) refl next from before (λ less. higher keys values (k.number.0 + 1) end j two.1 less)
    (λ rest. between keys values (k.number.0 + 1) end n m j two.1 rest from before)

-- ---- courses

none_here : (n : ℕ) (c : Course) → client_here c.table n ≡ None → client_ticked n c ≡ c
unfolding client_ticked
none_here n c none = ap (tick_for n c) none

skipped : (d all most n m : ℕ) (c : Course) → all ≡ d + most → m ≡ n + d → ((j : ℕ) → n ≤ j → j < m → client_here c.table j ≡ None)
    → clients_ticked all n c ≡ clients_ticked most m c
unfolding clients_ticked
skipped zero all most n m c is to absent =
    let as_many : all ≡ most = omega (arith, is) in
    let from : n ≡ m = omega (arith, to) in
    ap (λ (k : ℕ). clients_ticked k n c) as_many ∙ ap (λ (k : ℕ). clients_ticked most k c) from
skipped (suc d) zero most n m c is to absent = absurd (grind (arith, common_steps))
skipped (suc d) (suc all) most n m c is to absent =
    ap (λ c. clients_ticked all (suc n) c) (none_here n c (absent n (omega arith) (omega (arith, to))))
    ∙ skipped d all most (suc n) m c (omega (arith, is)) (omega (arith, to)) (λ j from before. absent j (omega (arith, from)) before)

done : (all n : ℕ) (c : Course) → ((j : ℕ) → n ≤ j → client_here c.table j ≡ None) → clients_ticked all n c ≡ c
unfolding clients_ticked
done zero n c absent = refl
done (suc all) n c absent =
    ap (λ c. clients_ticked all (suc n) c) (none_here n c (absent n (omega arith)))
    ∙ done all (suc n) c (λ j from. absent j (omega (arith, from)))

-- ---- the core

pub next_ticked : {V : Type 0} (clients : ClientTable V) (c : Course) (n m all most : ℕ)
    → ((j : ℕ) → place_of j (entries_of clients) ≡ None → client_here c.table j ≡ None)
    → option_map (λ cid. cid.0) (number_where (is_from n) (entries_of clients)) ≡ Some m → n ≤ m → n + all ≡ m + most
    → clients_ticked all n c ≡ clients_ticked most m c
next_ticked clients c n m all most nobody next later as_many =
    let gap : m ≡ n + (m - n) = omega (arith, later) in
    skipped (m - n) all most n m c (omega (arith, later, as_many)) gap
    (λ j from before. nobody j (between clients.keys.items clients.values.items 0 clients.admitted n m j clients.rising next from before))

pub none_ticked : {V : Type 0} (clients : ClientTable V) (c : Course) (n all : ℕ)
    → ((j : ℕ) → place_of j (entries_of clients) ≡ None → client_here c.table j ≡ None)
    → option_map (λ cid. cid.0) (number_where (is_from n) (entries_of clients)) ≡ None → clients_ticked all n c ≡ c
none_ticked clients c n all nobody none = done all n c (λ j from. nobody j (none_from clients.keys.items clients.values.items n j none from))
