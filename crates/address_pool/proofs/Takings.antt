-- Addresses taken and free, by their counts.
use Rattle.std.proofs.Common.{◌≡◌, ℕ, suc, ◌+◌, ◌-◌, ◌≤◌, ◌==◌, ◌||◌, not, Bool, true, false, cond, List, [], ◌∷◌, find, count_by, Option, refl, ap, ◌∙◌, ⊎_elim, zero-add, arith}
use Rattle.std.specs.Prelude.{option_map}
use Rattle.std.proofs.lemmas.Bool.{cases_eq}
use Rattle.std.proofs.lemmas.List.Sums.{sum_by-cons}
use borrow.Author.Tests.{ne_eqb}
use Rattle.std.proofs.lemmas.Grind.{common_steps}
use Rattle.std.specs.List.{range_with_len}
use Rattle.vpn_base.specs.declared.address.Ip4.{Ip4}
use Rattle.address_pool.specs.Counts.{count_of}
use Rattle.address_pool.specs.LeastFree.{Takings, is_taken, least_free}
use Rattle.address_pool.specs.Holds.{Holds}
use Rattle.address_pool.specs.internal.Beside.{CountsBeside, count_beside}
use Rattle.address_pool.specs.declared.Pool.{Pool}

uncounted_step : (b : Bool) (n : ℕ) (rest : Bool) → (n == 0) ≡ not rest → (cond b 1 0 + n == 0) ≡ not (b || rest)
uncounted_step true n rest e = grind (arith, common_steps)
uncounted_step false n rest e = ap (λ (m : ℕ). m == 0) (zero-add n) ∙ e

-- a number is counted exactly where it is among those taken
uncounted : (taken : List Ip4) (n : ℕ) → (count_by (λ a. a.0 == n) taken == 0) ≡ not (is_taken taken n)
uncounted [] n = refl
uncounted (a ∷ taken) n =
    ap (λ (m : ℕ). m == 0) (sum_by-cons (λ (x : Ip4). cond (x.0 == n) 1 0) a taken)
    ∙ uncounted_step (a.0 == n) (count_by (λ x. x.0 == n) taken) (is_taken taken n) (uncounted taken n)

find_same : (p q : ℕ → Bool) → ((n : ℕ) → p n ≡ q n) → (xs : List ℕ) → find p xs ≡ find q xs
find_same p q same [] = refl
find_same p q same (x ∷ xs) = rw (same x, find_same p q same xs) refl

-- the least address of the range that no taking counts, beside one that is given up
pub least_in : (pool : Pool) (t : Takings) (given_up : Option ℕ) (rest : List Ip4) → Holds pool t → CountsBeside pool given_up rest
    → option_map (λ n. record { 0 = n }) (find (λ n. count_beside pool.counts given_up n == 0) (range_with_len pool.first.0 (pool.last.0 + 1 - pool.first.0)))
    ≡ least_free t.first t.last rest
unfolding least_free
least_in pool t given_up rest h counts =
    let counted : ℕ → Bool = λ n. count_beside pool.counts given_up n == 0 in
    let free : ℕ → Bool = λ n. not (is_taken rest n) in
    let address : ℕ → Ip4 = λ n. record { 0 = n } in
    let same : (n : ℕ) → counted n ≡ free n = λ n. ap (λ (m : ℕ). m == 0) (counts n) ∙ uncounted rest n in
    ap (option_map address) (find_same counted free same (range_with_len pool.first.0 (pool.last.0 + 1 - pool.first.0)))
    ∙ ap (λ (first : Ip4). option_map address (find free (range_with_len first.0 (pool.last.0 + 1 - first.0)))) h.begins
    ∙ ap (λ (last : Ip4). option_map address (find free (range_with_len t.first.0 (last.0 + 1 - t.first.0)))) h.ends

count_zero : (n : ℕ) (b : Bool) → (n == 0) ≡ not b → b ≡ false → n ≡ 0
count_zero n true e out = cc
count_zero n false e out = grind (arith, common_steps)

less_none : (n a : ℕ) (f : ℕ → ℕ) → f a ≡ 0 → f n - cond (n == a) 1 0 ≡ f n
less_none n a f none =
    ⊎_elim (λ e. rw e (rw none (omega arith))) (λ ne. rw (ne_eqb n a ne) (omega arith)) (cases_eq n a)

-- an address that nobody has is counted no less
pub absent : (pool : Pool) (t : Takings) (a : ℕ) → Holds pool t → is_taken t.taken a ≡ false
    → (n : ℕ) → count_of pool.counts n - cond (n == a) 1 0 ≡ count_by (λ x. x.0 == n) t.taken
absent pool t a h out n =
    less_none n a (count_of pool.counts) (count_zero (count_of pool.counts a) (is_taken t.taken a) (ap (λ (m : ℕ). m == 0) (h.counts a) ∙ uncounted t.taken a) out) ∙ h.counts n

-- the first of a range that fails the test is passed over
pub find_next : (p : ℕ → Bool) (a last : ℕ) → a ≤ last → p a ≡ false
    → find p (range_with_len (a + 1) (last + 1 - (a + 1))) ≡ find p (range_with_len a (last + 1 - a))
find_next p a last within fails =
    let more : last + 1 - a ≡ suc (last + 1 - (a + 1)) = omega arith in
    rw (more, fails) refl
