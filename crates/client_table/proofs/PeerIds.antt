-- The least number that no item has.
use Rattle.std.proofs.Common.{◌≡◌, ℕ, zero, suc, ◌+◌, ◌-◌, ◌<◌, ◌≤◌, Bool, true, false, List, [], ◌∷◌, length, refl, ap, subst, sym, ◌∙◌, ⊎_elim, arith}
use Rattle.std.specs.Prelude.{◌==◌, ◌||◌, nat_lt}
use Rattle.std.proofs.lemmas.Bool.{cases_eq, cases_lt, false≢true}
use Rattle.std.proofs.lemmas.Grind.{common_steps}
use Rattle.std.specs.List.{list_any}
use Rattle.client_table.specs.PeerIds.{IsLeastUnused, unless_used, unused_from}

module _ {X : Type 0} (has : ℕ → X → Bool) where
  passed : (b : Bool) (n later : ℕ) → b ≡ true → unless_used b n later ≡ later
  passed true n later e = refl
  passed false n later e = cc

  found : (b : Bool) (n later : ℕ) → b ≡ false → unless_used b n later ≡ n
  found true n later e = cc
  found false n later e = refl

  -- a number that is used is passed
  pub next_is : (total n : ℕ) (xs : List X) (u : ℕ) → n < total → list_any (has n) xs ≡ true → unused_from has (total - n) n xs ≡ u
      → unused_from has (total - (n + 1)) (n + 1) xs ≡ u
  next_is total n xs u within used is =
      let more : total - n ≡ suc (total - (n + 1)) = omega arith in
      let after : n + 1 ≡ suc n = omega arith in
      ap (λ (m : ℕ). unused_from has (total - (n + 1)) m xs) after
      ∙ sym (passed (list_any (has n) xs) n (unused_from has (total - (n + 1)) (suc n) xs) used)
      ∙ sym (ap (λ (k : ℕ). unused_from has k n xs) more)
      ∙ is

  -- one that is not used is the one
  pub this_is : (total n : ℕ) (xs : List X) → n < total → list_any (has n) xs ≡ false → unused_from has (total - n) n xs ≡ n
  this_is total n xs within free =
      let more : total - n ≡ suc (total - (n + 1)) = omega arith in
      ap (λ (k : ℕ). unused_from has k n xs) more ∙ found (list_any (has n) xs) n (unused_from has (total - (n + 1)) (suc n) xs) free

  -- behind the last there is none
  pub last_is : (total n : ℕ) (xs : List X) → total ≤ n → unused_from has (total - n) n xs ≡ n
  last_is total n xs over =
      let none : total - n ≡ 0 = omega arith in
      ap (λ (k : ℕ). unused_from has k n xs) none

-- ---- it is the least

abbrev more_if : Bool → ℕ → ℕ
more_if true n = suc n
more_if false n = n

-- how many items have a number below one
abbrev below : {X : Type 0} → (X → ℕ) → ℕ → List X → ℕ
below number m [] = 0
below number m (x ∷ xs) = more_if (nat_lt (number x) m) (below number m xs)

below_few : {X : Type 0} (number : X → ℕ) (m : ℕ) (xs : List X) → below number m xs ≤ length xs
below_few number m [] = omega arith
below_few number m (x ∷ xs) = step (nat_lt (number x) m) (below number m xs) (length xs) (below_few number m xs)
  where
    step : (b : Bool) (n k : ℕ) → n ≤ k → more_if b n ≤ suc k
    step true n k le = omega (arith, le)
    step false n k le = omega (arith, le)

lt_true : (k m : ℕ) → nat_lt k m ≡ true → nat_lt k (suc m) ≡ true
lt_true k m e = grind (arith, common_steps)

lt_next : (k m : ℕ) → (k == m) ≡ true → nat_lt k (suc m) ≡ true
lt_next k m e = grind (arith, common_steps)

lt_not : (k m : ℕ) → (k == m) ≡ true → nat_lt k m ≡ false
lt_not k m e = grind (arith, common_steps)

more_le : (b d : Bool) (n k : ℕ) → (b ≡ true → d ≡ true) → n ≤ k → more_if b n ≤ more_if d k
more_le true true n k imp le = omega (arith, le)
more_le true false n k imp le = absurd (false≢true (imp refl))
more_le false true n k imp le = omega (arith, le)
more_le false false n k imp le = le

below_more : {X : Type 0} (number : X → ℕ) (m : ℕ) (xs : List X) → below number m xs ≤ below number (suc m) xs
below_more number m [] = omega arith
below_more number m (x ∷ xs) =
    more_le (nat_lt (number x) m) (nat_lt (number x) (suc m)) (below number m xs) (below number (suc m) xs) (lt_true (number x) m) (below_more number m xs)

count_step : (b d e rest : Bool) (n k : ℕ) → (b ≡ true → d ≡ true) → (e ≡ true → (b ≡ false) × (d ≡ true)) → n ≤ k → (rest ≡ true → suc n ≤ k)
    → (e || rest) ≡ true → suc (more_if b n) ≤ more_if d k
count_step true true true rest n k imp is le ih used = absurd (false≢true (sym (is refl).0))
count_step true true false rest n k imp is le ih used = omega (arith, ih used)
count_step true false e rest n k imp is le ih used = absurd (false≢true (imp refl))
count_step false true true rest n k imp is le ih used = omega (arith, le)
count_step false true false rest n k imp is le ih used = omega (arith, ih used)
count_step false false true rest n k imp is le ih used = absurd (false≢true (is refl).1)
count_step false false false rest n k imp is le ih used = ih used

-- a number that is used counts
used_counts : {X : Type 0} (number : X → ℕ) (m : ℕ) (xs : List X) → list_any (λ x. number x == m) xs ≡ true
    → suc (below number m xs) ≤ below number (suc m) xs
used_counts number m [] used = absurd (false≢true used)
used_counts number m (x ∷ xs) used =
    count_step (nat_lt (number x) m) (nat_lt (number x) (suc m)) (number x == m) (list_any (λ x. number x == m) xs) (below number m xs) (below number (suc m) xs)
    (lt_true (number x) m) (λ is. (lt_not (number x) m is, lt_next (number x) m is)) (below_more number m xs) (used_counts number m xs) used

-- where all numbers below one are used, there are as many items
all_count : {X : Type 0} (number : X → ℕ) (xs : List X) (m : ℕ) → ((k : ℕ) → k < m → list_any (λ x. number x == k) xs ≡ true) → m ≤ below number m xs
all_count number xs zero used = omega arith
all_count number xs (suc m) used =
    omega (arith, all_count number xs m (λ k lt. used k (omega (arith, lt))), used_counts number m xs (used m (omega arith)))

-- what was found from a number on: all before are used, and it is not, or it is behind the last
record Found {X : Type 0} (has : ℕ → X → Bool) (most n u : ℕ) (xs : List X) : Type 0 where
  most_is : u ≤ n + most
  least : (k : ℕ) → n ≤ k → k < u → list_any (has k) xs ≡ true
  unused : u < n + most → list_any (has u) xs ≡ false

found_step : {X : Type 0} (has : ℕ → X → Bool) (most n u : ℕ) (xs : List X) (b : Bool) → list_any (has n) xs ≡ b → Found has most (suc n) u xs
    → Found has (suc most) n (unless_used b n u) xs
found_step has most n u xs true is f = record {
  most_is = omega (arith, f.most_is);
  least = λ k from lt.
      ⊎_elim (λ (e : k ≡ n). subst (λ (m : ℕ). list_any (has m) xs ≡ true) (sym e) is) (λ (ne : k ≡ n → ⊥). f.least k (omega (arith, from, ne)) lt) (cases_eq k n);
  unused = λ lt. f.unused (omega (arith, lt));
}
found_step has most n u xs false is f = record {
  most_is = omega arith;
  least = λ k from lt. absurd (omega (arith, from, lt));
  unused = λ lt. is;
}

found_from : {X : Type 0} (has : ℕ → X → Bool) (most n : ℕ) (xs : List X) → Found has most n (unused_from has most n xs) xs
found_from has zero n xs = record {
  most_is = omega arith;
  least = λ k from lt. absurd (omega (arith, from, lt));
  unused = λ lt. absurd (omega (arith, lt));
}
found_from has (suc most) n xs = found_step has most n (unused_from has most (suc n) xs) xs (list_any (has n) xs) refl (found_from has most (suc n) xs)

too_many : {X : Type 0} (number : X → ℕ) (xs : List X) (u : ℕ) → length xs ≤ u → ((k : ℕ) → k < u → list_any (λ x. number x == k) xs ≡ true)
    → (b : Bool) → list_any (λ x. number x == u) xs ≡ b → b ≡ false
too_many number xs u over used false is = refl
too_many number xs u over used true is =
    absurd (omega (arith, over, all_count number xs u used, used_counts number u xs is, below_few number (suc u) xs))

-- the least number that no item has is the first of as many as there are items, or the one behind them
pub least_is : {X : Type 0} (number : X → ℕ) (xs : List X)
    → IsLeastUnused (λ n x. number x == n) (unused_from (λ n x. number x == n) (length xs) 0 xs) xs
least_is number xs =
    let f = found_from (λ n x. number x == n) (length xs) 0 xs in
    let u = unused_from (λ n x. number x == n) (length xs) 0 xs in
    record {
      unused =
          ⊎_elim (λ (lt : u < length xs). f.unused (omega (arith, lt)))
          (λ (over : length xs ≤ u). too_many number xs u over (λ k lt. f.least k (omega arith) lt) (list_any (λ x. number x == u) xs) refl)
          (cases_lt u (length xs));
      least = λ m lt. f.least m (omega arith) lt;
    }
