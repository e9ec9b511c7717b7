-- The places of a ring.
use Rattle.std.proofs.Common.{◌≡◌, ℕ, zero, suc, ◌+◌, ◌-◌, ◌%◌, ◌<◌, ◌≤◌, Bool, true, refl, ap, ◌∙◌, ⊎_elim, arith}
use Rattle.std.specs.Prelude.{◌||◌}
use Rattle.std.specs.List.{list_any, range_with_len}
use Rattle.std.proofs.lemmas.Bool.{cases_eq}
use Rattle.packet_ids.proofs.Entries.{or_true, or_left, or_right}

-- a number of a range that passes a test
pub record FoundIn (p : ℕ → Bool) (a n : ℕ) : Type 0 where
  pub number : ℕ
  pub low : a ≤ number
  pub high : number < a + n
  pub passes : p number ≡ true

pub found_in : (p : ℕ → Bool) (a n : ℕ) → list_any p (range_with_len a n) ≡ true → FoundIn p a n
found_in p a zero h = absurd cc
found_in p a (suc n) h =
    or_true (p a) (list_any p (range_with_len (a + 1) n)) (FoundIn p a (suc n)) h
    (λ here. record { number = a; low = omega arith; high = omega arith; passes = here })
    (λ rest. let r = found_in p (a + 1) n rest in
    record { number = r.number; low = omega (arith, r.low); high = omega (arith, r.high); passes = r.passes })

pub in_range : (p : ℕ → Bool) (a n k : ℕ) → a ≤ k → k < a + n → p k ≡ true → list_any p (range_with_len a n) ≡ true
in_range p a zero k low high passes = absurd (omega arith)
in_range p a (suc n) k low high passes =
    ⊎_elim (λ same. or_left (p a) (list_any p (range_with_len (a + 1) n)) (ap p same ∙ passes))
    (λ other. or_right (p a) (list_any p (range_with_len (a + 1) n)) (in_range p (a + 1) n k (omega (arith, other)) (omega arith) passes))
    (cases_eq a k)

-- the first of what is left of a range
pub any_next : (p : ℕ → Bool) (i most : ℕ) → i < most →
    list_any p (range_with_len (i + 1) (most - i)) ≡ (p (i + 1) || list_any p (range_with_len (i + 1 + 1) (most - (i + 1))))
any_next p i most within =
    let more : most - i ≡ suc (most - (i + 1)) = omega arith in
    rw more refl

-- numbers of one remainder that lie nearer than the divisor are the same
pub same_of_near : (n a b : ℕ) → 0 < n → a % n ≡ b % n → a < b + n → b < a + n → a ≡ b
same_of_near n a b some same below above = grind arith
