-- The product is linear in the element whose coefficients it reads, and what it is at a power of
-- two.
use Rattle.std.proofs.Common.{◌≡◌, ℕ, zero, suc, ◌+◌, ◌-◌, ◌*◌, ◌/◌, ◌%◌, ◌^◌, ◌<◌, ◌≤◌, ◌⊎◌, inl, inr, cond, eqb, bit_and, bit_xor, ap, sym, ◌∙◌, refl, arith, add-one}
use Rattle.std.proofs.lemmas.Nat.{mod-pow-add, xor_comm, pow_pos, pow-add, shl_below, mod_below}
use Rattle.std.proofs.lemmas.Nat.Bits.{bit_at_xor, bit_at-lt, bit_at-zero, shr_and_one, bit_at-pow_same, bit_at-pow_other}
use Rattle.std.proofs.Math.Nat.{add-mul, mul_assoc, one-mul, zero-mul}
use lib.Bits.{xor_assoc, xor_self, xor_shifted, xor_zero_r}
use Rattle.ghash_core.specs.Field.{coefficient, partial_product, product, times_power, times_x}

-- what the coefficient i adds to a product
abbrev term : ℕ → ℕ → ℕ
term c v = cond (eqb c 1) v 0

-- the middle two of four change places
xor_middle : (a b c d : ℕ) → bit_xor (bit_xor a b) (bit_xor c d) ≡ bit_xor (bit_xor a c) (bit_xor b d)
xor_middle a b c d =
    xor_assoc a b (bit_xor c d)
    ∙ ap (bit_xor a) (sym (xor_assoc b c d) ∙ ap (λ (z : ℕ). bit_xor z d) (xor_comm b c) ∙ xor_assoc c b d)
    ∙ sym (xor_assoc a c (bit_xor b d))

bit_cases : (a : ℕ) → a < 2 → (a ≡ 0) ⊎ (a ≡ 1)
bit_cases zero h = inl refl
bit_cases (suc zero) h = inr refl
bit_cases (suc (suc a)) h = absurd (omega arith)

term-xor : (a b v : ℕ) → a < 2 → b < 2 → term ((a + b) % 2) v ≡ bit_xor (term a v) (term b v)
term-xor a b v ha hb = elim (bit_cases a ha) [
  | inl p ↦ elim (bit_cases b hb) [
    | inl q ↦ rw (p, q) refl
    | inr q ↦ rw (p, q) refl
  ]
  | inr p ↦ elim (bit_cases b hb) [
    | inl q ↦ rw (p, q) (sym (xor_zero_r v))
    | inr q ↦ rw (p, q) (sym (xor_self v))
  ]
]

partial_product-xor : (a b y n : ℕ) → partial_product (bit_xor a b) y n ≡ bit_xor (partial_product a y n) (partial_product b y n)
unfolding partial_product
partial_product-xor a b y zero = refl
partial_product-xor a b y (suc i) =
    let bits = ap (λ (c : ℕ). term c (times_power y i)) (bit_at_xor a b (127 - i)) in
    let split = term-xor (coefficient a i) (coefficient b i) (times_power y i) (bit_at-lt a (127 - i)) (bit_at-lt b (127 - i)) in
    ap (λ (z : ℕ). bit_xor z (term (coefficient (bit_xor a b) i) (times_power y i))) (partial_product-xor a b y i)
    ∙ ap (bit_xor (bit_xor (partial_product a y i) (partial_product b y i))) (bits ∙ split)
    ∙ xor_middle (partial_product a y i) (partial_product b y i) (term (coefficient a i) (times_power y i)) (term (coefficient b i) (times_power y i))

-- the product of a sum is the sum of the products
pub product-xor : (a b y : ℕ) → product (bit_xor a b) y ≡ bit_xor (product a y) (product b y)
unfolding product
product-xor a b y = partial_product-xor a b y 128

-- coefficients that are 0 add nothing
partial_product_stays : (x y m k : ℕ) → ((i : ℕ) → m ≤ i → i < m + k → coefficient x i ≡ 0) → partial_product x y (m + k) ≡ partial_product x y m
unfolding partial_product
partial_product_stays x y m zero none = let same : m + 0 ≡ m = omega arith in ap (partial_product x y) same
partial_product_stays x y m (suc k) none =
    let next : m + suc k ≡ suc (m + k) = omega arith in
    ap (partial_product x y) next
    ∙ ap (λ (c : ℕ). bit_xor (partial_product x y (m + k)) (term c (times_power y (m + k)))) (none (m + k) (omega arith) (omega arith))
    ∙ xor_zero_r _
    ∙ partial_product_stays x y m k (λ i low high. none i low (omega arith))

partial_product_none : (x y n : ℕ) → ((i : ℕ) → i < n → coefficient x i ≡ 0) → partial_product x y n ≡ 0
unfolding partial_product
partial_product_none x y n none =
    let same : n ≡ 0 + n = omega arith in
    ap (partial_product x y) same ∙ partial_product_stays x y 0 n (λ i low high. none i (omega arith))

-- one coefficient more, as the test of a bit finds it: what is added where it is 1
pub partial_product_one : (x y i sum v : ℕ) → bit_and (x / 2 ^ (127 - i)) 1 ≡ 1 → sum ≡ partial_product x y i → v ≡ times_power y i → bit_xor sum v ≡ partial_product x y (i + 1)
unfolding partial_product
partial_product_one x y i sum v test so_far power =
    let one : coefficient x i ≡ 1 = sym (shr_and_one x (127 - i)) ∙ test in
    ap (λ (z : ℕ). bit_xor z v) so_far
    ∙ ap (bit_xor (partial_product x y i)) power
    ∙ ap (λ (c : ℕ). bit_xor (partial_product x y i) (term c (times_power y i))) (sym one)
    ∙ ap (partial_product x y) (sym (add-one i))

-- the same where it is 0
pub partial_product_zero : (x y i sum : ℕ) → ¬ (bit_and (x / 2 ^ (127 - i)) 1 ≡ 1) → sum ≡ partial_product x y i → sum ≡ partial_product x y (i + 1)
unfolding partial_product
partial_product_zero x y i sum test so_far =
    let small = bit_at-lt x (127 - i) in
    let not_one : coefficient x i ≡ 1 → ⊥ = λ e. test (shr_and_one x (127 - i) ∙ e) in
    let none : coefficient x i ≡ 0 = elim (bit_cases (coefficient x i) small) [ inl e ↦ e | inr e ↦ absurd (not_one e) ] in
    so_far
    ∙ sym (xor_zero_r (partial_product x y i))
    ∙ ap (λ (c : ℕ). bit_xor (partial_product x y i) (term c (times_power y i))) (sym none)
    ∙ ap (partial_product x y) (sym (add-one i))

-- nothing times an element
pub product-zero : (y : ℕ) → product 0 y ≡ 0
unfolding product
product-zero y = partial_product_none 0 y 128 (λ i h. bit_at-zero (127 - i))

-- the product of the power of two that has the coefficient i alone
pub product-pow : (b i y : ℕ) → b + i ≡ 127 → product (2 ^ b) y ≡ times_power y i
unfolding product partial_product
product-pow b i y sum =
    let place : 127 - i ≡ b = omega arith in
    let all : 128 ≡ suc i + b = omega arith in
    let one : coefficient (2 ^ b) i ≡ 1 = ap (λ (j : ℕ). 2 ^ b / 2 ^ j % 2) place ∙ bit_at-pow_same b in
    ap (partial_product (2 ^ b) y) all
    ∙ partial_product_stays (2 ^ b) y (suc i) b (λ j low high. bit_at-pow_other b (127 - j) (λ e. omega arith))
    ∙ ap (λ (c : ℕ). bit_xor (partial_product (2 ^ b) y i) (term c (times_power y i))) one
    ∙ ap (λ (z : ℕ). bit_xor z (times_power y i))
    (partial_product_none (2 ^ b) y i (λ j low. bit_at-pow_other b (127 - j) (λ e. omega arith)))

-- digits of w bits from place s on: the first j + 1 of them are the first j and one more
pub product_digits : (x y a w s : ℕ) → product (x % 2 ^ (w + a) * 2 ^ s) y ≡ bit_xor (product (x % 2 ^ a * 2 ^ s) y) (product (x / 2 ^ a % 2 ^ w * 2 ^ (a + s)) y)
product_digits x y a w s =
    let digit : ℕ = x / 2 ^ a % 2 ^ w in
    let low : ℕ = x % 2 ^ a in
    let split : x % 2 ^ (w + a) * 2 ^ s ≡ digit * 2 ^ (a + s) + low * 2 ^ s =
    ap (λ (z : ℕ). z * 2 ^ s) (mod-pow-add x w a) ∙ add-mul _ _ _ ∙ ap (λ (z : ℕ). z + low * 2 ^ s) (mul_assoc _ _ _ ∙ ap (λ (z : ℕ). digit * z) (sym (pow-add 2 a s))) in
    let small : low * 2 ^ s < 2 ^ (a + s) = shl_below low a s (mod_below x (2 ^ a) (pow_pos a)) in
    ap (λ (z : ℕ). product z y) (split ∙ sym (xor_shifted digit (a + s) (low * 2 ^ s) small))
    ∙ product-xor (digit * 2 ^ (a + s)) (low * 2 ^ s) y
    ∙ xor_comm (product (digit * 2 ^ (a + s)) y) (product (low * 2 ^ s) y)

-- one power more
pub times_power_more : (y i : ℕ) → times_power y (i + 1) ≡ times_x (times_power y i)
unfolding times_power
times_power_more y i = ap (times_power y) (add-one i)

-- the first bits of a digit, as the test of its bit j finds the next: what is added where it is 1
pub product_bit_one : (d y s j i sum : ℕ) → bit_and (d / 2 ^ j) 1 ≡ 1 → i + (j + s) ≡ 127 → sum ≡ product (d % 2 ^ j * 2 ^ s) y → bit_xor sum (times_power y i) ≡ product (d % 2 ^ (j + 1) * 2 ^ s) y
product_bit_one d y s j i sum test place so_far =
    let one : d / 2 ^ j % 2 ^ 1 ≡ 1 = sym (shr_and_one d j) ∙ test in
    let order : j + 1 ≡ 1 + j = omega arith in
    let turned : (j + s) + i ≡ 127 = omega arith in
    ap (λ (z : ℕ). bit_xor z (times_power y i)) so_far
    ∙ ap (bit_xor (product (d % 2 ^ j * 2 ^ s) y))
    (sym (ap (λ (z : ℕ). product (z * 2 ^ (j + s)) y) one ∙ ap (λ (z : ℕ). product z y) (one-mul (2 ^ (j + s))) ∙ product-pow (j + s) i y turned))
    ∙ sym (product_digits d y j 1 s)
    ∙ ap (λ (k : ℕ). product (d % 2 ^ k * 2 ^ s) y) (sym order)

-- the same where it is 0
pub product_bit_zero : (d y s j sum : ℕ) → ¬ (bit_and (d / 2 ^ j) 1 ≡ 1) → sum ≡ product (d % 2 ^ j * 2 ^ s) y → sum ≡ product (d % 2 ^ (j + 1) * 2 ^ s) y
product_bit_zero d y s j sum test so_far =
    let small = bit_at-lt d j in
    let not_one : d / 2 ^ j % 2 ≡ 1 → ⊥ = λ e. test (shr_and_one d j ∙ e) in
    let none : d / 2 ^ j % 2 ^ 1 ≡ 0 = elim (bit_cases (d / 2 ^ j % 2) small) [ inl e ↦ e | inr e ↦ absurd (not_one e) ] in
    let order : j + 1 ≡ 1 + j = omega arith in
    so_far
    ∙ sym (xor_zero_r (product (d % 2 ^ j * 2 ^ s) y))
    ∙ ap (bit_xor (product (d % 2 ^ j * 2 ^ s) y))
    (sym (ap (λ (z : ℕ). product (z * 2 ^ (j + s)) y) none ∙ ap (λ (z : ℕ). product z y) (zero-mul (2 ^ (j + s))) ∙ product-zero y))
    ∙ sym (product_digits d y j 1 s)
    ∙ ap (λ (k : ℕ). product (d % 2 ^ k * 2 ^ s) y) (sym order)

-- no bits of a digit
pub product_no_bits : (d y s : ℕ) → 0 ≡ product (d % 1 * 2 ^ s) y
product_no_bits d y s =
    let none : d % 1 ≡ 0 = omega arith in
    sym (ap (λ (z : ℕ). product (z * 2 ^ s) y) none ∙ ap (λ (z : ℕ). product z y) (zero-mul (2 ^ s)) ∙ product-zero y)
