-- Addresses of a network.
use Rattle.std.proofs.Common.{◌≡◌, ℕ, suc, ◌+◌, ◌-◌, ◌*◌, ◌/◌, ◌%◌, ◌^◌, ◌<◌, ◌≤◌, sym, ap, subst, ◌∙◌, arith}
use Rattle.std.proofs.lemmas.Nat.{pow-add, pow_pos}
use Rattle.std.proofs.Math.Nat.{div-add-mod, div-lt_iff_lt-mul, mul-le-mul_left, mul-suc, mul_comm}

whole : (len : ℕ) → len ≤ 32 → 2 ^ len * 2 ^ (32 - len) ≡ 4294967296
whole len short =
    let all : len + (32 - len) ≡ 32 = omega (arith, short) in
    sym (pow-add 2 len (32 - len)) ∙ ap (λ (k : ℕ). 2 ^ k) all

step : (m q p x : ℕ) → m * q + 0 ≡ x → m * suc q ≤ m * p → p * m ≡ 4294967296 → x + m ≤ 4294967296
step m q p x is le all =
    let next : m * suc q ≡ m * q + m = mul-suc m q in
    let swap : m * p ≡ p * m = mul_comm m p in
    omega (arith, is, le, all, next, swap)

-- a network lies below 2^32 as a whole
pub fits : (x len : ℕ) → len ≤ 32 → x % 2 ^ (32 - len) ≡ 0 → x < 4294967296 → x + 2 ^ (32 - len) ≤ 4294967296
fits x len short zeros lt =
    let m : ℕ = 2 ^ (32 - len) in
    let q : ℕ = x / m in
    let is : m * q + 0 ≡ x = ap (λ (r : ℕ). m * q + r) (sym zeros) ∙ div-add-mod x m in
    let less : q < 2 ^ len = (div-lt_iff_lt-mul (pow_pos (32 - len))).1 (subst (λ (k : ℕ). x < k) (sym (whole len short)) lt) in
    let next : suc q ≤ 2 ^ len = omega (arith, less) in
    step m q (2 ^ len) x is (mul-le-mul_left m next) (whole len short)

-- one of at most 30 bits has four addresses
pub four : (len : ℕ) → len ≤ 30 → 4 ≤ 2 ^ (32 - len)
four len short =
    let split : 32 - len ≡ 30 - len + 2 = omega (arith, short) in
    let parts : 2 ^ (32 - len) ≡ 2 ^ (30 - len) * 4 = ap (λ (k : ℕ). 2 ^ k) split ∙ pow-add 2 (30 - len) 2 in
    omega (arith, parts, pow_pos (30 - len))
