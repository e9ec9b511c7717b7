-- Numbers as bytes, the highest first: the way back, and a number in two parts.
use Rattle.std.proofs.Common.{◌≡◌, ℕ, zero, suc, ◌+◌, ◌*◌, ◌/◌, ◌%◌, ◌^◌, ◌<◌, List, [], ◌∷◌, ◌++◌, length, get_or, ap, sym, ◌∙◌, refl, arith, add_assoc, length-append}
use Rattle.std.proofs.Math.Nat.{add-mul, div-div-eq-div-mul, div-one, mul_assoc, mul_comm, one-le-pow, pow-suc}
use Rattle.std.proofs.lemmas.Nat.{div-add-mod', div-mul-add, mod_below, mul-add-lt, pow-add}
use Rattle.std.specs.Int.{w128, byte_at, bytes_high_first, from_be_bytes}

-- the number that a list of bytes is
unfoldable pub value : List ℕ → ℕ
value [] = 0
value (b ∷ bytes) = b * 256 ^ length bytes + value bytes

byte_is : (k n : ℕ) → byte_at k n ≡ n / 256 ^ k % 256
byte_is zero n = ap (λ (x : ℕ). x % 256) (sym (div-one n))
byte_is (suc k) n = refl

power_above : (k : ℕ) → 0 < 256 ^ k
power_above k = omega (arith, one-le-pow k 256 (omega arith))

-- a part above the divisor's multiples goes through a division
div_shifted : (q r p : ℕ) → 0 < p → (q * p + r) / p ≡ q + r / p
div_shifted q r p above =
    let parts : q * p + r ≡ (q + r / p) * p + r % p =
    ap (λ (x : ℕ). q * p + x) (sym (div-add-mod' r p)) ∙ sym (add_assoc (q * p) (r / p * p) (r % p)) ∙ ap (λ (x : ℕ). x + r % p) (sym (add-mul q (r / p) p)) in
    ap (λ (x : ℕ). x / p) parts ∙ div-mul-add (q + r / p) p (r % p) (mod_below r p above)

-- the low bytes do not see what stands above them
high_ignored : (k m r : ℕ) → bytes_high_first k (m * 256 ^ k + r) ≡ bytes_high_first k r
high_ignored zero m r = refl
high_ignored (suc k) m r =
    let p : ℕ = 256 ^ k in
    let turned : m * 256 ^ suc k + r ≡ m * 256 * p + r =
    ap (λ (x : ℕ). m * x + r) (pow-suc 256 k ∙ mul_comm p 256) ∙ ap (λ (x : ℕ). x + r) (sym (mul_assoc m 256 p)) in
    let same : byte_at k (m * 256 * p + r) ≡ byte_at k r =
    byte_is k (m * 256 * p + r) ∙ ap (λ (x : ℕ). x % 256) (div_shifted (m * 256) r p (power_above k)) ∙ omega arith ∙ sym (byte_is k r) in
    ap (bytes_high_first (suc k)) turned
    ∙ ap (λ (b : ℕ). b ∷ bytes_high_first k (m * 256 * p + r)) same
    ∙ ap (λ (rest : List ℕ). byte_at k r ∷ rest) (high_ignored k (m * 256) r)

-- a number in two parts, the lower of b bytes
pub bytes_of_parts : (a b m r : ℕ) → r < 256 ^ b → bytes_high_first (a + b) (m * 256 ^ b + r) ≡ bytes_high_first a m ++ bytes_high_first b r
bytes_of_parts zero b m r low =
    let none : 0 + b ≡ b = omega arith in
    ap (λ (k : ℕ). bytes_high_first k (m * 256 ^ b + r)) none ∙ high_ignored b m r
bytes_of_parts (suc a) b m r low =
    let n : ℕ = m * 256 ^ b + r in
    let next : suc a + b ≡ suc (a + b) = omega arith in
    let order : 256 ^ (a + b) ≡ 256 ^ b * 256 ^ a = pow-add 256 a b ∙ mul_comm (256 ^ a) (256 ^ b) in
    let above : n / 256 ^ (a + b) ≡ m / 256 ^ a =
    ap (λ (x : ℕ). n / x) order ∙ sym (div-div-eq-div-mul n (256 ^ b) (256 ^ a)) ∙ ap (λ (x : ℕ). x / 256 ^ a) (div-mul-add m (256 ^ b) r low) in
    let first : byte_at (a + b) n ≡ byte_at a m = byte_is (a + b) n ∙ ap (λ (x : ℕ). x % 256) above ∙ sym (byte_is a m) in
    ap (λ (k : ℕ). bytes_high_first k n) next
    ∙ ap (λ (x : ℕ). x ∷ bytes_high_first (a + b) n) first
    ∙ ap (λ (rest : List ℕ). byte_at a m ∷ rest) (bytes_of_parts a b m r low)

-- a list of bytes is a number that has as many
pub value-lt : (bytes : List ℕ) → ((i : ℕ) → get_or bytes i 0 < 256) → value bytes < 256 ^ length bytes
unfolding value
value-lt [] small = omega arith
value-lt (b ∷ bytes) small =
    let p : ℕ = 256 ^ length bytes in
    let rest = value-lt bytes (λ i. small (suc i)) in
    let below = mul-add-lt b p (value bytes) 256 (small 0) rest in
    omega (arith, below, pow-suc 256 (length bytes))

-- and its bytes are the list
pub bytes_of_value : (bytes : List ℕ) → ((i : ℕ) → get_or bytes i 0 < 256) → bytes_high_first (length bytes) (value bytes) ≡ bytes
unfolding value
bytes_of_value [] small = refl
bytes_of_value (b ∷ bytes) small =
    let k : ℕ = length bytes in
    let rest = value-lt bytes (λ i. small (suc i)) in
    let b_small : b < 256 = small 0 in
    let first : byte_at k (b * 256 ^ k + value bytes) ≡ b =
    byte_is k (b * 256 ^ k + value bytes) ∙ ap (λ (x : ℕ). x % 256) (div-mul-add b (256 ^ k) (value bytes) rest) ∙ omega arith in
    ap (λ (x : ℕ). x ∷ bytes_high_first k (b * 256 ^ k + value bytes)) first
    ∙ ap (λ (xs : List ℕ). b ∷ xs) (high_ignored k b (value bytes) ∙ bytes_of_value bytes (λ i. small (suc i)))

pub value-append : (xs ys : List ℕ) → value (xs ++ ys) ≡ value xs * 256 ^ length ys + value ys
unfolding value
value-append [] ys = omega arith
value-append (x ∷ xs) ys =
    let p : ℕ = 256 ^ length ys in
    let q : ℕ = 256 ^ length xs in
    let size : 256 ^ length (xs ++ ys) ≡ q * p =
    ap (λ (n : ℕ). 256 ^ n) (length-append xs ys) ∙ pow-add 256 (length xs) (length ys) in
    let first : x * 256 ^ length (xs ++ ys) ≡ x * q * p = ap (λ (n : ℕ). x * n) size ∙ sym (mul_assoc x q p) in
    let both : (x * q + value xs) * p ≡ x * q * p + value xs * p = add-mul (x * q) (value xs) p in
    omega (arith, first, both, value-append xs ys)

-- a block of 16 bytes as std reads it
pub from_be_bytes-value : (bytes : List ℕ) → length bytes ≡ 16 → from_be_bytes w128 bytes ≡ value bytes
unfolding value
from_be_bytes-value [] l = absurd (omega arith)
from_be_bytes-value (a ∷ []) l = absurd (omega arith)
from_be_bytes-value (a ∷ b ∷ []) l = absurd (omega arith)
from_be_bytes-value (a ∷ b ∷ c ∷ []) l = absurd (omega arith)
from_be_bytes-value (a ∷ b ∷ c ∷ d ∷ []) l = absurd (omega arith)
from_be_bytes-value (a ∷ b ∷ c ∷ d ∷ e ∷ []) l = absurd (omega arith)
from_be_bytes-value (a ∷ b ∷ c ∷ d ∷ e ∷ f ∷ []) l = absurd (omega arith)
from_be_bytes-value (a ∷ b ∷ c ∷ d ∷ e ∷ f ∷ g ∷ []) l = absurd (omega arith)
from_be_bytes-value (a ∷ b ∷ c ∷ d ∷ e ∷ f ∷ g ∷ h ∷ []) l = absurd (omega arith)
from_be_bytes-value (a ∷ b ∷ c ∷ d ∷ e ∷ f ∷ g ∷ h ∷ i ∷ []) l = absurd (omega arith)
from_be_bytes-value (a ∷ b ∷ c ∷ d ∷ e ∷ f ∷ g ∷ h ∷ i ∷ j ∷ []) l = absurd (omega arith)
from_be_bytes-value (a ∷ b ∷ c ∷ d ∷ e ∷ f ∷ g ∷ h ∷ i ∷ j ∷ k ∷ []) l = absurd (omega arith)
from_be_bytes-value (a ∷ b ∷ c ∷ d ∷ e ∷ f ∷ g ∷ h ∷ i ∷ j ∷ k ∷ m ∷ []) l = absurd (omega arith)
from_be_bytes-value (a ∷ b ∷ c ∷ d ∷ e ∷ f ∷ g ∷ h ∷ i ∷ j ∷ k ∷ m ∷ n ∷ []) l = absurd (omega arith)
from_be_bytes-value (a ∷ b ∷ c ∷ d ∷ e ∷ f ∷ g ∷ h ∷ i ∷ j ∷ k ∷ m ∷ n ∷ o ∷ []) l = absurd (omega arith)
from_be_bytes-value (a ∷ b ∷ c ∷ d ∷ e ∷ f ∷ g ∷ h ∷ i ∷ j ∷ k ∷ m ∷ n ∷ o ∷ p ∷ []) l = absurd (omega arith)
from_be_bytes-value (a ∷ b ∷ c ∷ d ∷ e ∷ f ∷ g ∷ h ∷ i ∷ j ∷ k ∷ m ∷ n ∷ o ∷ p ∷ q ∷ []) l = omega arith
from_be_bytes-value (a ∷ b ∷ c ∷ d ∷ e ∷ f ∷ g ∷ h ∷ i ∷ j ∷ k ∷ m ∷ n ∷ o ∷ p ∷ q ∷ r ∷ rest) l = absurd (omega arith)

-- two blocks of bytes that are one number are one
pub same_from_number : (xs ys : List ℕ) → length xs ≡ 16 → length ys ≡ 16 → ((i : ℕ) → get_or xs i 0 < 256) → ((i : ℕ) → get_or ys i 0 < 256) → from_be_bytes w128 xs ≡ from_be_bytes w128 ys → xs ≡ ys
same_from_number xs ys xs_block ys_block xs_small ys_small same =
    let values = sym (from_be_bytes-value xs xs_block) ∙ same ∙ from_be_bytes-value ys ys_block in
    sym (bytes_of_value xs xs_small)
    ∙ ap (λ (n : ℕ). bytes_high_first n (value xs)) (xs_block ∙ sym ys_block)
    ∙ ap (bytes_high_first (length ys)) values
    ∙ bytes_of_value ys ys_small
