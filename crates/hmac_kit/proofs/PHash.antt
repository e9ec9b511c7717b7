-- P_hash, block by block.
use Rattle.std.proofs.Common.{◌≡◌, ℕ, zero, suc, ◌+◌, ◌-◌, ◌*◌, ◌/◌, ◌%◌, ◌≤◌, ◌<◌, min, List, [], ◌++◌, length, take, drop, take_all, refl, ap, sym, ◌∙◌, append_assoc, add-zero, add-suc, add-one, inl, inr, arith}
use Rattle.std.proofs.Math.ListN.{replicate}
use Rattle.std.proofs.Math.Nat.{mul-le-mul_left, mul-le-mul_right}
use Rattle.std.proofs.lemmas.Bool.{cases_lt}
use Rattle.std.proofs.lemmas.Grind.{div_ceil_times}
use Rattle.std.proofs.lemmas.List.{append-nil, length-append, length-drop, take-append-le, length-take-le, drop_all}
use Rattle.std.specs.Int.{div_ceil}
use borrow.Rule.Slice.PartMut.{put_mid}
use Rattle.hmac_kit.specs.Prf.{chained, blocks, p_hash, xor_bytes}
use Rattle.hmac_kit.proofs.Xor.{xor_bytes-take, xor_bytes-append, xor_bytes-zeros}

-- more blocks begin with fewer
pub blocks-more : (mac : List ℕ → List ℕ) (seed : List ℕ) (n k : ℕ) → (rest : List ℕ) × (blocks mac seed (n + k) ≡ blocks mac seed n ++ rest)
unfolding blocks
blocks-more mac seed n zero = ([], rw add-zero (sym (append-nil (blocks mac seed n))))
blocks-more mac seed n (suc k) =
    let fewer = blocks-more mac seed n k in
    let next = mac (chained mac seed (suc (n + k)) ++ seed) in
    (fewer.0 ++ next, rw (add-suc, fewer.1) (append_assoc (blocks mac seed n) fewer.0 next))

-- enough blocks for the bytes of P_hash
pub length-p_hash : (mac : List ℕ → List ℕ) (seed : List ℕ) (len n : ℕ) → n ≤ len → len ≤ length (blocks mac seed n) → length (p_hash mac seed len) ≡ len
unfolding p_hash
length-p_hash mac seed len n few enough =
    let more = blocks-more mac seed n (len - n) in
    let whole : n + (len - n) ≡ len = omega arith in
    let all : blocks mac seed len ≡ blocks mac seed n ++ more.0 = ap (blocks mac seed) (sym whole) ∙ more.1 in
    length-take-le len (blocks mac seed len) (omega (arith, ap length all, length-append (blocks mac seed n) more.0))

-- the bytes xored with enough blocks are the bytes xored with P_hash
pub xor_enough : (mac : List ℕ → List ℕ) (seed xs : List ℕ) (n : ℕ) → n ≤ length xs → length xs ≤ length (blocks mac seed n)
    → xor_bytes xs (blocks mac seed n) ≡ xor_bytes xs (p_hash mac seed (length xs))
unfolding p_hash
xor_enough mac seed xs n few enough =
    let more = blocks-more mac seed n (length xs - n) in
    let whole : n + (length xs - n) ≡ length xs = omega arith in
    let all : blocks mac seed (length xs) ≡ blocks mac seed n ++ more.0 = ap (blocks mac seed) (sym whole) ∙ more.1 in
    let front : take (length xs) (blocks mac seed (length xs)) ≡ take (length xs) (blocks mac seed n) =
    ap (take (length xs)) all ∙ take-append-le (length xs) (blocks mac seed n) more.0 enough in
    sym (ap (xor_bytes xs) front ∙ xor_bytes-take xs (blocks mac seed n) (length xs) (omega arith))

pub blocks-next : (mac : List ℕ → List ℕ) (seed : List ℕ) (i : ℕ) → blocks mac seed (i + 1) ≡ blocks mac seed i ++ mac (chained mac seed (i + 1) ++ seed)
unfolding blocks
blocks-next mac seed i = rw add-one refl

-- the next block xored onto what is behind the blocks so far
pub xor_next : (mac : List ℕ → List ℕ) (seed old out front ys : List ℕ) (i at : ℕ) → out ≡ xor_bytes old (blocks mac seed i) → length (blocks mac seed i) ≡ at
    → front ≡ chained mac seed (i + 1) → ys ≡ xor_bytes (take (length out - at) (drop at out)) (mac (front ++ seed)) → put_mid at (length out - at) out ys ≡ xor_bytes old (blocks mac seed (i + 1))
xor_next mac seed old out front ys i at so_far long next written =
    let all : take (length out - at) (drop at out) ≡ drop at out = take_all (length out - at) (drop at out) (omega (arith, length-drop at out)) in
    let none : drop (length out - at) (drop at out) ≡ [] = drop_all (length out - at) (drop at out) (omega (arith, length-drop at out)) in
    let added = mac (chained mac seed (i + 1) ++ seed) in
    let now : ys ≡ xor_bytes (drop at out) added = written ∙ ap (λ (b : List ℕ). xor_bytes b (mac (front ++ seed))) all ∙ ap (λ (f : List ℕ). xor_bytes (drop at out) (mac (f ++ seed))) next in
    let left : put_mid at (length out - at) out ys ≡ take at out ++ xor_bytes (drop at out) added = rw (none, append-nil, now) refl in
    let right : take at out ++ xor_bytes (drop at out) added ≡ xor_bytes old (blocks mac seed i ++ added) = rw (so_far, ← long) (sym (xor_bytes-append old (blocks mac seed i) added)) in
    left ∙ right ∙ ap (xor_bytes old) (sym (blocks-next mac seed i))

-- one more block is that much longer
pub length-blocks-next : (mac : List ℕ → List ℕ) (seed front : List ℕ) (i n : ℕ) → length (blocks mac seed i) ≡ i * n → front ≡ chained mac seed (i + 1) → length (mac (front ++ seed)) ≡ n
    → length (blocks mac seed (i + 1)) ≡ (i + 1) * n
length-blocks-next mac seed front i n long next wide =
    let block = mac (chained mac seed (i + 1) ++ seed) in
    let same : length block ≡ n = ap (λ (f : List ℕ). length (mac (f ++ seed))) (sym next) ∙ wide in
    ap length (blocks-next mac seed i) ∙ length-append (blocks mac seed i) block ∙ omega arith

-- the next A(i)
pub chained-next : (mac : List ℕ → List ℕ) (seed front last : List ℕ) (i : ℕ) → front ≡ chained mac seed (i + 1) → last ≡ mac (front ++ []) → last ≡ chained mac seed (i + 1 + 1)
unfolding chained
chained-next mac seed front last i next made = made ∙ ap mac (append-nil front ∙ next) ∙ ap (chained mac seed) (sym (add-one (i + 1)))

-- so many blocks are enough, and no more than there are bytes
pub div_ceil-enough : (len n count : ℕ) → 0 < n → count ≡ div_ceil len n → (count ≤ len) × (len ≤ count * n)
div_ceil-enough len n count some is =
    let bounds = div_ceil_times len n some in
    let times : count * n ≡ (len / n + min 1 (len % n)) * n = ap (λ (k : ℕ). k * n) is in (
      elim (cases_lt len count) [
        | inl more ↦ let past : (len + 1) * n ≤ count * n = mul-le-mul_right n (omega arith) in
            let own : len * 1 ≤ len * n = mul-le-mul_left len (omega arith) in absurd (omega arith)
        | inr few ↦ few
      ],
      omega arith,
    )

-- zeros xored with the two streams one after the other are the streams xored with each other
pub two_streams : (a b zeros one two : List ℕ) → zeros ≡ replicate (length zeros) 0 → length zeros ≡ length a → one ≡ xor_bytes zeros a → two ≡ xor_bytes one b → two ≡ xor_bytes a b
two_streams a b zeros one two blank long first second =
    let zeroed : zeros ≡ replicate (length a) 0 = blank ∙ ap (λ (n : ℕ). replicate n 0) long in
    let is_a : one ≡ a = first ∙ ap (λ (z : List ℕ). xor_bytes z a) zeroed ∙ xor_bytes-zeros a in
    second ∙ ap (λ (o : List ℕ). xor_bytes o b) is_a

-- half the bytes, with the middle one
pub half_is : (n half : ℕ) → half ≡ div_ceil n 2 → half ≡ (n + 1) / 2
half_is n half is = omega arith
