-- GHASH over a list of bytes in two pieces, of which the first has whole blocks.
use Rattle.std.proofs.Common.{◌≡◌, ℕ, zero, suc, refl, ◌+◌, ◌*◌, ◌/◌, ◌%◌, ◌≤◌, List, [], ◌∷◌, ◌++◌, length, take, drop, ap, sym, ◌∙◌, arith, add-suc, add-zero}
use Rattle.std.proofs.lemmas.List.{append-nil, append_assoc, drop-append-le, length-append, length-drop, take-append-le}
use Rattle.std.proofs.lemmas.List.Sums.{fold-append}
use Rattle.std.proofs.Math.Seq.{drop-append-add}
use Rattle.std.specs.Int.{div_ceil}
use Rattle.ghash_core.specs.Ghash.{filled_up, first_blocks, ghash_from, ghash_step, padded_blocks}

-- block i of the first piece
block_before : (a b : List ℕ) (i : ℕ) → 16 * i + 16 ≤ length a → take 16 (drop (16 * i) (a ++ b)) ≡ take 16 (drop (16 * i) a)
block_before a b i within =
    let room : 16 ≤ length (drop (16 * i) a) = omega (arith, length-drop (16 * i) a) in
    ap (take 16) (drop-append-le (16 * i) a b (omega arith)) ∙ take-append-le 16 (drop (16 * i) a) b room

blocks_before : (a b : List ℕ) (n : ℕ) → 16 * n ≤ length a → first_blocks (a ++ b) n ≡ first_blocks a n
unfolding first_blocks
blocks_before a b zero within = refl
blocks_before a b (suc n) within =
    ap (λ (block : List ℕ). first_blocks (a ++ b) n ++ filled_up block ∷ []) (block_before a b n (omega arith))
    ∙ ap (λ (blocks : List (List ℕ)). blocks ++ filled_up (take 16 (drop (16 * n) a)) ∷ []) (blocks_before a b n (omega arith))

-- block n of the second
block_behind : (a b : List ℕ) (k n : ℕ) → length a ≡ 16 * k → drop (16 * (k + n)) (a ++ b) ≡ drop (16 * n) b
block_behind a b k n size =
    let place : 16 * (k + n) ≡ length a + 16 * n = omega arith in
    ap (λ (m : ℕ). drop m (a ++ b)) place ∙ drop-append-add a b (16 * n)

blocks_behind : (a b : List ℕ) (k n : ℕ) → length a ≡ 16 * k → first_blocks (a ++ b) (k + n) ≡ first_blocks a k ++ first_blocks b n
unfolding first_blocks
blocks_behind a b k zero size =
    rw add-zero (blocks_before a b k (omega arith) ∙ sym (append-nil (first_blocks a k)))
blocks_behind a b k (suc n) size =
    rw (add-suc k n)
    (ap (λ (block : List ℕ). first_blocks (a ++ b) (k + n) ++ filled_up (take 16 block) ∷ []) (block_behind a b k n size)
    ∙ ap (λ (blocks : List (List ℕ)). blocks ++ filled_up (take 16 (drop (16 * n) b)) ∷ []) (blocks_behind a b k n size)
    ∙ append_assoc (first_blocks a k) (first_blocks b n) (filled_up (take 16 (drop (16 * n) b)) ∷ []))

blocks_joined : (a b : List ℕ) → length a % 16 ≡ 0 → padded_blocks (a ++ b) ≡ padded_blocks a ++ padded_blocks b
unfolding padded_blocks
blocks_joined a b whole =
    let k : ℕ = length a / 16 in
    let size : length a ≡ 16 * k = omega arith in
    let first : div_ceil (length a) 16 ≡ k = omega arith in
    let all : div_ceil (length (a ++ b)) 16 ≡ k + div_ceil (length b) 16 = omega (arith, length-append a b) in
    ap (first_blocks (a ++ b)) all ∙ blocks_behind a b k (div_ceil (length b) 16) size
    ∙ ap (λ (n : ℕ). first_blocks a n ++ first_blocks b (div_ceil (length b) 16)) (sym first)

-- what goes on behind whole blocks is GHASH over both pieces
pub piece_more : (h y sum : ℕ) (a b : List ℕ) → length a % 16 ≡ 0 → sum ≡ ghash_from h y (padded_blocks a) → ghash_from h sum (padded_blocks b) ≡ ghash_from h y (padded_blocks (a ++ b))
unfolding ghash_from
piece_more h y sum a b whole so_far =
    ap (λ (s : ℕ). ghash_from h s (padded_blocks b)) so_far
    ∙ sym (ap (ghash_from h y) (blocks_joined a b whole) ∙ fold-append (ghash_step h) y (padded_blocks a) (padded_blocks b))
