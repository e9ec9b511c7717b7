-- GHASH over the blocks of a list of bytes, one block more.
use Rattle.std.proofs.Common.{◌≡◌, ℕ, ◌+◌, ◌-◌, ◌*◌, ◌/◌, ◌%◌, ◌<◌, ◌≤◌, min, inl, inr, List, [], ◌∷◌, ◌++◌, length, take, drop, replicate, true, false, eqb, bit_xor, ap, sym, ◌∙◌, arith, add-one}
use Rattle.std.proofs.lemmas.List.{append-nil, length-drop, length-take-le, take_all, take_rest}
use Rattle.std.proofs.lemmas.Bool.{cases_lt, eqb-false, eqb-true}
use Rattle.std.proofs.lemmas.List.Sums.{fold_push}
use Rattle.std.specs.Int.{div_ceil}
use Rattle.ghash_core.specs.Field.{product}
use Rattle.ghash_core.specs.Ghash.{element, filled_up, first_blocks, ghash, ghash_from, ghash_step, padded_blocks}

-- a block that has 16 bytes is not filled up
filled_up_whole : (block : List ℕ) → length block ≡ 16 → filled_up block ≡ block
filled_up_whole block whole =
    let none : 16 - length block ≡ 0 = omega arith in
    ap (λ (n : ℕ). block ++ replicate n 0) none ∙ append-nil block

-- one block more, whole or not
step_more : (h y i : ℕ) (bytes : List ℕ) → ghash_from h y (first_blocks bytes (i + 1)) ≡ ghash_step h (ghash_from h y (first_blocks bytes i)) (filled_up (take 16 (drop (16 * i) bytes)))
unfolding ghash_from first_blocks
step_more h y i bytes =
    ap (λ (n : ℕ). ghash_from h y (first_blocks bytes n)) (add-one i)
    ∙ fold_push (ghash_step h) y (first_blocks bytes i) (filled_up (take 16 (drop (16 * i) bytes)))

-- one whole block more
pub whole_block_more : (h y i sum : ℕ) (bytes : List ℕ) → 16 * i + 16 ≤ length bytes → sum ≡ ghash_from h y (first_blocks bytes i) → product (bit_xor sum (element (take 16 (drop (16 * i) bytes)))) h ≡ ghash_from h y (first_blocks bytes (i + 1))
whole_block_more h y i sum bytes within so_far =
    let whole : length (take 16 (drop (16 * i) bytes)) ≡ 16 =
    length-take-le 16 (drop (16 * i) bytes) (omega (arith, length-drop (16 * i) bytes)) in
    ap (λ (s : ℕ). ghash_step h s (take 16 (drop (16 * i) bytes))) so_far
    ∙ ap (λ (b : List ℕ). ghash_step h (ghash_from h y (first_blocks bytes i)) b) (sym (filled_up_whole _ whole))
    ∙ sym (step_more h y i bytes)

-- what the whole blocks leave
abbrev pub rest_of : List ℕ → List ℕ
rest_of bytes = take (length bytes - 16 * (length bytes / 16)) (drop (16 * (length bytes / 16)) bytes)

length-rest_of : (bytes : List ℕ) → length (rest_of bytes) ≡ length bytes % 16
length-rest_of bytes =
    let start : ℕ = 16 * (length bytes / 16) in
    length-take-le (length bytes - start) (drop start bytes) (omega (arith, length-drop start bytes)) ∙ omega arith

-- the last block, if the whole blocks leave some bytes
pub last_block_more : (h y i sum : ℕ) (bytes : List ℕ) → i ≡ length bytes / 16 → eqb (length (rest_of bytes)) 0 ≡ false → sum ≡ ghash_from h y (first_blocks bytes i) → product (bit_xor sum (element (filled_up (rest_of bytes)))) h ≡ ghash_from h y (padded_blocks bytes)
unfolding padded_blocks
last_block_more h y i sum bytes whole some so_far =
    let w : ℕ = length bytes / 16 in
    let left = length-rest_of bytes in
    let not_none = eqb-false (length (rest_of bytes)) 0 some in
    let short : take 16 (drop (16 * w) bytes) ≡ drop (16 * w) bytes =
    take_all 16 (drop (16 * w) bytes) (omega (arith, length-drop (16 * w) bytes)) in
    let count : w + 1 ≡ div_ceil (length bytes) 16 = omega arith in
    ap (λ (s : ℕ). ghash_step h s (filled_up (rest_of bytes))) (so_far ∙ ap (λ (n : ℕ). ghash_from h y (first_blocks bytes n)) whole)
    ∙ ap (λ (b : List ℕ). ghash_step h (ghash_from h y (first_blocks bytes w)) (filled_up b)) (take_rest bytes (16 * w) ∙ sym short)
    ∙ sym (step_more h y w bytes)
    ∙ ap (λ (n : ℕ). ghash_from h y (first_blocks bytes n)) count

-- the end, if they leave none
pub no_block_more : (h y i sum : ℕ) (bytes : List ℕ) → i ≡ length bytes / 16 → eqb (length (rest_of bytes)) 0 ≡ true → sum ≡ ghash_from h y (first_blocks bytes i) → sum ≡ ghash_from h y (padded_blocks bytes)
unfolding padded_blocks
no_block_more h y i sum bytes whole none so_far =
    let left = length-rest_of bytes in
    let nothing = eqb-true (length (rest_of bytes)) 0 none in
    let count : i ≡ div_ceil (length bytes) 16 = omega arith in
    so_far ∙ ap (λ (n : ℕ). ghash_from h y (first_blocks bytes n)) count

-- one block more of GHASH
pub ghash_push : (h sum : ℕ) (blocks : List (List ℕ)) (block : List ℕ) → sum ≡ ghash h blocks → product (bit_xor sum (element block)) h ≡ ghash h (blocks ++ block ∷ [])
unfolding ghash ghash_from
ghash_push h sum blocks block so_far =
    ap (λ (s : ℕ). ghash_step h s block) so_far ∙ sym (fold_push (ghash_step h) 0 blocks block)

-- a part that ends with the list is as good as one that is cut after 16 bytes
same_part : (bytes : List ℕ) (i n : ℕ) → n ≡ min (length bytes) (16 * i + 16) - 16 * i → take n (drop (16 * i) bytes) ≡ take 16 (drop (16 * i) bytes)
same_part bytes i n size =
    let left = length-drop (16 * i) bytes in
    elim (cases_lt (length bytes) (16 * i + 16)) [
      | inl short ↦
          take_all n (drop (16 * i) bytes) (omega arith) ∙ sym (take_all 16 (drop (16 * i) bytes) (omega arith))
      | inr long ↦ let whole : n ≡ 16 = omega arith in ap (λ (k : ℕ). take k (drop (16 * i) bytes)) whole
    ]

-- a hasher that is fed one block more of a list of bytes
pub block_fed : (bytes : List ℕ) (i n : ℕ) → i < div_ceil (length bytes) 16 → n ≡ min (length bytes) (16 * i + 16) - 16 * i → first_blocks bytes i ++ filled_up (take n (drop (16 * i) bytes)) ∷ [] ≡ first_blocks bytes (i + 1)
unfolding first_blocks
block_fed bytes i n below size =
    let left = length-drop (16 * i) bytes in
    let same : take n (drop (16 * i) bytes) ≡ take 16 (drop (16 * i) bytes) = same_part bytes i n size in
    ap (λ (part : List ℕ). first_blocks bytes i ++ filled_up part ∷ []) same ∙ ap (first_blocks bytes) (sym (add-one i))
