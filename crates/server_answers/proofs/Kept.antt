-- Names as they are kept, byte by byte.
use Rattle.std.proofs.Common.{◌≡◌, ◌<◌, ◌+◌, ℕ, zero, suc, List, [], ◌∷◌, ◌++◌, map, take, length, refl, ap, arith, if◌then◌else◌, slice_index_or}
use Rattle.vpn_base.specs.FileName.{is_name_byte}
use Rattle.peer_table.specs.EngineAnswers.{kept_name}

mapped_next : (f : ℕ → ℕ) (name : List ℕ) (i d : ℕ) → i < length name → map f (take i name) ++ f (slice_index_or name i d) ∷ [] ≡ map f (take (suc i) name)
mapped_next f [] i d within = absurd (omega (arith, within))
mapped_next f (n ∷ ns) zero d within = refl
mapped_next f (n ∷ ns) (suc i) d within = ap (λ l. f n ∷ l) (mapped_next f ns i d (omega (arith, within)))

-- one more byte is kept
pub kept_next : (so_far name : List ℕ) (i d kept : ℕ) → i < length name → so_far ≡ kept_name (take i name)
    → kept ≡ (if is_name_byte (slice_index_or name i d) then slice_index_or name i d else 95) → so_far ++ kept ∷ [] ≡ kept_name (take (i + 1) name)
kept_next so_far name i d kept within e is =
    let one_more : i + 1 ≡ suc i = omega arith in
    rw is (rw e (rw one_more (mapped_next (λ b. if is_name_byte b then b else 95) name i d within)))
