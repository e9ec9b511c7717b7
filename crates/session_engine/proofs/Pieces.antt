-- How many pieces a text is cut into.
use Rattle.std.proofs.Common.{◌≡◌, ℕ, zero, suc, ◌-◌, ◌<◌, ◌≤◌, List, [], ◌∷◌, length, drop, refl, sym, ap, ◌∙◌, arith, length-drop}
use Rattle.std.proofs.lemmas.List.{nil_from_length}
use Rattle.std.specs.Int.{div_ceil}
use Rattle.reliable_send.specs.Sending.{cut, cut_into, piece_count}

one_more : (n : ℕ) → 0 < n → div_ceil n 1100 ≡ suc (div_ceil (n - 1100) 1100)
one_more n some = omega arith

pieces_into : (n : ℕ) (bytes : List ℕ) → length bytes ≤ n → length (cut_into n bytes) ≡ piece_count (length bytes)
unfolding cut_into
pieces_into zero bytes few = rw (nil_from_length bytes (omega arith)) refl
pieces_into (suc n) [] few = refl
pieces_into (suc n) (x ∷ bytes) few =
    let shorter = length-drop 1100 (x ∷ bytes) in
    let rest = pieces_into n (drop 1100 (x ∷ bytes)) (omega (arith, shorter)) in
    ap suc (rest ∙ ap (λ k. div_ceil k 1100) shorter) ∙ sym (one_more (length (x ∷ bytes)) (omega arith))

pub pieces_of : (bytes : List ℕ) → length (cut bytes) ≡ piece_count (length bytes)
pieces_of bytes = pieces_into (length bytes) bytes (omega arith)
