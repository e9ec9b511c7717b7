-- One piece changed at its place.
use Rattle.std.proofs.Common.{◌≡◌, ℕ, zero, suc, ◌<◌, ◌≤◌, true, false, List, [], ◌∷◌, length, get_or, set, refl, ap, arith}
use Rattle.std.specs.Prelude.{is_some}
use Rattle.reliable_send.specs.declared.pieces.KeptPiece.{KeptPiece}
use Rattle.reliable_send.specs.internal.Walks.{alter, mark}

pub alter_is : (change : KeptPiece → KeptPiece) (k : ℕ) (ps : List KeptPiece) (d : KeptPiece) → k < length ps → alter change k ps ≡ set ps k (change (get_or ps k d))
alter_is change k [] d below = absurd (omega arith)
alter_is change zero (p ∷ ps) d below = refl
alter_is change (suc k) (p ∷ ps) d below = ap (λ (rest : List KeptPiece). p ∷ rest) (alter_is change k ps d (omega arith))

-- a change at a place that there is not
pub alter_past : (change : KeptPiece → KeptPiece) (k : ℕ) (ps : List KeptPiece) → length ps ≤ k → alter change k ps ≡ ps
alter_past change k [] above = refl
alter_past change zero (p ∷ ps) above = absurd (omega arith)
alter_past change (suc k) (p ∷ ps) above = ap (λ (rest : List KeptPiece). p ∷ rest) (alter_past change k ps (omega arith))

pub length-alter : (change : KeptPiece → KeptPiece) (k : ℕ) (ps : List KeptPiece) → length (alter change k ps) ≡ length ps
length-alter change k [] = refl
length-alter change zero (p ∷ ps) = refl
length-alter change (suc k) (p ∷ ps) = ap suc (length-alter change k ps)

pub mark_sent : (p : KeptPiece) → is_some p.last ≡ true → mark p ≡ record p { acknowledged = true }
mark_sent p e = rw e refl

pub mark_unsent : (p : KeptPiece) → is_some p.last ≡ false → mark p ≡ p
mark_unsent p e = rw e refl
