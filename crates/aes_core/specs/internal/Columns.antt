-- A column as a sum of what each of its bytes adds to it.
use Rattle.std.specs.Prelude.{ℕ, zero, suc, List, [], ◌∷◌}
use Rattle.aes_core.specs.Field.{product}

-- what a byte of row r, s after SubBytes, adds to its column by MixColumns (5.1.3)
abbrev pub mixed_part : ℕ → ℕ → List ℕ
mixed_part zero s = product 2 s ∷ s ∷ s ∷ product 3 s ∷ []
mixed_part (suc zero) s = product 3 s ∷ product 2 s ∷ s ∷ s ∷ []
mixed_part (suc (suc zero)) s = s ∷ product 3 s ∷ product 2 s ∷ s ∷ []
mixed_part (suc (suc (suc r))) s = s ∷ s ∷ product 3 s ∷ product 2 s ∷ []
