-- The first place whose item passes.
use Rattle.std.proofs.Common.{◌≡◌, ℕ, ◌+◌, Bool, true, false, cond, List, [], ◌∷◌, option_map, Option, Some, None, refl, ap, ◌∙◌, arith}
use Rattle.std.specs.List.{position, position_from}
use Rattle.std.proofs.lemmas.Iterator.Adapters.{position_from-zero}
use Rattle.client_table.specs.Changes.{earlier, place_where}

step : (b : Bool) (n : ℕ) (rest : Option ℕ) → cond b (Some n) (option_map (λ k. k + (n + 1)) rest) ≡ option_map (λ k. k + n) (earlier b rest)
step true n rest = ap Some (omega arith)
step false n None = refl
step false n (Some k) = ap Some (omega arith)

from : {X : Type 0} (passes : X → Bool) (n : ℕ) (xs : List X) → position_from passes n xs ≡ option_map (λ k. k + n) (place_where passes xs)
from passes n [] = refl
from passes n (x ∷ xs) = ap (λ (r : Option ℕ). cond (passes x) (Some n) r) (from passes (n + 1) xs) ∙ step (passes x) n (place_where passes xs)

same : (p : Option ℕ) → option_map (λ k. k + 0) p ≡ p
same None = refl
same (Some k) = ap Some (omega arith)

-- an iterator's position is the first place
pub place_is : {X : Type 0} (passes : X → Bool) (xs : List X) → position passes xs ≡ place_where passes xs
place_is passes xs = position_from-zero passes xs ∙ from passes 0 xs ∙ same (place_where passes xs)
