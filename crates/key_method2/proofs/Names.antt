-- Looking for what is not there.
use Rattle.std.proofs.Common.{◌≡◌, Bool, false, List, [], ◌∷◌, None, refl}
use Rattle.std.specs.Prelude.{find}

pub never_found : {X : Type 0} (p : X → Bool) → ((x : X) → p x ≡ false) → (xs : List X) → find p xs ≡ None
never_found p never [] = refl
never_found p never (x ∷ xs) = rw (never x) (never_found p never xs)
