-- What a hasher has been fed.
use Rattle.std.specs.Prelude.{◌≡◌, ℕ, List}
use Rattle.ghash_core.specs.Ghash.{ghash}
use Rattle.ghash_core.specs.declared.hasher.Ghash.{Ghash}

-- the hasher has this hash key and was fed these blocks, in this order
unfoldable pub Holds : Ghash → ℕ → List (List ℕ) → Type 0
Holds hasher h blocks = (hasher.key ≡ h) × (hasher.sum ≡ ghash h blocks)
