-- What authenticated encryption makes of a plain text.
use Rattle.std.specs.Prelude.{ℕ, List}

-- the cipher text and the tag that authenticates it and the additional data
pub record Sealed : Type 0 where
  pub text : List ℕ
  pub tag : List ℕ
