-- What holds of every sending side.
use Rattle.std.specs.Prelude.{ℕ, ◌+◌, ◌^◌, ◌≤◌, List, [], ◌∷◌, length, All, if◌then◌else◌}
use Rattle.reliable_send.specs.declared.pieces.KeptPiece.{KeptPiece}

-- how many bytes of these are not acknowledged
abbrev pub waiting : List KeptPiece → ℕ
waiting [] = 0
waiting (p ∷ pieces) = (if p.acknowledged then 0 else length p.bytes) + waiting pieces

-- a piece has at most 1,100 bytes
abbrev pub IsSmall : KeptPiece → Type 0
IsSmall p = length p.bytes ≤ 1100

-- the timeout is at most 60 seconds, ids fit 32 bits, few bytes wait, and each piece is small
pub record IsSound (timeout first : ℕ) (pieces : List KeptPiece) : Type 0 where
  pub timeout_fits : timeout ≤ 60
  pub ids_fit : first + length pieces ≤ 2 ^ 32
  pub bytes_fit : waiting pieces ≤ 65536
  pub small : All IsSmall pieces
