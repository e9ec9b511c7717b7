-- What each packet of a channel begins with.
use Rattle.std.specs.Prelude.{ℕ}

-- the key id and the peer id
pub record Ids : Type 0 where
  pub kid : ℕ
  pub peer_id : ℕ
