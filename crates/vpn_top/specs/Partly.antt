-- A text that was written in part.
use Rattle.std.specs.Prelude.{◌≡◌, ℕ, List, take, Option}
use Rattle.vpn_base.specs.Sink.{appended}

-- what a sink holds after is what it held before and a front of the text
pub record AppendedPart (before after : Option (List ℕ)) (text : List ℕ) : Type 0 where
  pub length : ℕ
  pub is : after ≡ appended before (take length text)
