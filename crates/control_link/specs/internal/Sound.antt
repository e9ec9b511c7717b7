-- What holds of every link.
use Rattle.std.specs.Prelude.{◌≡◌, ℕ, ◌<◌, List, []}
use Rattle.opcode_codec.specs.declared.opcodes.Opcode.{Opcode}
use Rattle.control_link.specs.Links.{IsReset}

-- what holds of every link: no acknowledgement waits between two calls
pub record IsSound (kid : ℕ) (first : Opcode) (waiting : List ℕ) : Type 0 where
  pub kid_fits : kid < 8
  pub reset : IsReset first
  pub acknowledged : waiting ≡ []
