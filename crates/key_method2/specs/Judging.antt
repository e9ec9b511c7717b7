-- What reading the front of a plain text has to answer.
use Rattle.std.specs.Prelude.{◌≡◌, ℕ, ◌+◌, ◌≤◌, ◌⊎◌, ◌==◌, nat_lt, List, ◌++◌, length, take, if◌then◌else◌}
use Rattle.vpn_base.specs.declared.names.Role.{Role}
use Rattle.key_method2.specs.declared.message.Km2.{Km2}
use Rattle.key_method2.specs.declared.message.Km2Bad.{Km2Bad}
use Rattle.key_method2.specs.declared.message.Km2Bad.TheVariants.{Zeros, Method, TextEnd}
use Rattle.key_method2.specs.Message.{HasAllTexts, EndsEarly, Begins}

-- the first so many bytes are the message with all four texts, or all the bytes are one that ends early
pub record IsFound (from : Role) (bytes : List ℕ) (message : Km2) (used : ℕ) : Type 0 where
  pub within : used ≤ length bytes
  pub is_message : HasAllTexts from (take used bytes) message ⊎ ((used ≡ length bytes) × EndsEarly from bytes message)

-- no message with all four texts stands at the front
abbrev pub NoneInFront : Role → List ℕ → Type 0
NoneInFront from bytes = (front rest : List ℕ) (message : Km2) → bytes ≡ front ++ rest → ¬ HasAllTexts from front message

-- the bytes are less than a message: one begins with them, they are none, and none stands at their front
pub record IsCut (from : Role) (bytes : List ℕ) : Type 0 where
  pub begins : Begins from bytes
  pub none_early : (message : Km2) → ¬ EndsEarly from bytes message
  pub none_in_front : NoneInFront from bytes

-- what is wrong at a place: one of the four zero bytes, the method, or else the last byte of a text
abbrev pub kind_at : ℕ → Km2Bad
kind_at place = if nat_lt place 4 then Zeros else if place == 4 then Method else TextEnd

-- this is the first byte that no message has in its place: some message begins as far as to it, none with it
pub record IsWrongAt (from : Role) (bytes : List ℕ) (place : ℕ) (kind : Km2Bad) : Type 0 where
  pub before : Begins from (take place bytes)
  pub at_place : ¬ Begins from (take (place + 1) bytes)
  pub none_in_front : NoneInFront from bytes
  pub is_kind : kind ≡ kind_at place
