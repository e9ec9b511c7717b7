-- The key exchange message of key method 2 in the OpenVPN protocol, as a relation between its bytes and its parts.
use Rattle.std.specs.Prelude.{◌≡◌, ℕ, ◌+◌, ◌-◌, ◌<◌, ◌⊎◌, List, [], ◌∷◌, ◌++◌, length, take, drop, replicate, Option, Some, None, unwrap_or}
use Rattle.std.specs.Int.{w16, to_be_bytes}
use Rattle.vpn_base.specs.declared.names.Role.{Role}
use Rattle.vpn_base.specs.declared.names.Role.TheVariants.{Server, Client}
use Rattle.key_method2.specs.declared.message.Source.{Source}
use Rattle.key_method2.specs.declared.message.Km2.{Km2}

-- four zero bytes, and the byte that names key method 2
abbrev pub opening : List ℕ
opening = 0 ∷ 0 ∷ 0 ∷ 0 ∷ 2 ∷ []

-- a pre-master secret of 48 bytes from a client, and none from a server
abbrev pub IsPreMaster : Role → Option (List ℕ) → Type 0
IsPreMaster Client (Some pre) = length pre ≡ 48
IsPreMaster Client None = ⊥
IsPreMaster Server (Some pre) = ⊥
IsPreMaster Server None = Unit {0}

-- what this end sends of its own for the keys: two randoms of 32 bytes, behind the pre-master secret of a client
pub record IsSource (from : Role) (source : Source) : Type 0 where
  pub pre : IsPreMaster from source.pre
  pub random1 : length source.random1 ≡ 32
  pub random2 : length source.random2 ≡ 32

-- the bytes of a key source
abbrev pub source_bytes : Source → List ℕ
source_bytes source = unwrap_or source.pre [] ++ source.random1 ++ source.random2

-- a text behind its length in two bytes, the high one first, that counts the zero byte at its end
abbrev pub ended_text : List ℕ → List ℕ
ended_text text = to_be_bytes w16 (length text + 1) ++ text ++ 0 ∷ []

-- the field of a text: the text so, or length 0 for no text
abbrev pub IsField : List ℕ → List ℕ → Type 0
IsField field text = ((field ≡ 0 ∷ 0 ∷ []) × (text ≡ [])) ⊎ ((length text < 65535) × (field ≡ ended_text text))

-- the fields of texts, one behind the other
abbrev pub AreFields : List ℕ → List (List ℕ) → Type 0
AreFields bytes [] = bytes ≡ []
AreFields bytes (text ∷ texts) = (field : List ℕ) × (others : List ℕ) × IsField field text × AreFields others texts × (bytes ≡ field ++ others)

-- the options, the user name, the password and the peer info
abbrev pub texts_of : Km2 → List (List ℕ)
texts_of message = message.options ∷ message.user ∷ message.pass ∷ message.info ∷ []

-- the message of one end with the fields of its first texts alone; the others are empty
pub record IsMessage (from : Role) (present : ℕ) (bytes : List ℕ) (message : Km2) : Type 0 where
  pub source : IsSource from message.source
  pub fields : List ℕ
  pub are_fields : AreFields fields (take present (texts_of message))
  pub left_out : drop present (texts_of message) ≡ replicate (4 - present) []
  pub whole : bytes ≡ opening ++ source_bytes message.source ++ fields

-- the message with all four texts
abbrev pub HasAllTexts : Role → List ℕ → Km2 → Type 0
HasAllTexts from bytes message = IsMessage from 4 bytes message

-- the message that ends behind its options, its user name or its password
abbrev pub EndsEarly : Role → List ℕ → Km2 → Type 0
EndsEarly from bytes message = (present : ℕ) × (0 < present) × (present < 4) × IsMessage from present bytes message

-- some message begins with these bytes
abbrev pub Begins : Role → List ℕ → Type 0
Begins from bytes = (rest : List ℕ) × (message : Km2) × (HasAllTexts from (bytes ++ rest) message ⊎ EndsEarly from (bytes ++ rest) message)
