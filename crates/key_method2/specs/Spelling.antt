-- The bytes in which a key exchange message is written: of the spellings of an empty text, length 0.
use Rattle.std.specs.Prelude.{ℕ, List, [], ◌∷◌, ◌++◌, Option, Some, None}
use Rattle.vpn_base.specs.declared.names.Role.{Role}
use Rattle.vpn_base.specs.declared.names.Role.TheVariants.{Server, Client}
use Rattle.key_method2.specs.declared.message.Source.{Source}
use Rattle.key_method2.specs.declared.message.Km2.{Km2}
use Rattle.key_method2.specs.Message.{opening, source_bytes, ended_text}

-- the end that sends such a pre-master secret
abbrev pub role_by : Option (List ℕ) → Role
role_by None = Server
role_by (Some pre) = Client

-- which end has this source: a client's has a pre-master secret
abbrev pub role_of : Source → Role
role_of source = role_by source.pre

-- a text as it is written
abbrev pub field_of : List ℕ → List ℕ
field_of [] = 0 ∷ 0 ∷ []
field_of (byte ∷ bytes) = ended_text (byte ∷ bytes)

-- a message as it is written
unfoldable pub message_bytes : Km2 → List ℕ
message_bytes message = opening ++ source_bytes message.source ++ field_of message.options ++ field_of message.user ++ field_of message.pass ++ field_of message.info
