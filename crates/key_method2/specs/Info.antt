-- The peer info of a key exchange message: lines NAME=value, each ended by a line feed.
use Rattle.std.specs.Prelude.{ℕ, ◌-◌, ◌^◌, ◌==◌, nat_eq, not, bit_and, Bool, false, List, [], ◌∷◌, length, drop, codes, Option, Some, None, if◌then◌else◌}
use Rattle.std.specs.Option.{option_or, option_map_or}
use Rattle.std.specs.List.{slice_split, starts_with, list_any}
use Rattle.std.specs.Str.{bytes_eq}
use Rattle.vpn_base.specs.declared.names.Cipher.{Cipher}
use Rattle.vpn_base.specs.CipherName.{cipher_name}
use Rattle.vpn_base.specs.Number.{number_of}

-- what stands behind an equals sign
abbrev pub behind_equals : List ℕ → Option (List ℕ)
behind_equals [] = None
behind_equals (byte ∷ value) = if byte == 61 then Some value else None

-- what stands behind NAME= in a line
abbrev pub value_in : List ℕ → List ℕ → Option (List ℕ)
value_in name line = if starts_with nat_eq line name then behind_equals (drop (length name) line) else None

-- the value in the first of these lines that has the name
abbrev pub first_value : List ℕ → List (List ℕ) → Option (List ℕ)
first_value name [] = None
first_value name (line ∷ lines) = option_or (value_in name line) (first_value name lines)

-- the value of a name in a peer info; what stands behind the last line feed is a line too
unfoldable pub value_of : List ℕ → List ℕ → Option (List ℕ)
value_of info name = first_value name (slice_split (λ byte. byte == 10) info)

-- whether this is one of the names, joined by colons
abbrev pub is_named : List ℕ → List ℕ → Bool
is_named name names = list_any (λ piece. bytes_eq piece name) (slice_split (λ byte. byte == 58) names)

-- whether the peer info offers a cipher: IV_CIPHERS names it
unfoldable pub offers : List ℕ → Cipher → Bool
offers info cipher = option_map_or (is_named (cipher_name cipher)) (value_of info (codes "IV_CIPHERS")) false

-- whether the bit of value 4 is set in a number, if there is one
abbrev pub has_bit_2 : Option ℕ → Bool
has_bit_2 None = false
has_bit_2 (Some number) = not (bit_and number 4 == 0)

-- the same of a text, if it spells a number below 2^64 in decimal
abbrev pub spells_bit_2 : Option (List ℕ) → Bool
spells_bit_2 None = false
spells_bit_2 (Some text) = has_bit_2 (number_of (2 ^ 64 - 1) text)

-- whether the peer info asks to be established at once: that bit of IV_PROTO (OpenVPN's ssl.h, IV_PROTO_REQUEST_PUSH)
unfoldable pub asks_push : List ℕ → Bool
asks_push info = spells_bit_2 (value_of info (codes "IV_PROTO"))
