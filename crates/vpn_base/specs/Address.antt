-- IPv4 addresses as text.
use Rattle.std.specs.Prelude.{ℕ, ◌+◌, ◌*◌, ◌/◌, ◌%◌, ◌^◌, ◌==◌, List, [], ◌∷◌, Option, Some, None}
use Rattle.std.specs.List.{slice_split, join_with_byte}
use Rattle.std.specs.Fmt.{decimal}
use Rattle.vpn_base.specs.declared.address.Ip4.{Ip4}
use Rattle.vpn_base.specs.Number.{number_of}

-- the address of four numbers, if all of them are there
abbrev pub address_of : Option ℕ → Option ℕ → Option ℕ → Option ℕ → Option Ip4
address_of (Some a) (Some b) (Some c) (Some d) = Some (record { 0 = a * 2 ^ 24 + b * 2 ^ 16 + c * 2 ^ 8 + d })
address_of _ _ _ _ = None

-- the address of four parts, each a number of at most 255
abbrev pub of_parts : List (List ℕ) → Option Ip4
of_parts (a ∷ b ∷ c ∷ d ∷ []) = address_of (number_of 255 a) (number_of 255 b) (number_of 255 c) (number_of 255 d)
of_parts _ = None

-- the address that a text spells: four numbers of at most 255, joined by dots
unfoldable pub ip4_of : List ℕ → Option Ip4
ip4_of text = of_parts (slice_split (λ c. c == 46) text)

-- the text that spells an address: its four bytes in decimal, joined by dots
unfoldable pub ip4_text : Ip4 → List ℕ
ip4_text a =
    join_with_byte 46 (decimal (a.0 / 2 ^ 24 % 256) ∷ decimal (a.0 / 2 ^ 16 % 256) ∷ decimal (a.0 / 2 ^ 8 % 256) ∷ decimal (a.0 % 256) ∷ [])
