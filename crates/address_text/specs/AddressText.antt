-- An address with a port as text: IP:PORT.
use Rattle.std.specs.Prelude.{ℕ, ◌==◌, List, [], ◌∷◌, ◌++◌, Option, None, Some}
use Rattle.std.specs.Fmt.{decimal}
use Rattle.std.specs.List.{slice_split}
use Rattle.vpn_base.specs.Address.{ip4_of, ip4_text}
use Rattle.vpn_base.specs.Number.{number_of}
use Rattle.vpn_base.specs.declared.address.Addr.{Addr}
use Rattle.vpn_base.specs.declared.address.Ip4.{Ip4}

-- an address with a port, where both are there
abbrev pub addr_with : Option Ip4 → Option ℕ → Option Addr
addr_with (Some ip) (Some port) = Some (record { ip = ip; port = port })
addr_with _ _ = None

-- the address of two parts
abbrev pub addr_of_parts : List (List ℕ) → Option Addr
addr_of_parts (ip ∷ port ∷ []) = addr_with (ip4_of ip) (number_of 65535 port)
addr_of_parts _ = None

-- the address with its port that a word spells, as 192.0.2.7:40000
unfoldable pub addr_of : List ℕ → Option Addr
addr_of word = addr_of_parts (slice_split (λ c. c == 58) word)

-- the text of an address with its port
unfoldable pub addr_text : Addr → List ℕ
addr_text a = ip4_text a.ip ++ 58 ∷ decimal a.port
