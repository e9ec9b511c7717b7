-- The words of a line, and what they spell.
use Rattle.std.specs.Prelude.{ℕ, ◌==◌, List, [], length, codes, Option, Some, None, if◌then◌else◌}
use Rattle.std.specs.List.{slice_split}
use Rattle.std.specs.Str.{bytes_eq}
use Rattle.std.specs.Result.{result_ok}
use Rattle.vpn_base.specs.Address.{ip4_of}
use Rattle.vpn_base.specs.Network.{Network, network_from}
use Rattle.vpn_base.specs.Number.{number_of}
use Rattle.vpn_base.specs.WordCount.{two_of}
use Rattle.hex.specs.Hex.{decode_of}

-- words are divided by one space
abbrev pub words_of : List ℕ → List (List ℕ)
words_of text = slice_split (λ c. c == 32) text

-- the network of the two words that spell it
abbrev pub network_of_parts : Option (List ℕ × List ℕ) → Option Network
network_of_parts None = None
network_of_parts (Some parts) = network_from (ip4_of parts.0) (number_of 32 parts.1)

-- the network that a word spells, as 10.8.0.0/24
unfoldable pub network_of : List ℕ → Option Network
network_of word = network_of_parts (two_of (slice_split (λ c. c == 47) word))

-- the bytes that a word spells: `-` for none, or an even number of hexadecimal digits of either case
unfoldable pub bytes_of : List ℕ → Option (List ℕ)
bytes_of word =
    if length word == 0 then None
    else if bytes_eq word (codes "-") then Some []
    else result_ok (decode_of word)
