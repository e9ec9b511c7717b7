-- The numbers that a file gives, and those that it sets.
use Rattle.std.specs.Prelude.{◌≡◌, ℕ, ◌-◌, ◌^◌, List, Option, Some, option_and_then}
use Rattle.vpn_base.specs.Number.{number_of}
use Rattle.vpn_base.specs.WordCount.{one_of}
use Rattle.config_directives.specs.declared.item.Item.{Item}
use Rattle.config_directives.specs.declared.numbers.NumberDirective.{NumberDirective}
use Rattle.config_directives.specs.declared.numbers.NumberDirective.TheVariants as numbers
use Rattle.config_directives.specs.Items.{given}
use Rattle.config_directives.specs.Table.{number_row}
use Rattle.ovpn_config.specs.declared.settings.Settings.{Settings}

-- what the settings have for a directive of one number
abbrev pub number_set : NumberDirective → Settings → ℕ
number_set numbers.Port s = s.port
number_set numbers.MaxClients s = s.max_clients
number_set numbers.RenegSec s = s.timers.reneg
number_set numbers.TranWindow s = s.timers.tran
number_set numbers.HandWindow s = s.timers.hand
number_set numbers.TlsTimeout s = s.timers.timeout

-- the decimal number that exactly one word spells, in whatever range
abbrev pub number_spelled : List (List ℕ) → Option ℕ
number_spelled words = option_and_then (number_of (2 ^ 64 - 1)) (one_of words)

-- each directive of one number that is given sets the number that stands behind its name
abbrev pub SetsNumbers : List Item → Settings → Type 0
SetsNumbers items s =
    (number : NumberDirective) (words : List (List ℕ)) → given (number_row number).name items ≡ Some words
    → number_spelled words ≡ Some (number_set number s)
