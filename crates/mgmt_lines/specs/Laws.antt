-- Texts that may stand in a line.
use Rattle.std.specs.Prelude.{ℕ, not, Bool, List}
use Rattle.std.specs.List.{list_all}
use Rattle.vpn_text.specs.Words.{is_control}

-- no control byte, so no line feed and no carriage return
abbrev pub is_clean : List ℕ → Bool
is_clean text = list_all (λ c. not (is_control c)) text
