-- The lines of a configuration file or a client's file, before anything is made of their words.
use Rattle.std.specs.Prelude.{ℕ, ◌||◌, nat_lt, Bool, List, [], length, Result, Ok, Err, if◌then◌else◌}
use Rattle.vpn_text.specs.declared.words.LineFault.{LineFault}
use Rattle.vpn_text.specs.declared.words.LineKind.{LineKind}
use Rattle.vpn_text.specs.declared.words.LineKind.TheVariants as lines
use Rattle.vpn_text.specs.declared.config.ConfigFault.{ConfigFault}
use Rattle.vpn_text.specs.declared.config.ConfigKind.{ConfigKind}
use Rattle.vpn_text.specs.declared.config.ConfigKind.TheVariants as kinds
use Rattle.vpn_text.specs.Words.{line_words}

-- the kind of a line's fault, as a kind of a file's
abbrev pub kind_of : LineKind → ConfigKind
kind_of lines.Quote = kinds.Quote
kind_of lines.Escape = kinds.Escape
kind_of lines.Control = kinds.Control

-- the words of the line of this number; a fault of the words names none of them
abbrev pub words_in : ℕ → Result (List (List ℕ)) LineFault → Result (List (List ℕ)) ConfigFault
words_in number (Ok words) = Ok words
words_in number (Err fault) = Err (record { line = number; kind = kind_of fault.kind; word = [] })

-- whether a line without its end is too long
abbrev pub is_long : List ℕ → Bool
is_long line = nat_lt 1024 (length line)

-- whether a file that has so many bytes up to the end of a line is too long with it
abbrev pub is_over : ℕ → Bool
is_over reached = nat_lt 65536 reached

-- the words of the line of this number, which is too long with more than 1,024 bytes, or where the file
-- passes its 65,536 bytes in it
unfoldable pub config_words : ℕ → List ℕ → Bool → Result (List (List ℕ)) ConfigFault
config_words number line passes =
    if is_long line || passes then Err (record { line = number; kind = kinds.Long; word = [] })
    else words_in number (line_words line)
