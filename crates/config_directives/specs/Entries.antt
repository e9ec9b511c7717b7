-- What stands on the lines of a configuration file: directives, blocks, and faults of single lines.
use Rattle.std.specs.Prelude.{ℕ, ◌+◌, ◌-◌, ◌==◌, ◌&&◌, ◌||◌, nat_lt, not, Bool, List, [], ◌∷◌, ◌++◌, length, slice_index, slice_range, Option, Some, None, option_map, Result, Ok, Err, bytes_eq, if◌then◌else◌}
use Rattle.std.specs.List.{list_any}
use Rattle.vpn_base.specs.Lines.{Line, content, size}
use Rattle.vpn_text.specs.declared.config.ConfigFault.{ConfigFault}
use Rattle.vpn_text.specs.declared.config.ConfigKind.{ConfigKind}
use Rattle.vpn_text.specs.declared.config.ConfigKind.TheVariants.{Long, Control}
use Rattle.vpn_text.specs.ConfigLine.{config_words, is_long, is_over}
use Rattle.vpn_text.specs.Words.{is_control}
use Rattle.config_directives.specs.declared.item.Item.{Item}
use Rattle.config_directives.specs.declared.item.Item.TheVariants.{Words, Block}
use Rattle.config_directives.specs.declared.item.Directive.{Directive}
use Rattle.config_directives.specs.Blocks.{block_end}

-- a directive, or a fault of a line alone
pub data Entry : Type 0 where
  Given : Directive → Entry
  Faulty : ConfigFault → Entry

-- a line of the file without its end, its number from 1, and how many bytes the file has up to its end
pub record FileLine : Type 0 where
  pub number : ℕ
  pub bytes : List ℕ
  pub reached : ℕ

-- the line of these
abbrev pub line_with : ℕ → List ℕ → ℕ → FileLine
line_with number bytes reached = record { number = number; bytes = bytes; reached = reached }

-- a line behind so many lines, which have so many bytes with their ends
abbrev pub line_behind : ℕ → ℕ → Line → FileLine
line_behind number before line = line_with (number + 1) (content line) (before + size line)

-- NAME of a word <NAME>; it is not empty and does not begin with a slash
unfoldable pub block_name : List ℕ → Option (List ℕ)
block_name word =
    if nat_lt 2 (length word) && (slice_index word 0 == 60) && not (slice_index word 1 == 47) && (slice_index word (length word - 1) == 62)
    then Some (slice_range word 1 (length word - 1)) else None

-- the name of the block that a line of these words begins, if it begins one
abbrev pub begun_by : List (List ℕ) → Option (List ℕ)
begun_by (word ∷ []) = block_name word
begun_by _ = None

-- the words of a line outside a block, or what is wrong with the line itself
abbrev pub words_on : FileLine → Result (List (List ℕ)) ConfigFault
words_on line = config_words line.number line.bytes (is_over line.reached)

-- the lines in front of the first that is this one, each ended by a line feed, behind so many bytes of the
-- file; None where none is. Where the file grows too long on the way the fault is that of the line where it
-- does, whatever ends the block behind it, and what is given here is not looked at
unfoldable pub until_end : List ℕ → ℕ → List Line → Option (List ℕ)
until_end last before [] = None
until_end last before (line ∷ lines) =
    if is_over (before + size line) || bytes_eq (content line) last then Some []
    else option_map (λ more. content line ++ 10 ∷ more) (until_end last (before + size line) lines)

-- the directive of a line of these words, up to whose end the file has so many bytes, and which these
-- lines follow
abbrev pub item_begun : Option (List ℕ) → List (List ℕ) → ℕ → List Line → Item
item_begun None words reached lines = Words words
item_begun (Some name) words reached lines = Block name (until_end (block_end name) reached lines)

-- the same, by the words alone
abbrev pub item_on : List (List ℕ) → ℕ → List Line → Item
item_on words reached lines = item_begun (begun_by words) words reached lines

-- what a line outside a block holds: nothing, where it has no words
abbrev pub outside_entries : ℕ → Result (List (List ℕ)) ConfigFault → ℕ → List Line → List Entry
outside_entries number (Err fault) reached lines = Faulty fault ∷ []
outside_entries number (Ok []) reached lines = []
outside_entries number (Ok (word ∷ words)) reached lines =
    Given (record { line = number; item = item_on (word ∷ words) reached lines }) ∷ []

-- whether a line has a control byte
abbrev pub has_control : List ℕ → Bool
has_control bytes = list_any is_control bytes

-- what is wrong with a line within a block: it is too long, or has a control byte
abbrev pub inside_kind : List ℕ → Bool → Option ConfigKind
inside_kind bytes passes =
    if is_long bytes || passes then Some Long else if has_control bytes then Some Control else None

-- what it holds: nothing but that
abbrev pub inside_entries : ℕ → Option ConfigKind → List Entry
inside_entries number None = []
inside_entries number (Some kind) = Faulty (record { line = number; kind = kind; word = [] }) ∷ []

-- what a line holds; the first argument is the line that ends the block around it, if there is one
abbrev pub line_entries : Option (List ℕ) → FileLine → List Line → List Entry
line_entries None line lines = outside_entries line.number (words_on line) line.reached lines
line_entries (Some last) line lines = inside_entries line.number (inside_kind line.bytes (is_over line.reached))

-- the line that ends the block around what follows the line
abbrev pub block_begun : Result (List (List ℕ)) ConfigFault → Option (List ℕ)
block_begun (Err fault) = None
block_begun (Ok words) = option_map block_end (begun_by words)

-- the same, where a block may be around the line
abbrev pub block_behind : Option (List ℕ) → FileLine → Option (List ℕ)
block_behind None line = block_begun (words_on line)
block_behind (Some last) line = if bytes_eq line.bytes last then None else Some last

-- what lines hold in their order, behind so many lines of so many bytes
unfoldable pub entries : Option (List ℕ) → ℕ → ℕ → List Line → List Entry
entries block number before [] = []
entries block number before (line ∷ lines) =
    line_entries block (line_behind number before line) lines
    ++ entries (block_behind block (line_behind number before line)) (number + 1) (before + size line) lines
