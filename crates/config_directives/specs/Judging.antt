-- What is wrong with a directive.
use Rattle.std.specs.Prelude.{ℕ, ◌&&◌, ◌||◌, not, Bool, true, false, List, [], ◌∷◌, ◌++◌, Option, Some, None, is_some, is_none, Result, Ok, Err, if◌then◌else◌}
use Rattle.std.specs.Option.{option_map_or}
use Rattle.vpn_text.specs.declared.config.ConfigFault.{ConfigFault}
use Rattle.vpn_text.specs.declared.config.ConfigKind.{ConfigKind}
use Rattle.vpn_text.specs.declared.config.ConfigKind.TheVariants as kinds
use Rattle.config_directives.specs.declared.item.Item.{Item}
use Rattle.config_directives.specs.declared.item.Item.TheVariants.{Words, Block}
use Rattle.config_directives.specs.declared.item.Directive.{Directive}
use Rattle.config_directives.specs.Items.{arguments_of, is_given, items_of, name_of}
use Rattle.config_directives.specs.Names.{block_names, engine_names, is_among, is_idle, is_refused}
use Rattle.config_directives.specs.Table.{row_at, keyword_of}
use Rattle.config_directives.specs.Entries.{Entry, Given, Faulty}

-- whether a directive of this form has the name
abbrev pub is_known : Item → Bool
is_known (Words words) =
    is_some (keyword_of (name_of (Words words))) || is_among engine_names (name_of (Words words)) || is_idle (name_of (Words words))
is_known (Block name bytes) = is_among block_names name

-- whether these arguments may stand behind the name; those for the TLS engine, and those of words
-- without effect, are not looked at
abbrev pub takes_words : List ℕ → List (List ℕ) → Bool
takes_words name words = option_map_or (λ keyword. (row_at keyword).takes words) (keyword_of name) true

-- the same of a directive; a block has no arguments
abbrev pub is_taken : Item → Bool
is_taken (Words words) = takes_words (name_of (Words words)) (arguments_of (Words words))
is_taken (Block name bytes) = true

-- whether the name may stand more than once
abbrev pub may_repeat : List ℕ → Bool
may_repeat name = option_map_or (λ keyword. (row_at keyword).repeats) (keyword_of name) true

-- whether the directive stands before and may not repeat
abbrev pub is_repeated : List Directive → Item → Bool
is_repeated before item = not (may_repeat (name_of item)) && is_given (name_of item) (items_of before)

-- whether it is a block that nothing ends
abbrev pub is_open : Item → Bool
is_open (Words words) = false
is_open (Block name bytes) = is_none bytes

-- what is wrong with a directive behind these, by itself or beside them: the first that holds
unfoldable pub kind_of : List Directive → Item → Option ConfigKind
kind_of before item =
    if not (is_known item || is_refused (name_of item)) then Some kinds.Unknown
    else if is_refused (name_of item) then Some kinds.Refused
    else if not (is_taken item) then Some kinds.Arguments
    else if is_repeated before item then Some kinds.Repeated
    else if is_open item then Some kinds.Block
    else None

-- the fault of a directive, or what comes of those behind it
abbrev pub unless_wrong : Directive → Option ConfigKind → Result (List Directive) ConfigFault → Result (List Directive) ConfigFault
unless_wrong d None later = later
unless_wrong d (Some kind) later = Err (record { line = d.line; kind = kind; word = name_of d.item })

-- the directives behind these, all together, or the first fault
unfoldable pub judged : List Directive → List Entry → Result (List Directive) ConfigFault
judged before [] = Ok before
judged before (Faulty fault ∷ later) = Err fault
judged before (Given d ∷ later) = unless_wrong d (kind_of before d.item) (judged (before ++ d ∷ []) later)
