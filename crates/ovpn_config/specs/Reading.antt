-- The settings of a configuration file, or its fault.
use Rattle.std.specs.Prelude.{ℕ, ◌&&◌, not, Bool, true, false, List, [], ◌∷◌, length, codes, Option, Some, None, Result, Ok, Err, find, if◌then◌else◌}
use Rattle.std.specs.Option.{option_map_or}
use Rattle.vpn_base.specs.declared.names.Role.{Role}
use Rattle.vpn_base.specs.declared.names.Role.TheVariants.{Server, Client}
use Rattle.vpn_base.specs.Lines.{lines_of}
use Rattle.vpn_text.specs.declared.config.ConfigFault.{ConfigFault}
use Rattle.vpn_text.specs.declared.config.ConfigKind.TheVariants.{Side, Missing}
use Rattle.config_directives.specs.declared.item.Item.{Item}
use Rattle.config_directives.specs.declared.item.Directive.{Directive}
use Rattle.config_directives.specs.Items.{is_given, is_named, items_of, name_of}
use Rattle.config_directives.specs.declared.keyword.Keyword.{Keyword}
use Rattle.config_directives.specs.Table.{row_at, table, keyword_of}
use Rattle.config_directives.specs.Entries.{entries}
use Rattle.config_directives.specs.Judging.{judged}
use Rattle.ovpn_config.specs.declared.settings.Settings.{Settings}
use Rattle.ovpn_config.specs.Values.{settings_of}

-- the side of a file: that of the first `server` or `client`
abbrev pub side_of_file : List Item → Option Role
side_of_file [] = None
side_of_file (item ∷ items) =
    if is_named (codes "server") item then Some Server
    else if is_named (codes "client") item then Some Client
    else side_of_file items

-- whether these are two sides
abbrev pub are_two : Role → Role → Bool
are_two Server Client = true
are_two Client Server = true
are_two Server Server = false
are_two Client Client = false

-- whether a directive of the table is for the other side
abbrev pub is_for_other : Role → Keyword → Bool
is_for_other role keyword = option_map_or (are_two role) (row_at keyword).side false

-- whether a directive is on the wrong side
abbrev pub is_astray : Role → Directive → Bool
is_astray role d = option_map_or (is_for_other role) (keyword_of (name_of d.item)) false

-- the first directive of the table that a file of this side needs and lacks
unfoldable pub missing : Role → List Item → Option Keyword
missing role items = find (λ keyword. (row_at keyword).needed role && not (is_given (row_at keyword).name items)) table

-- what is missing is a fault of the last line
abbrev pub lacks : ℕ → List ℕ → Result Settings ConfigFault
lacks last name = Err (record { line = last; kind = Missing; word = name })

-- the settings, unless this directive is missing
abbrev pub unless_missing : ℕ → Option Keyword → Settings → Result Settings ConfigFault
unless_missing last None settings = Ok settings
unless_missing last (Some keyword) settings = lacks last (row_at keyword).name

-- a directive on the wrong side is a fault of its line
abbrev pub unless_astray : Option Directive → Result Settings ConfigFault → Result Settings ConfigFault
unless_astray None later = later
unless_astray (Some d) later = Err (record { line = d.line; kind = Side; word = name_of d.item })

-- the settings of the directives of a file of this side whose last line has this number
unfoldable pub settings_on : ℕ → Option Role → List Directive → Result Settings ConfigFault
settings_on last None directives = lacks last (codes "server")
settings_on last (Some role) directives =
    unless_astray (find (is_astray role) directives)
    (unless_missing last (missing role (items_of directives)) (settings_of role (items_of directives)))

-- the settings of directives that were read, or the fault that came of them
abbrev pub settings_from : ℕ → Result (List Directive) ConfigFault → Result Settings ConfigFault
settings_from last (Err fault) = Err fault
settings_from last (Ok directives) = settings_on last (side_of_file (items_of directives)) directives

-- the directives of a configuration file, or the fault of the first line with one of a kind other than Side
-- and Missing
abbrev pub directives_in : List ℕ → Result (List Directive) ConfigFault
directives_in text = judged [] (entries None 0 0 (lines_of text))

-- the settings of a configuration file, or its fault: the first line with a fault other than Side
-- and Missing, else the first line on the wrong side, else the first directive that is missing
unfoldable pub settings : List ℕ → Result Settings ConfigFault
settings text = settings_from (length (lines_of text)) (directives_in text)
