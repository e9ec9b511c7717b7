-- Directives, and how they are found by their names.
use Rattle.std.specs.Prelude.{Bool, List, [], ◌∷◌, ℕ, Option, option_map, find, map, bytes_eq, is_some}
use Rattle.config_directives.specs.declared.item.Item.{Item}
use Rattle.config_directives.specs.declared.item.Item.TheVariants.{Words, Block}
use Rattle.config_directives.specs.declared.item.Directive.{Directive}

-- the name of a directive: the first word of its line, or the name of its block
abbrev pub name_of : Item → List ℕ
name_of (Words []) = []
name_of (Words (name ∷ arguments)) = name
name_of (Block name bytes) = name

-- the words behind the name; a block has none
abbrev pub arguments_of : Item → List (List ℕ)
arguments_of (Words []) = []
arguments_of (Words (name ∷ arguments)) = arguments
arguments_of (Block name bytes) = []

-- directives without the numbers of their lines
abbrev pub items_of : List Directive → List Item
items_of directives = map (λ (d : Directive). d.item) directives

-- whether the directive has this name
abbrev pub is_named : List ℕ → Item → Bool
is_named name item = bytes_eq (name_of item) name

-- the first directive of this name
abbrev pub first_named : List ℕ → List Item → Option Item
first_named name items = find (is_named name) items

-- whether there is one
abbrev pub is_given : List ℕ → List Item → Bool
is_given name items = is_some (first_named name items)

-- the arguments of the first directive of this name
abbrev pub given : List ℕ → List Item → Option (List (List ℕ))
given name items = option_map arguments_of (first_named name items)
