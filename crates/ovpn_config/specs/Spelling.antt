-- How directives are written.
use Rattle.std.specs.Prelude.{ℕ, List, [], ◌∷◌, ◌++◌, map, unwrap_or}
use Rattle.std.specs.List.{join_with_byte}
use Rattle.vpn_text.specs.Quoted.{quoted}
use Rattle.config_directives.specs.declared.item.Item.{Item}
use Rattle.config_directives.specs.declared.item.Item.TheVariants.{Words, Block}
use Rattle.config_directives.specs.Blocks.{block_begin, block_end}

-- words in quotes where they need them, with a space between each two
abbrev pub words_text : List (List ℕ) → List ℕ
words_text words = join_with_byte 32 (map quoted words)

-- a block with its two outer lines, all of them joined by line feeds; the bytes between are lines
-- that each end by a line feed
abbrev pub block_text : List ℕ → List ℕ → List ℕ
block_text name bytes = block_begin name ++ 10 ∷ bytes ++ block_end name

-- the text of a directive: its words, or its whole block
abbrev pub item_text : Item → List ℕ
item_text (Words words) = words_text words
item_text (Block name bytes) = block_text name (unwrap_or bytes [])
