-- The canonical text of settings.
use Rattle.std.specs.Prelude.{ℕ, ◌≤◌, List, [], ◌∷◌, ◌++◌, length, flat_map, All, if◌then◌else◌}
use Rattle.vpn_base.specs.Lines.{Line, lines_of, content}
use Rattle.config_directives.specs.declared.keyword.Keyword.{Keyword}
use Rattle.config_directives.specs.Table.{table}
use Rattle.ovpn_config.specs.declared.settings.Settings.{Settings}
use Rattle.ovpn_config.specs.Printed.{printed}
use Rattle.ovpn_config.specs.Reading.{is_for_other}

-- texts, each of whole lines joined by line feeds, with a line feed behind each
abbrev pub ended : List ℕ → List ℕ
ended text = text ++ 10 ∷ []

-- all of them with their ends
abbrev pub lines_with : List (List ℕ) → List ℕ
lines_with texts = flat_map ended texts

-- the lines of a directive of the table: none where it is for the other side
abbrev pub written : Settings → Keyword → List ℕ
written s keyword = lines_with (if is_for_other s.role keyword then [] else printed keyword s)

-- the directives of the table in its order, then what is for the TLS engine
unfoldable pub canonical : Settings → List ℕ
canonical s = flat_map (written s) table ++ lines_with s.engine

-- the text keeps the limits of a line and of the file
pub record KeepsLimits (text : List ℕ) : Type 0 where
  pub lines : All (λ (line : Line). length (content line) ≤ 1024) (lines_of text)
  pub whole : length text ≤ 65536
