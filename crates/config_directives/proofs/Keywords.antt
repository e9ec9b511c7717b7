-- The directive of a name, by the parts of the table.
use Rattle.std.proofs.Common.{◌≡◌, ℕ, Bool, List, ◌++◌, refl, ◌∙◌, ap}
use Rattle.std.specs.Prelude.{Option, Some, None, find, bytes_eq}
use Rattle.std.specs.Option.{option_or}
use Rattle.std.proofs.lemmas.List.Folds.{find-append}
use Rattle.config_directives.specs.declared.keyword.Keyword.{Keyword}
use Rattle.config_directives.specs.Table.{row_at, table, link_keywords, client_keywords, session_keywords, keyword_of}

abbrev pub has_name : List ℕ → Keyword → Bool
has_name name keyword = bytes_eq name (row_at keyword).name

pub keyword_of-parts : (name : List ℕ) → keyword_of name
    ≡ option_or (option_or (find (has_name name) link_keywords) (find (has_name name) client_keywords)) (find (has_name name) session_keywords)
unfolding keyword_of table
keyword_of-parts name =
    find-append (has_name name) (link_keywords ++ client_keywords) session_keywords
    ∙ ap (λ (o : Option Keyword). option_or o (find (has_name name) session_keywords)) (find-append (has_name name) link_keywords client_keywords)

-- the first part that has it
pub keyword_first : (name : List ℕ) (k : Keyword) → find (has_name name) link_keywords ≡ Some k → Some k ≡ keyword_of name
keyword_first name k found = rw (keyword_of-parts name, found) refl

pub keyword_second : (name : List ℕ) (k : Keyword) → find (has_name name) link_keywords ≡ None → find (has_name name) client_keywords ≡ Some k
    → Some k ≡ keyword_of name
keyword_second name k none found = rw (keyword_of-parts name, none, found) refl

pub keyword_third : (name : List ℕ) (r : Option Keyword) → find (has_name name) link_keywords ≡ None → find (has_name name) client_keywords ≡ None
    → r ≡ find (has_name name) session_keywords → r ≡ keyword_of name
keyword_third name r none neither found = rw (keyword_of-parts name, none, neither, found) refl
