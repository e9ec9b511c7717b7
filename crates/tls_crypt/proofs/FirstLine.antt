-- The first line of a key's text.
use Rattle.std.proofs.Common.{◌≡◌, ℕ, List, [], ◌∷◌, map, ap, ◌∙◌}
use Rattle.vpn_base.specs.Lines.{lines_of, content, BeginsWith}
use Rattle.tls_crypt.specs.StaticKey.{key_lines}

-- no text has no line
pub key_lines_none : (text : List ℕ) → text ≡ [] → key_lines text ≡ []
unfolding key_lines lines_of
key_lines_none text none = ap (λ (t : List ℕ). map content (lines_of t)) none

-- the first line in front of the others
pub key_lines_first : (text line rest : List ℕ) → BeginsWith text line rest → key_lines text ≡ line ∷ key_lines rest
unfolding key_lines
key_lines_first text line rest first =
    ap (map content) first.begins ∙ ap (λ (l : List ℕ). l ∷ map content (lines_of rest)) first.shows
