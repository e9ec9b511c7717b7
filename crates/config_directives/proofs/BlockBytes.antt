-- The bytes of a block, line by line.
use Rattle.std.proofs.Common.{◌≡◌, ℕ, ◌+◌, ◌||◌, List, [], ◌∷◌, ◌++◌, Bool, true, false, cond, Option, Some, None, refl, ap, sym, ◌∙◌}
use Rattle.std.specs.Prelude.{option_map, bytes_eq}
use Rattle.std.proofs.lemmas.List.{append_assoc, append-nil}
use Rattle.vpn_base.specs.Lines.{Line, content, lines_of, size}
use Rattle.vpn_text.specs.ConfigLine.{is_over}
use Rattle.config_directives.specs.Entries.{until_end}

-- the line that ends the block, or in which the file grows too long
pub until_found : (last line : List ℕ) (before : ℕ) (first : Line) (lines later : List Line) → lines ≡ first ∷ later → content first ≡ line
    → true ≡ (is_over (before + size first) || bytes_eq line last) → until_end last before lines ≡ Some []
unfolding until_end
until_found last line before first lines later begins shows found =
    ap (until_end last before) begins
    ∙ ap (λ (l : List ℕ). cond (is_over (before + size first) || bytes_eq l last) (Some []) (option_map (λ (more : List ℕ). content first ++ 10 ∷ more) (until_end last (before + size first) later))) shows
    ∙ ap (λ (b : Bool). cond b (Some []) (option_map (λ (more : List ℕ). content first ++ 10 ∷ more) (until_end last (before + size first) later))) (sym found)

-- another line
pub until_passed : (last line : List ℕ) (before : ℕ) (first : Line) (lines later : List Line) → lines ≡ first ∷ later → content first ≡ line
    → false ≡ (is_over (before + size first) || bytes_eq line last)
    → until_end last before lines ≡ option_map (λ (more : List ℕ). line ++ 10 ∷ more) (until_end last (before + size first) later)
unfolding until_end
until_passed last line before first lines later begins shows other =
    ap (until_end last before) begins
    ∙ ap (λ (l : List ℕ). cond (is_over (before + size first) || bytes_eq l last) (Some []) (option_map (λ (more : List ℕ). l ++ 10 ∷ more) (until_end last (before + size first) later))) shows
    ∙ ap (λ (b : Bool). cond b (Some []) (option_map (λ (more : List ℕ). line ++ 10 ∷ more) (until_end last (before + size first) later))) (sym other)

-- no line
pub until_over : (last : List ℕ) (before : ℕ) (text : List ℕ) → text ≡ [] → until_end last before (lines_of text) ≡ None
unfolding until_end lines_of
until_over last before text none = ap (λ (t : List ℕ). until_end last before (lines_of t)) none

-- bytes in front of a line in front of more
pub behind_line : (bytes line : List ℕ) (more : Option (List ℕ))
    → option_map (λ (m : List ℕ). bytes ++ m) (option_map (λ (m : List ℕ). line ++ 10 ∷ m) more) ≡ option_map (λ (m : List ℕ). (bytes ++ line ++ 10 ∷ []) ++ m) more
behind_line bytes line None = refl
behind_line bytes line (Some more) = ap (λ (m : List ℕ). Some m) (simp append_assoc)

pub in_front_of_none : (bytes : List ℕ) (more : Option (List ℕ)) → more ≡ Some [] → option_map (λ (m : List ℕ). bytes ++ m) more ≡ Some bytes
in_front_of_none bytes more none = ap (option_map (λ (m : List ℕ). bytes ++ m)) none ∙ ap (λ (m : List ℕ). Some m) (append-nil bytes)

pub no_bytes : (more : Option (List ℕ)) → more ≡ option_map (λ (m : List ℕ). [] ++ m) more
no_bytes None = refl
no_bytes (Some more) = refl
