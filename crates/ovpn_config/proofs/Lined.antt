-- Lines written one after another.
use Rattle.std.proofs.Common.{◌≡◌, ℕ, ◌+◌, List, [], ◌∷◌, ◌++◌, drop, ap, sym, ◌∙◌}
use Rattle.std.specs.Prelude.{Some, slice_get, map}
use Rattle.std.proofs.lemmas.List.{append_assoc, append-nil}
use Rattle.ovpn_config.specs.Canonical.{ended, lines_with}
use Rattle.ovpn_config.proofs.Spaced.{drop-item}

-- one more text
pub lines_more : (out next : List ℕ) (texts : List (List ℕ)) (i : ℕ) (text : List ℕ) → slice_get texts i ≡ Some text
    → next ≡ out ++ lines_with (text ∷ []) → out ++ lines_with (drop i texts) ≡ next ++ lines_with (drop (i + 1) texts)
lines_more out next texts i text there written =
    let rest = lines_with (drop (i + 1) texts) in
    ap (λ (l : List (List ℕ)). out ++ lines_with l) (drop-item texts i text there)
    ∙ ap (λ (l : List ℕ). out ++ (l ++ rest)) (sym (append-nil (ended text)))
    ∙ sym (append_assoc out (lines_with (text ∷ [])) rest)
    ∙ ap (λ (l : List ℕ). l ++ rest) (sym written)

-- the same where each text is that of an item
pub lines_more_of : {A : Type 0} (f : A → List ℕ) (out next : List ℕ) (xs : List A) (i : ℕ) (x : A) → slice_get xs i ≡ Some x
    → next ≡ out ++ lines_with (f x ∷ []) → out ++ lines_with (map f (drop i xs)) ≡ next ++ lines_with (map f (drop (i + 1) xs))
lines_more_of {A} f out next xs i x there written =
    let rest = lines_with (map f (drop (i + 1) xs)) in
    ap (λ (l : List A). out ++ lines_with (map f l)) (drop-item xs i x there)
    ∙ ap (λ (l : List ℕ). out ++ (l ++ rest)) (sym (append-nil (ended (f x))))
    ∙ sym (append_assoc out (lines_with (f x ∷ [])) rest)
    ∙ ap (λ (l : List ℕ). l ++ rest) (sym written)
