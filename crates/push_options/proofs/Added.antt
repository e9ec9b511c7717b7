-- Lists with more at their end.
use Rattle.std.proofs.Common.{◌≡◌, List, [], ◌∷◌, ◌++◌, ◌∙◌}
use Rattle.std.proofs.lemmas.List.{append_assoc}

-- one item and then another
pub two_added : {X : Type 0} (l m n : List X) (a b c d : X) → m ≡ l ++ a ∷ [] → n ≡ m ++ b ∷ [] → a ≡ c → b ≡ d → n ≡ l ++ c ∷ d ∷ []
two_added l m n a b c d first second one two =
    rw (second, first, one, two) (append_assoc l (c ∷ []) (d ∷ []))

-- some items, others, and the last ones
pub three_added : {X : Type 0} (l m n o xs ys zs : List X) → m ≡ l ++ xs → n ≡ m ++ ys → o ≡ n ++ zs → o ≡ l ++ (xs ++ (ys ++ zs))
three_added l m n o xs ys zs first second third =
    rw (third, second, first) (append_assoc (l ++ xs) ys zs ∙ append_assoc l xs (ys ++ zs))
