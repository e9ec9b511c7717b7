-- Effects beside whether they were lost.
use Rattle.std.proofs.Common.{◌≡◌, ℕ, zero, suc, ◌<◌, Bool, List, [], ◌∷◌, ◌++◌, length, get_or, Option, Some, None, slice_get, refl, ap, arith}
use Rattle.vpn_links.specs.Actions.{Action}
use Rattle.vpn_links.specs.Rounds.{Given}
use Rattle.vpn_links.specs.internal.Marks.{marked}

-- one more of both is one more
pub marked_push : (actions : List Action) (lost : List Bool) (a : Action) (l : Bool) → length actions ≡ length lost → marked (actions ++ a ∷ []) (lost ++ l ∷ []) ≡ marked actions lost ++ record { action = a; is_lost = l } ∷ []
marked_push [] [] a l same = refl
marked_push [] (m ∷ lost) a l same = absurd (omega arith)
marked_push (b ∷ actions) [] a l same = absurd (omega arith)
marked_push (b ∷ actions) (m ∷ lost) a l same = ap (λ (g : List Given). record { action = b; is_lost = m } ∷ g) (marked_push actions lost a l (omega arith))

-- past the end there is none
pub marked_none : (actions : List Action) (lost : List Bool) (i : ℕ) → slice_get actions i ≡ None → slice_get (marked actions lost) i ≡ None
marked_none [] lost i none = refl
marked_none (a ∷ actions) [] i none = refl
marked_none (a ∷ actions) (l ∷ lost) zero none = cc
marked_none (a ∷ actions) (l ∷ lost) (suc i) none = marked_none actions lost i none

-- each has its own mark
pub marked_some : (actions : List Action) (lost : List Bool) (i : ℕ) (a : Action) (d : Bool) → i < length lost → slice_get actions i ≡ Some a → slice_get (marked actions lost) i ≡ Some (record { action = a; is_lost = get_or lost i d })
marked_some [] lost i a d within found = cc
marked_some (b ∷ actions) [] i a d within found = absurd (omega arith)
marked_some (b ∷ actions) (l ∷ lost) zero a d within found = ap (λ (x : Option Action). elim x as (λ _. Option Given) [ None ↦ None | Some y ↦ Some (record { action = y; is_lost = l }) ]) found
marked_some (b ∷ actions) (l ∷ lost) (suc i) a d within found = marked_some actions lost i a d (omega arith) found
