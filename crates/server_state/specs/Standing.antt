-- A list of items for the clients that are here, in order of their numbers.
use Rattle.std.specs.Prelude.{◌≡◌, ℕ, suc, Bool, true, false, List, [], ◌∷◌}
use Rattle.server_table.specs.Table.{Client}

-- the first item stands for the client of this number, if it is here, and the others for those behind it
abbrev pub FirstStands : {E : Type 0} → (E → ℕ → Client → Type 0) → (List E → Type 0) → ℕ → Client → List E → Bool → Type 0
FirstStands IsOf others n x [] true = ⊥
FirstStands IsOf others n x (e ∷ es) true = IsOf e n x × others es
FirstStands IsOf others n x es false = others es

-- the items stand for those clients that are here, of which the first has this number
abbrev pub StandFrom : {E : Type 0} → (E → ℕ → Client → Type 0) → List E → ℕ → List Client → Type 0
StandFrom IsOf es n [] = es ≡ []
StandFrom IsOf es n (x ∷ clients) = FirstStands IsOf (λ others. StandFrom IsOf others (suc n) clients) n x es x.is_here
