-- Parts written one option after another.
use Rattle.std.specs.Prelude.{ℕ, List, [], ◌∷◌, ◌++◌, if◌then◌else◌}
use Rattle.push_options.specs.Parts.{opening, more_mark, fits}

-- the parts that are done, and the beginning of the next one
pub record Written : Type 0 where
  pub done : List (List ℕ)
  pub part : List ℕ

-- one option more
abbrev pub with_option : Written → List ℕ → Written
with_option w option =
    if fits w.part option then record { done = w.done; part = w.part ++ 44 ∷ option }
    else record { done = w.done ++ (w.part ++ more_mark) ∷ []; part = opening ++ 44 ∷ option }
