-- The kept pieces that are looked for.
use Rattle.std.proofs.Common.{◌≡◌, ℕ, zero, suc, ◌+◌, ◌-◌, ◌<◌, ◌≤◌, Bool, true, false, List, [], ◌∷◌, length, get_or, take, refl, sym, ap, ◌∙◌, inl, inr, arith}
use Rattle.std.proofs.lemmas.Bool.{cases_lt}
use Rattle.std.specs.Prelude.{◌||◌}
use Rattle.reliable_send.specs.declared.pieces.KeptPiece.{KeptPiece}
use Rattle.vpn_base.specs.declared.names.Moment.{Moment}
use Rattle.reliable_send.specs.declared.pieces.Wanted.{Wanted}
use Rattle.reliable_send.specs.declared.pieces.Wanted.TheVariants.{Unsent, Due}
use Rattle.reliable_send.specs.Sides.{is_among}
use Rattle.reliable_send.specs.internal.Walks.{alter, count_one, counted_pieces, fits, found}

-- no id below the first is found
pub not_below : (w : Wanted) (first id : ℕ) (ps : List KeptPiece) → id < first → is_among id (found w first ps) ≡ false
not_below w first id [] below = refl
not_below w first id (p ∷ ps) below =
    let rest = not_below w (first + 1) id ps (omega arith) in grind (arith, rest)

-- no id above the last is found
pub not_above : (w : Wanted) (first id : ℕ) (ps : List KeptPiece) → first + length ps ≤ id → is_among id (found w first ps) ≡ false
not_above w first id [] above = refl
not_above w first id (p ∷ ps) above =
    let rest = not_above w (first + 1) id ps (omega arith) in grind (arith, rest)

among_at : (w : Wanted) (first k : ℕ) (ps : List KeptPiece) (d : KeptPiece) → k < length ps → is_among (first + k) (found w first ps) ≡ fits w (first + k) (get_or ps k d)
among_at w first k [] d below = absurd (omega arith)
among_at w first zero (p ∷ ps) d below =
    let here : first + 0 ≡ first = omega arith in
    let rest = not_below w (first + 1) first ps (omega arith) in rw here (grind (arith, rest))
among_at w first (suc k) (p ∷ ps) d below =
    let there : first + suc k ≡ first + 1 + k = omega arith in
    let rest = among_at w (first + 1) k ps d (omega arith) in rw there (grind (arith, rest))

-- an id is found where the piece at its place fits
pub among_is : (w : Wanted) (first id : ℕ) (ps : List KeptPiece) (p : KeptPiece) → first ≤ id → id - first < length ps → p ≡ get_or ps (id - first) p →
    is_among id (found w first ps) ≡ fits w id p
among_is w first id ps p from below is =
    let there : first + (id - first) ≡ id = omega arith in
    let at = among_at w first (id - first) ps p below in
    let at' = rw there at at in at' ∙ ap (fits w id) (sym is)

pub or_first : (r a b : Bool) → r ≡ true → r ≡ a → r ≡ a || b
or_first r true b e is = e
or_first r false b e is = absurd cc

pub or_second : (r a b : Bool) → a ≡ false → r ≡ b → r ≡ a || b
or_second r true b none is = absurd cc
or_second r false b none is = is

-- what is found lies in the window
pub found_within : (w : Wanted) (first id : ℕ) (ps : List KeptPiece) → is_among id (found w first ps) ≡ true → (first ≤ id) × (id < first + length ps)
found_within w first id ps there = (
  elim (cases_lt id first) [ inl below ↦ let none = not_below w first id ps below in absurd cc | inr from ↦ from ],
  elim (cases_lt id (first + length ps)) [ inl below ↦ below | inr above ↦ let none = not_above w first id ps above in absurd cc ],
)

either : (a b : Bool) (P : Type 0) → a || b ≡ true → (a ≡ true → P) → (b ≡ true → P) → P
either true b P e first second = first refl
either false b P e first second = second e

-- so it does where either is found
pub either_within : (v w : Wanted) (first id : ℕ) (ps : List KeptPiece) → is_among id (found v first ps) || is_among id (found w first ps) ≡ true →
    (first ≤ id) × (id < first + length ps)
either_within v w first id ps there =
    either (is_among id (found v first ps)) (is_among id (found w first ps)) ((first ≤ id) × (id < first + length ps)) there (found_within v first id ps) (found_within w first id ps)

pub counted_some : (started : Bool) (first timeout id : ℕ) (now : Moment) (ps : List KeptPiece) →
    is_among id (found (Unsent started) first (take 6 ps)) || is_among id (found (Due now) first (take 6 ps)) ≡ true →
    alter (count_one timeout now) (id - first) ps ≡ counted_pieces started first timeout id now ps
unfolding counted_pieces
counted_some started first timeout id now ps e = rw e refl

pub counted_none : (started : Bool) (first timeout id : ℕ) (now : Moment) (ps : List KeptPiece) →
    is_among id (found (Unsent started) first (take 6 ps)) || is_among id (found (Due now) first (take 6 ps)) ≡ false →
    ps ≡ counted_pieces started first timeout id now ps
unfolding counted_pieces
counted_none started first timeout id now ps e = rw e refl
