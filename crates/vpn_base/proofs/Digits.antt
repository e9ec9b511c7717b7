-- Running values of digits.
use Rattle.std.proofs.Common.{◌≡◌, ℕ, suc, ◌+◌, ◌-◌, ◌*◌, ◌<◌, ◌≤◌, List, [], ◌∷◌, length, get_or, drop, drop-cons, Bool, true, false, refl, subst, arith}
use Rattle.std.specs.Prelude.{Some, None, cond, ◌&&◌, nat_le}
use Rattle.vpn_base.specs.Number.{value_behind, is_decimal, number_of}

-- digits only add to what stands before them
pub value_grows : (n : ℕ) (cs : List ℕ) → n ≤ value_behind n cs
value_grows n [] = omega arith
value_grows n (c ∷ cs) = omega (arith, value_grows (10 * n + (c - 48)) cs)

-- what is past the limit is none
past : (b : Bool) (most n : ℕ) → most < n → None ≡ cond (b && nat_le n most) (Some n) None
past true most n more = grind arith
past false most n more = refl

-- a front that spells too much spells no number
pub too_much : (most n i : ℕ) (text : List ℕ) → i < length text → value_behind n (drop i text) ≡ value_behind 0 text →
    most < 10 * n + (get_or text i 0 - 48) → None ≡ number_of most text
unfolding number_of
too_much most n i text there spells more =
    let step : value_behind (10 * n + (get_or text i 0 - 48)) (drop (suc i) text) ≡ value_behind 0 text =
    subst (λ (rest : List ℕ). value_behind n rest ≡ value_behind 0 text) (drop-cons text i 0 there) spells in
    let large : most < value_behind 0 text =
    omega (arith, step, value_grows (10 * n + (get_or text i 0 - 48)) (drop (suc i) text)) in
    past (is_decimal text) most (value_behind 0 text) large
