-- Numbers in decimal, written and read again.
use Rattle.std.proofs.Common.{rules, ◌≡◌, ℕ, zero, suc, ◌^◌, ◌<◌, ◌≤◌, Bool, true, false, cond, ◌&&◌, nat_le, List, [], ◌∷◌, length, get_or, Some, None, ap, arith}
use Rattle.std.proofs.lemmas.Grind.{common_steps}
use Rattle.std.proofs.lemmas.Fmt.{digits_decimal, digits_value-decimal, decimal_nonempty, decimal_digit, first_decimal}
use Rattle.std.proofs.lemmas.Str.Parse.{IsNumeralModel, numerals_by_fold}
use Rattle.std.specs.Fmt.{decimal}
use Rattle.std.specs.List.{list_all}
use Rattle.vpn_base.specs.Number.{is_digit, is_decimal, value_behind, number_of}

-- digits in this crate's words are digits in std's
pub own : IsNumeralModel (λ ds. list_all is_digit ds ≡ true) (value_behind 0)
own = numerals_by_fold _ (search rules) value_behind (search rules)

-- digits with no zero in front of another one
decimal_from : (ds : List ℕ) → 0 < length ds → list_all is_digit ds ≡ true → (1 < length ds → 48 < get_or ds 0 0) → is_decimal ds ≡ true
decimal_from [] some digits first = absurd (omega arith)
decimal_from (c ∷ []) some digits first = grind (arith, common_steps)
decimal_from (c ∷ d ∷ cs) some digits first =
    let large : 48 < c = first (omega arith) in
    grind (arith, common_steps)

one_or_more : (n : ℕ) → n < 2 ^ 64 → 1 < length (decimal n) → 48 < get_or (decimal n) 0 0
one_or_more zero small long = absurd (omega (arith, ap length (decimal_digit 0 (omega arith))))
one_or_more (suc n) small long = first_decimal (suc n) (omega arith) small

is_decimal_decimal : (n : ℕ) → n < 2 ^ 64 → is_decimal (decimal n) ≡ true
is_decimal_decimal n small = decimal_from (decimal n) (decimal_nonempty n small) (digits_decimal own n small) (one_or_more n small)

read : (b : Bool) (most n v : ℕ) → b ≡ true → v ≡ n → n ≤ most → cond (b && nat_le v most) (Some v) None ≡ Some n
read true most n v is same within = grind (arith, common_steps)
read false most n v is same within = cc

-- the number is read again
pub reads_decimal : (most n : ℕ) → n ≤ most → n < 2 ^ 64 → number_of most (decimal n) ≡ Some n
unfolding number_of
reads_decimal most n within small =
    read (is_decimal (decimal n)) most n (value_behind 0 (decimal n)) (is_decimal_decimal n small) (digits_value-decimal own n small) within
