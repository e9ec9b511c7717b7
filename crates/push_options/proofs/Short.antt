-- Parts that are short where the options are.
use Rattle.std.proofs.Common.{◌≡◌, ℕ, ◌≤◌, Bool, true, false, cond, List, [], ◌∷◌, ◌++◌, length, refl, arith, length-append}
use Rattle.std.specs.Prelude.{nat_le}
use borrow.Author.Tests.{leb-true}
use Rattle.std.proofs.lemmas.List.Elements.{All-cons, All-nil, All-head, All-tail}
use Rattle.std.specs.List.{All}
use Rattle.push_options.specs.Parts.{opening, more_mark, last_mark, fits, with_options, parts_from, reply_parts}

abbrev IsShort : List ℕ → Type 0
IsShort part = length part ≤ 1024

abbrev IsSmall : List ℕ → Type 0
IsSmall option = length option ≤ 255

length_last : length last_mark ≡ 20
unfolding last_mark
length_last = refl

length_more : length more_mark ≡ 20
unfolding more_mark
length_more = refl

length_opening : length opening ≡ 10
unfolding opening
length_opening = refl

parts_by : (b : Bool) (part option : List ℕ) (options : List (List ℕ)) → fits part option ≡ b → length part ≤ 1004 → IsSmall option
    → ((next : List ℕ) → length next ≤ 1004 → All IsShort (parts_from next options))
    → All IsShort (cond b (parts_from (part ++ 44 ∷ option) options) ((part ++ more_mark) ∷ parts_from (opening ++ 44 ∷ option) options))
parts_by true part option options fit room small rest =
    rest (part ++ 44 ∷ option) (omega (arith, leb-true _ _ fit, length-append part (44 ∷ option)))
parts_by false part option options fit room small rest =
    All-cons IsShort (part ++ more_mark) (parts_from (opening ++ 44 ∷ option) options)
    (omega (arith, length-append part more_mark, length_more))
    (rest (opening ++ 44 ∷ option) (omega (arith, length-append opening (44 ∷ option), length_opening)))

parts_short : (part : List ℕ) (options : List (List ℕ)) → length part ≤ 1004 → All IsSmall options → All IsShort (parts_from part options)
parts_short part [] room small =
    All-cons IsShort (part ++ last_mark) [] (omega (arith, length-append part last_mark, length_last)) (All-nil IsShort)
parts_short part (option ∷ options) room small =
    parts_by (fits part option) part option options refl room (All-head IsSmall option options small)
    (λ next fit. parts_short next options fit (All-tail IsSmall option options small))

reply_by : (b : Bool) (text : List ℕ) (parts : List (List ℕ)) → nat_le (length text) 1024 ≡ b → All IsShort parts
    → All IsShort (cond b (text ∷ []) parts)
reply_by true text parts fit short = All-cons IsShort text [] (leb-true _ _ fit) (All-nil IsShort)
reply_by false text parts fit short = short

-- no part is too long
pub reply_short : (options : List (List ℕ)) → All (λ option. length option ≤ 255) options → All (λ part. length part ≤ 1024) (reply_parts options)
unfolding reply_parts
reply_short options small =
    reply_by (nat_le (length (with_options opening options)) 1024) (with_options opening options) (parts_from opening options) refl
    (parts_short opening options (omega (arith, length_opening)) small)
