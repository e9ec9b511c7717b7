-- A text over the limit of a file spells what its front spells, up to the first byte past the limit.
use Rattle.std.proofs.Common.{◌≡◌, ℕ, zero, suc, ◌+◌, ◌-◌, ◌^◌, ◌<◌, ◌≤◌, ◌==◌, ◌⊎◌, inl, inr, Bool, true, false, cond, nat_le, nat_lt, List, [], ◌∷◌, ◌++◌, length, take, refl, ap, sym, ◌∙◌, arith, Some, Err, Ok, Result, take_all, length-append, length-take-le, leb-true, leb-false, lt-ltb, ltb-false, eqb-true}
use Rattle.std.specs.List.{slice_split, onto_first}
use Rattle.std.proofs.lemmas.List.{take-append-le}
use Rattle.std.proofs.lemmas.List.Splits.{length-slice_split}
use Rattle.vpn_base.specs.Lines.{Line, content, lines_of, lines_of_parts, size}
use Rattle.schedule_text.specs.declared.event_line.Line.{Line as EventLine}
use Rattle.schedule_text.specs.declared.event_line.Line.TheVariants as lines
use Rattle.schedule_text.specs.declared.kind.TextKind.{TextKind}
use Rattle.schedule_text.specs.declared.kind.TextKind.TheVariants as kinds
use Rattle.replay_links.specs.declared.reading.Reading.{Reading}
use Rattle.replay_links.specs.Schedule.{Spelled, begun, behind_events, judged, passed, spelled_at, spelled_from, spells, stepped}

-- ---- lines

-- no line feed stands in it
abbrev IsOneLine : List ℕ → Type 0
IsOneLine text = slice_split (λ c. c == 10) text ≡ text ∷ []

has_part : (text : List ℕ) → 0 < length (slice_split (λ c. c == 10) text)
has_part text = omega (arith, length-slice_split (λ c. c == 10) text)

one_more : (x : ℕ) (xs : List ℕ) → (x == 10) ≡ false → IsOneLine xs → IsOneLine (x ∷ xs)
one_more x xs other one = rw (other, one) refl

one_behind : (x : ℕ) (xs : List ℕ) (b : Bool) (parts : List (List ℕ)) → 0 < length parts →
    cond b ([] ∷ parts) (onto_first x parts) ≡ (x ∷ xs) ∷ [] → (b ≡ false) × (parts ≡ xs ∷ [])
one_behind x xs true parts some e = cc
one_behind x xs false [] some e = absurd (omega arith)
one_behind x xs false (part ∷ parts) some e = (refl, cc)

one_front : (m : ℕ) (text : List ℕ) → IsOneLine text → IsOneLine (take m text)
one_front zero text one = refl
one_front (suc m) [] one = refl
one_front (suc m) (x ∷ xs) one =
    let parts = one_behind x xs (x == 10) (slice_split (λ c. c == 10) xs) (has_part xs) one in
    one_more x (take m xs) parts.0 (one_front m xs parts.1)

-- a text is one line, or one line before a line feed
record Begins (text : List ℕ) : Type 0 where
  line : List ℕ
  rest : List ℕ
  is : text ≡ line ++ 10 ∷ rest
  one : IsOneLine line

first_line : (text : List ℕ) → IsOneLine text ⊎ Begins text
first_line [] = inl refl
first_line (x ∷ xs) = by_first x xs (x == 10) refl (first_line xs)
  where
    by_rest : (x : ℕ) (xs : List ℕ) → (x == 10) ≡ false → IsOneLine xs ⊎ Begins xs → IsOneLine (x ∷ xs) ⊎ Begins (x ∷ xs)
    by_rest x xs other (inl one) = inl (one_more x xs other one)
    by_rest x xs other (inr b) = inr (record { line = x ∷ b.line; rest = b.rest; is = ap (λ l. x ∷ l) b.is; one = one_more x b.line other b.one })

    by_first : (x : ℕ) (xs : List ℕ) (b : Bool) → (x == 10) ≡ b → IsOneLine xs ⊎ Begins xs → IsOneLine (x ∷ xs) ⊎ Begins (x ∷ xs)
    by_first x xs true feed later = inr (record { line = []; rest = xs; is = ap (λ c. c ∷ xs) (eqb-true x 10 feed); one = refl })
    by_first x xs false other later = by_rest x xs other later

split_behind : (line rest : List ℕ) → IsOneLine line → slice_split (λ c. c == 10) (line ++ 10 ∷ rest) ≡ line ∷ slice_split (λ c. c == 10) rest
split_behind [] rest one = refl
split_behind (x ∷ xs) rest one =
    let parts = one_behind x xs (x == 10) (slice_split (λ c. c == 10) xs) (has_part xs) one in
    rw (parts.0, split_behind xs rest parts.1) refl

ended_first : (a : List ℕ) (parts : List (List ℕ)) → 0 < length parts → lines_of_parts (a ∷ parts) ≡ record { body = a; ended = true } ∷ lines_of_parts parts
ended_first a [] some = absurd (omega arith)
ended_first a (b ∷ parts) some = refl

line_ended : (line rest : List ℕ) → IsOneLine line → lines_of (line ++ 10 ∷ rest) ≡ record { body = line; ended = true } ∷ lines_of rest
unfolding lines_of
line_ended line rest one = rw (split_behind line rest one) (ended_first line (slice_split (λ c. c == 10) rest) (has_part rest))

last_part : (text : List ℕ) → 0 < length text → lines_of_parts (text ∷ []) ≡ record { body = text; ended = false } ∷ []
last_part [] some = absurd (omega arith)
last_part (c ∷ text) some = grind arith

line_last : (text : List ℕ) → IsOneLine text → 0 < length text → lines_of text ≡ record { body = text; ended = false } ∷ []
unfolding lines_of
line_last text one some = rw one (last_part text some)

-- ---- what they spell

one_line : (r : Reading) (line : Line) (more : List Line) →
    spelled_from (line ∷ more) r ≡ spelled_at r (size line) (judged r (size line) (content line)) (spelled_from more)
unfolding spelled_from
one_line r line more = refl

long : (r : Reading) (n : ℕ) (text : List ℕ) → 2 ^ 40 < r.bytes + n → judged r n text ≡ Err kinds.Long
long r n text past = rw (lt-ltb (2 ^ 40) (r.bytes + n) past) refl

-- the fault of a line that is too long
abbrev too_long : Reading → Spelled
too_long r = record { events = []; fault = Some (record { line = r.line + 1; kind = kinds.Long }) }

long_line : (r : Reading) (line : Line) (more : List Line) → 2 ^ 40 < r.bytes + size line → spelled_from (line ∷ more) r ≡ too_long r
long_line r line more past = one_line r line more ∙ ap (λ j. spelled_at r (size line) j (spelled_from more)) (long r (size line) (content line) past)

same_behind : (r : Reading) (n : ℕ) (j : Result EventLine TextKind) (f g : Reading → Spelled) →
    ((next : Reading) → next.bytes ≡ r.bytes + n → f next ≡ g next) → spelled_at r n j f ≡ spelled_at r n j g
same_behind r n (Err kind) f g same = refl
same_behind r n (Ok lines.Blank) f g same = same (passed r n) refl
same_behind r n (Ok lines.Header) f g same = same _ refl
same_behind r n (Ok (lines.Seed seed)) f g same = same _ refl
same_behind r n (Ok (lines.Step event)) f g same = ap (behind_events (event ∷ [])) (same (stepped r n event) refl)
same_behind r n (Ok lines.End) f g same = refl

same_judged : (r : Reading) (n : ℕ) (text : List ℕ) (f g : Reading → Spelled) (past : Bool) → nat_lt (2 ^ 40) (r.bytes + n) ≡ past →
    ((next : Reading) → next.bytes ≡ r.bytes + n → r.bytes + n ≤ 2 ^ 40 → f next ≡ g next) → spelled_at r n (judged r n text) f ≡ spelled_at r n (judged r n text) g
same_judged r n text f g true past same = rw past refl
same_judged r n text f g false within same = same_behind r n (judged r n text) f g (λ next is. same next is (ltb-false (2 ^ 40) (r.bytes + n) within))

-- ---- the front of a text

front_line : (line rest : List ℕ) (m : ℕ) → length line + 1 ≤ m → take m (line ++ 10 ∷ rest) ≡ line ++ 10 ∷ take (m - (length line + 1)) rest
front_line [] rest zero within = absurd (omega (arith, within))
front_line [] rest (suc m) within =
    let less : m ≡ suc m - 1 = omega arith in
    ap (λ n. 10 ∷ take n rest) less
front_line (x ∷ xs) rest zero within = absurd (omega (arith, within))
front_line (x ∷ xs) rest (suc m) within =
    let less : m - (length xs + 1) ≡ suc m - (length (x ∷ xs) + 1) = omega arith in
    ap (λ l. x ∷ l) (front_line xs rest m (omega (arith, within)) ∙ ap (λ n. xs ++ 10 ∷ take n rest) less)

-- one line that is too long, whole and in front
long_last : (r : Reading) (text : List ℕ) → IsOneLine text → 0 < length text → 2 ^ 40 < r.bytes + length text → spelled_from (lines_of text) r ≡ too_long r
long_last r text one some past =
    ap (λ l. spelled_from l r) (line_last text one some)
    ∙ long_line r (record { body = text; ended = false }) [] (omega (arith, past))

-- the front of a text of at most so many bytes spells what the text spells
abbrev IsSame : ℕ → Type 0
IsSame fuel = (text : List ℕ) (r : Reading) (m : ℕ) → length text ≤ fuel → r.bytes + m ≡ 2 ^ 40 + 1 → r.bytes ≤ 2 ^ 40 →
    spelled_from (lines_of (take m text)) r ≡ spelled_from (lines_of text) r

front_lines : (fuel : ℕ) → IsSame fuel → (line rest : List ℕ) (r : Reading) (m : ℕ) (whole : Bool) → nat_le (length line + 1) m ≡ whole → IsOneLine line → length rest ≤ fuel → r.bytes + m ≡ 2 ^ 40 + 1 → r.bytes ≤ 2 ^ 40 →
    spelled_from (lines_of (take m (line ++ 10 ∷ rest))) r ≡ spelled_from (lines_of (line ++ 10 ∷ rest)) r
front_lines fuel hyp line rest r m true whole one short size_is low =
    let within : length line + 1 ≤ m = leb-true (length line + 1) m whole in
    let first : Line = record { body = line; ended = true } in
    let n = size first in
    ap (λ t. spelled_from (lines_of t) r) (front_line line rest m within)
    ∙ (ap (λ l. spelled_from l r) (line_ended line (take (m - (length line + 1)) rest) one)
    ∙ (one_line r first (lines_of (take (m - (length line + 1)) rest))
    ∙ (same_judged r n (content first) (spelled_from (lines_of (take (m - (length line + 1)) rest))) (spelled_from (lines_of rest)) (nat_lt (2 ^ 40) (r.bytes + n)) refl
    (λ next is low_next. hyp rest next (m - (length line + 1)) short (omega (arith, is, size_is, within)) (omega (arith, is, low_next)))
    ∙ (sym (one_line r first (lines_of rest))
    ∙ sym (ap (λ l. spelled_from l r) (line_ended line rest one))))))
front_lines fuel hyp line rest r m false part one short size_is low =
    let before : m < length line + 1 = leb-false (length line + 1) m part in
    let within : m ≤ length line = omega (arith, before) in
    let front : length (take m line) ≡ m = length-take-le m line within in
    ap (λ t. spelled_from (lines_of t) r) (take-append-le m line (10 ∷ rest) within)
    ∙ (long_last r (take m line) (one_front m line one) (omega (arith, front, size_is, low)) (omega (arith, front, size_is))
    ∙ sym (ap (λ l. spelled_from l r) (line_ended line rest one)
    ∙ long_line r (record { body = line; ended = true }) (lines_of rest) (omega (arith, before, size_is))))

front_split : (fuel : ℕ) → IsSame fuel → (text : List ℕ) (r : Reading) (m : ℕ) → IsOneLine text ⊎ Begins text → m < length text → length text ≤ suc fuel → r.bytes + m ≡ 2 ^ 40 + 1 → r.bytes ≤ 2 ^ 40 →
    spelled_from (lines_of (take m text)) r ≡ spelled_from (lines_of text) r
front_split fuel hyp text r m (inl one) more short size_is low =
    let front : length (take m text) ≡ m = length-take-le m text (omega (arith, more)) in
    long_last r (take m text) (one_front m text one) (omega (arith, front, size_is, low)) (omega (arith, front, size_is))
    ∙ sym (long_last r text one (omega (arith, more)) (omega (arith, more, size_is)))
front_split fuel hyp text r m (inr b) more short size_is low =
    ap (λ t. spelled_from (lines_of (take m t)) r) b.is
    ∙ (front_lines fuel hyp b.line b.rest r m (nat_le (length b.line + 1) m) refl b.one
    (omega (arith, short, ap length b.is, length-append b.line (10 ∷ b.rest))) size_is low
    ∙ ap (λ t. spelled_from (lines_of t) r) (sym b.is))

front_by : (fuel : ℕ) → IsSame fuel → (text : List ℕ) (r : Reading) (m : ℕ) (all : Bool) → nat_le (length text) m ≡ all → length text ≤ suc fuel → r.bytes + m ≡ 2 ^ 40 + 1 → r.bytes ≤ 2 ^ 40 →
    spelled_from (lines_of (take m text)) r ≡ spelled_from (lines_of text) r
front_by fuel hyp text r m true all short size_is low = ap (λ t. spelled_from (lines_of t) r) (take_all m text (leb-true (length text) m all))
front_by fuel hyp text r m false more short size_is low = front_split fuel hyp text r m (first_line text) (leb-false (length text) m more) short size_is low

front_same : (fuel : ℕ) → IsSame fuel
front_same zero text r m short size_is low = ap (λ t. spelled_from (lines_of t) r) (take_all m text (omega (arith, short)))
front_same (suc fuel) text r m short size_is low = front_by fuel (front_same fuel) text r m (nat_le (length text) m) refl short size_is low

-- the front of a file spells what the file spells
pub front_spells : (text : List ℕ) → spells (take (2 ^ 40 + 1) text) ≡ spells text
unfolding spells
front_spells text = front_same (length text) text begun (2 ^ 40 + 1) (omega arith) (omega arith) (omega arith)
