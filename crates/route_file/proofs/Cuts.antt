-- The lines of a text that is cut.
use Rattle.std.proofs.Common.{◌≡◌, ℕ, ◌<◌, ◌==◌, Bool, true, false, List, [], ◌∷◌, ◌++◌, length, append-nil, refl, ap, sym, ◌∙◌, arith}
use Rattle.std.specs.Prelude.{cond}
use Rattle.std.specs.List.{slice_split, onto_first, join_with_byte}
use Rattle.std.proofs.lemmas.List.Splits.{length-slice_split, join_with_byte-slice_split}
use Rattle.vpn_base.specs.Lines.{lines_of_parts, lines_of}
use Rattle.route_file.specs.internal.Within.{IsOneLine}

-- a text has a part
pub has_part : (p : ℕ → Bool) (text : List ℕ) → 0 < length (slice_split p text)
has_part p text = omega (arith, length-slice_split p text)

-- what a first part of all of a text says of its first element and of the rest
whole_behind : (c : ℕ) (k : List ℕ) (b : Bool) (parts : List (List ℕ)) → 0 < length parts →
    cond b ([] ∷ parts) (onto_first c parts) ≡ (c ∷ k) ∷ [] → (b ≡ false) × (parts ≡ k ∷ [])
whole_behind c k true parts some e = cc
whole_behind c k false [] some e = absurd (omega arith)
whole_behind c k false (x ∷ parts) some e = (refl, cc)

-- a text in one part goes onto the first part of what stands behind it
pub split_append : (p : ℕ → Bool) (k r a : List ℕ) (parts : List (List ℕ)) → slice_split p k ≡ k ∷ [] →
    slice_split p r ≡ a ∷ parts → slice_split p (k ++ r) ≡ (k ++ a) ∷ parts
split_append p [] r a parts whole rest = rest
split_append p (c ∷ k) r a parts whole rest =
    let behind = whole_behind c k (p c) (slice_split p k) (has_part p k) whole in
    rw (behind.0, split_append p k r a parts behind.1 rest) refl

-- the first part is in one part
first_case : (p : ℕ → Bool) (x : ℕ) (a : List ℕ) (b : Bool) (parts rest : List (List ℕ)) → p x ≡ b → 0 < length parts →
    ((y : List ℕ) (more : List (List ℕ)) → parts ≡ y ∷ more → slice_split p y ≡ y ∷ []) →
    cond b ([] ∷ parts) (onto_first x parts) ≡ a ∷ rest → slice_split p a ≡ a ∷ []
first_case p x a true parts rest is some hyp e = let empty : a ≡ [] = cc in rw empty refl
first_case p x a false [] rest is some hyp e = absurd (omega arith)
first_case p x a false (y ∷ parts) rest is some hyp e =
    let whole : a ≡ x ∷ y = cc in rw (whole, is, hyp y parts refl) refl

pub first_whole : (p : ℕ → Bool) (xs a : List ℕ) (parts : List (List ℕ)) → slice_split p xs ≡ a ∷ parts → slice_split p a ≡ a ∷ []
first_whole p [] a parts e = let empty : a ≡ [] = cc in rw empty refl
first_whole p (x ∷ xs) a parts e =
    first_case p x a (p x) (slice_split p xs) parts refl (has_part p xs) (λ y more is. first_whole p xs y more is) e

-- the text is its first part, the byte, and the rest
joined_first : (c : ℕ) (a : List ℕ) (parts : List (List ℕ)) → 0 < length parts → join_with_byte c (a ∷ parts) ≡ a ++ c ∷ join_with_byte c parts
joined_first c a [] some = absurd (omega arith)
joined_first c a (b ∷ parts) some = refl

pub text_is : (text a rest : List ℕ) → slice_split (λ b. b == 10) text ≡ a ∷ slice_split (λ b. b == 10) rest → text ≡ a ++ 10 ∷ rest
text_is text a rest e =
    sym (join_with_byte-slice_split 10 text)
    ∙ (ap (join_with_byte 10) e
    ∙ (joined_first 10 a (slice_split (λ b. b == 10) rest) (has_part (λ b. b == 10) rest)
    ∙ ap (λ t. a ++ 10 ∷ t) (join_with_byte-slice_split 10 rest)))

-- a part that others stand behind is an ended line
ended_first : (a : List ℕ) (parts : List (List ℕ)) → 0 < length parts →
    lines_of_parts (a ∷ parts) ≡ record { body = a; ended = true } ∷ lines_of_parts parts
ended_first a [] some = absurd (omega arith)
ended_first a (b ∷ parts) some = refl

-- what was kept and the end of its line are one line
pub lines_ended : (k e more : List ℕ) → IsOneLine k → IsOneLine e →
    lines_of (k ++ (e ++ 10 ∷ more)) ≡ record { body = k ++ e; ended = true } ∷ lines_of more
unfolding lines_of
lines_ended k e more one_k one_e =
    let p : ℕ → Bool = λ c. c == 10 in
    let end : slice_split p (e ++ 10 ∷ more) ≡ (e ++ []) ∷ slice_split p more = split_append p e (10 ∷ more) [] (slice_split p more) one_e refl in
    let whole : slice_split p (k ++ (e ++ 10 ∷ more)) ≡ (k ++ (e ++ [])) ∷ slice_split p more =
    split_append p k (e ++ 10 ∷ more) (e ++ []) (slice_split p more) one_k end in
    rw (whole, append-nil e) (ended_first (k ++ e) (slice_split p more) (has_part p more))

-- two texts in one part are one text in one part
pub one_line_append : (k e : List ℕ) → IsOneLine k → IsOneLine e → IsOneLine (k ++ e)
one_line_append k e one_k one_e = split_append (λ c. c == 10) k e e [] one_k one_e

last_kept : (k : List ℕ) → 0 < length k → lines_of_parts (k ∷ []) ≡ record { body = k; ended = false } ∷ []
last_kept [] some = absurd (omega arith)
last_kept (c ∷ k) some = grind arith

-- a text in one part that is not empty is one line without an end
pub lines_last : (k : List ℕ) → IsOneLine k → 0 < length k → lines_of k ≡ record { body = k; ended = false } ∷ []
unfolding lines_of
lines_last k one_k some = rw one_k (last_kept k some)

pub lines_none : lines_of [] ≡ []
unfolding lines_of
lines_none = refl
