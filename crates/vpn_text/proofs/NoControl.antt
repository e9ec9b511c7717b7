-- The words of a line have no control byte.
use Rattle.std.proofs.Common.{◌≡◌, ℕ, suc, ◌+◌, ◌≤◌, ◌&&◌, Bool, true, false, not, cond, List, [], ◌∷◌, ◌++◌, length, refl, ap, sym, ◌∙◌, arith}
use Rattle.std.specs.Prelude.{Option, Some, None, Result, Ok, Err, nat_lt, position}
use Rattle.std.specs.List.{list_all, position_or_len}
use Rattle.std.proofs.lemmas.List.Folds.{list_all-append}
use Rattle.std.proofs.lemmas.Bool.Decides.{nat_tests}
use Rattle.vpn_text.specs.declared.words.LineFault.{LineFault}
use Rattle.vpn_text.specs.declared.words.Standing.{Standing}
use Rattle.vpn_text.specs.declared.words.Standing.TheVariants.{Between, Inside, Escaped, Single, Double, DoubleEscaped, Comment}
use Rattle.vpn_text.specs.declared.words.Turn.{Turn}
use Rattle.vpn_text.specs.declared.words.Turn.TheVariants.{Move, Keep, Close}
use Rattle.vpn_text.specs.Words.{Reading, is_control, line_words, read_on, turn_of, turned, unread, words_at, words_of, words_unless}

abbrev is_clean : List ℕ → Bool
is_clean bytes = list_all (λ c. not (is_control c)) bytes

abbrev are_clean : List (List ℕ) → Bool
are_clean words = list_all (λ word. list_all (λ c. not (is_control c)) word) words

and_true : (a b : Bool) → (a && b) ≡ true → (a ≡ true) × (b ≡ true)
and_true true true e = (refl, refl)
and_true true false e = cc
and_true false b e = cc

both_true : (a b : Bool) → a ≡ true → b ≡ true → (a && b) ≡ true
both_true true true p q = refl
both_true true false p q = cc
both_true false b p q = cc

all-append : {A : Type 0} (p : A → Bool) (xs ys : List A) → list_all p xs ≡ true → list_all p ys ≡ true → list_all p (xs ++ ys) ≡ true
all-append p xs ys a b = list_all-append p xs ys ∙ both_true (list_all p xs) (list_all p ys) a b

-- the bytes read so far have no control byte
record CleanReading (r : Reading) : Type 0 where
  word : is_clean r.word ≡ true
  words : are_clean r.words ≡ true

clean_turned : (r : Reading) (t : Turn) (c : ℕ) → not (is_control c) ≡ true → CleanReading r → CleanReading (turned r t c)
clean_turned r (Move standing) c ok clean = record { word = clean.word; words = clean.words }
clean_turned r (Keep standing) c ok clean = record {
  word = all-append (λ d. not (is_control d)) r.word (c ∷ []) clean.word (both_true (not (is_control c)) true ok refl);
  words = clean.words;
}
clean_turned r Close c ok clean = record {
  word = refl;
  words = all-append (λ w. list_all (λ c. not (is_control c)) w) r.words (r.word ∷ []) clean.words (both_true (is_clean r.word) true clean.word refl);
}

clean_read : (r : Reading) (cs : List ℕ) → is_clean cs ≡ true → CleanReading r → CleanReading (read_on r cs)
clean_read r [] ok clean = clean
clean_read r (c ∷ cs) ok clean =
    let parts = and_true (not (is_control c)) (is_clean cs) ok in
    clean_read (turned r (turn_of r.standing r.place c) c) cs parts.1 (clean_turned r (turn_of r.standing r.place c) c parts.0 clean)

abbrev words_or : Result (List (List ℕ)) LineFault → List (List ℕ)
words_or (Ok words) = words
words_or (Err fault) = []

clean_at : (standing : Standing) (r : Reading) (words : List (List ℕ)) → CleanReading r → words_at standing r ≡ Ok words → are_clean words ≡ true
clean_at Between r words clean is = ap (λ (w : Result (List (List ℕ)) LineFault). are_clean (words_or w)) (sym is) ∙ clean.words
clean_at Inside r words clean is = ap (λ (w : Result (List (List ℕ)) LineFault). are_clean (words_or w)) (sym is)
    ∙ all-append (λ w. list_all (λ c. not (is_control c)) w) r.words (r.word ∷ []) clean.words (both_true (is_clean r.word) true clean.word refl)
clean_at (Escaped at) r words clean is = cc
clean_at (Single at) r words clean is = cc
clean_at (Double at) r words clean is = cc
clean_at (DoubleEscaped at) r words clean is = cc
clean_at Comment r words clean is = ap (λ (w : Result (List (List ℕ)) LineFault). are_clean (words_or w)) (sym is) ∙ clean.words

past_step : (c : Bool) (n m : ℕ) → suc n ≤ cond (not c) (1 + m) 0 → (not c ≡ true) × (n ≤ m)
past_step true n m past = absurd (omega arith)
past_step false n m past = (refl, omega arith)

clean_past : (cs : List ℕ) → length cs ≤ position_or_len is_control cs → is_clean cs ≡ true
clean_past [] past = refl
clean_past (c ∷ cs) past =
    let parts = past_step (is_control c) (length cs) (position_or_len is_control cs) past in
    both_true (not (is_control c)) (is_clean cs) parts.0 (clean_past cs parts.1)

none_when : (m n : ℕ) (b : Bool) → nat_lt m n ≡ b → cond b (Some m) None ≡ None → n ≤ m
none_when m n true is none = cc
none_when m n false is none = grind (arith, nat_tests)

clean_none : (line : List ℕ) → position is_control line ≡ None → is_clean line ≡ true
clean_none line none =
    clean_past line (none_when (position_or_len is_control line) (length line) (nat_lt (position_or_len is_control line) (length line)) refl none)

read_none : (place : Option ℕ) (line : List ℕ) (words : List (List ℕ)) → words_unless place line ≡ Ok words
    → (place ≡ None) × (words_of (read_on unread line) ≡ Ok words)
read_none None line words is = (refl, is)
read_none (Some place) line words is = cc

-- a line that is read has no control byte
pub clean_line : (line : List ℕ) (words : List (List ℕ)) → line_words line ≡ Ok words → is_clean line ≡ true
unfolding line_words
clean_line line words is = clean_none line (read_none (position is_control line) line words is).0

-- nor have its words
pub clean_words : (line : List ℕ) (words : List (List ℕ)) → line_words line ≡ Ok words → are_clean words ≡ true
unfolding line_words
clean_words line words is =
    let read = read_none (position is_control line) line words is in
    let r = read_on unread line in
    clean_at r.standing r words (clean_read unread line (clean_none line read.0) (record { word = refl; words = refl })) read.1
