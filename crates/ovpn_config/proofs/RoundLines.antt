-- Lines that are written are read again, one after another.
use Rattle.std.proofs.Common.{◌≡◌, ℕ, suc, zero, ◌+◌, ◌-◌, ◌≤◌, ◌==◌, ◌||◌, not, Bool, true, false, cond, List, [], ◌∷◌, ◌++◌, length, get_or, take, refl, ap, subst, ◌∙◌, arith, length-append}
use Rattle.std.specs.Prelude.{Option, Some, None, Result, Ok, Err, nat_lt, bytes_eq, All}
use Rattle.std.proofs.lemmas.Bool.{le-ltb}
use Rattle.std.proofs.lemmas.Bool.Decides.{nat_tests}
use Rattle.vpn_base.specs.Lines.{Line, content, lines_of}
use Rattle.vpn_text.specs.declared.config.ConfigFault.{ConfigFault}
use Rattle.vpn_text.specs.declared.config.ConfigKind.TheVariants.{Long, Control}
use Rattle.vpn_text.specs.ConfigLine.{config_words, words_in}
use Rattle.vpn_text.specs.Words.{is_control, line_words}
use Rattle.config_directives.specs.Entries.{FileLine, block_behind, block_begun, entries, has_control, inside_entries, line_entries, outside_entries}
use Rattle.ovpn_config.specs.internal.Laws.{Laws}
use Rattle.ovpn_config.proofs.CleanText.{and_true, is_clean, no_control}
use Rattle.ovpn_config.proofs.FirstLines.{entries-first, line_first, seen}

-- a line without control bytes has no line feed, and no carriage return at its end
not_feed : (c : ℕ) → not (is_control c) ≡ true → ((c == 10) ≡ false) × ((c == 13) ≡ false)
not_feed c ok = (grind (arith, nat_tests), grind (arith, nat_tests))

no_feed : (line : List ℕ) → is_clean line ≡ true → All (λ c. (c == 10) ≡ false) line
no_feed [] clean k d below = absurd (omega arith)
no_feed (c ∷ cs) clean zero d below = (not_feed c (and_true (not (is_control c)) (is_clean cs) clean).0).0
no_feed (c ∷ cs) clean (suc k) d below = no_feed cs (and_true (not (is_control c)) (is_clean cs) clean).1 k d (omega arith)

no_return : (line : List ℕ) (i : ℕ) → is_clean line ≡ true → (get_or line i 0 == 13) ≡ false
no_return [] zero clean = refl
no_return [] (suc i) clean = refl
no_return (c ∷ cs) zero clean = (not_feed c (and_true (not (is_control c)) (is_clean cs) clean).0).1
no_return (c ∷ cs) (suc i) clean = no_return cs i (and_true (not (is_control c)) (is_clean cs) clean).1

pub lines_of-line : (line rest : List ℕ) → is_clean line ≡ true → lines_of (line ++ 10 ∷ rest) ≡ record { body = line; ended = true } ∷ lines_of rest
lines_of-line line rest clean = line_first line rest (no_feed line clean)

pub content-line : (line : List ℕ) → is_clean line ≡ true → content (record { body = line; ended = true }) ≡ line
content-line line clean =
    ap (λ (b : Bool). cond b (take (length line - 1) line) line) (no_return line (length line - 1) clean)

-- the rest of a text keeps the limits, behind so many bytes
pub record Fits (before : ℕ) (text : List ℕ) : Type 0 where
  pub lines : All (λ (line : Line). length (content line) ≤ 1024) (lines_of text)
  pub whole : before + length text ≤ 65536

pub record FirstFits (before : ℕ) (line rest : List ℕ) : Type 0 where
  pub short : length line ≤ 1024
  pub within : nat_lt 65536 (before + (length line + 1)) ≡ false
  pub behind : Fits (before + (length line + 1)) rest

pub first_fits : (before : ℕ) (line rest : List ℕ) → is_clean line ≡ true → Fits before (line ++ 10 ∷ rest) → FirstFits before line rest
first_fits before line rest clean fits =
    let P : Line → Type 0 = λ l. length (content l) ≤ 1024 in
    let L : Line = record { body = line; ended = true } in
    let all : All P (L ∷ lines_of rest) = subst (All P) (lines_of-line line rest clean) fits.lines in
    let head : length (content L) ≤ 1024 = all 0 L (omega arith) in
    let same : length (content L) ≡ length line = ap (λ (l : List ℕ). length l) (content-line line clean) in
    let sum : before + (length line + suc (length rest)) ≤ 65536 = omega (arith, fits.whole, length-append line (10 ∷ rest)) in
    record {
      short = omega arith;
      within = le-ltb 65536 (before + (length line + 1)) (omega arith);
      behind = record { lines = λ k d below. all (suc k) d (omega arith); whole = omega arith };
    }

-- a line outside a block
pub outside_line : (number before : ℕ) (line rest : List ℕ) (read : Result (List (List ℕ)) ConfigFault) → is_clean line ≡ true
    → FirstFits before line rest → config_words (number + 1) line false ≡ read
    → entries None number before (lines_of (line ++ 10 ∷ rest))
    ≡ outside_entries (number + 1) read (before + (length line + 1)) (lines_of rest) ++ entries (block_begun read) (number + 1) (before + (length line + 1)) (lines_of rest)
outside_line number before line rest read clean fits is =
    let L : Line = record { body = line; ended = true } in
    entries-first None number before (lines_of (line ++ 10 ∷ rest)) (lines_of rest) L (lines_of-line line rest clean)
    ∙ ap (λ (l : FileLine). line_entries None l (lines_of rest) ++ entries (block_behind None l) (number + 1) (before + (length line + 1)) (lines_of rest))
    (seen number before L line (before + (length line + 1)) (content-line line clean) refl)
    ∙ ap (λ (o : Bool). outside_entries (number + 1) (config_words (number + 1) line o) (before + (length line + 1)) (lines_of rest) ++ entries (block_begun (config_words (number + 1) line o)) (number + 1) (before + (length line + 1)) (lines_of rest)) fits.within
    ∙ ap (λ (r : Result (List (List ℕ)) ConfigFault). outside_entries (number + 1) r (before + (length line + 1)) (lines_of rest) ++ entries (block_begun r) (number + 1) (before + (length line + 1)) (lines_of rest)) is

-- a line within a block
pub inside_line : (last : List ℕ) (number before : ℕ) (line rest : List ℕ) (around : Option (List ℕ)) → is_clean line ≡ true
    → FirstFits before line rest → cond (bytes_eq line last) None (Some last) ≡ around
    → entries (Some last) number before (lines_of (line ++ 10 ∷ rest)) ≡ entries around (number + 1) (before + (length line + 1)) (lines_of rest)
inside_line last number before line rest around clean fits is =
    let L : Line = record { body = line; ended = true } in
    entries-first (Some last) number before (lines_of (line ++ 10 ∷ rest)) (lines_of rest) L (lines_of-line line rest clean)
    ∙ ap (λ (l : FileLine). line_entries (Some last) l (lines_of rest) ++ entries (block_behind (Some last) l) (number + 1) (before + (length line + 1)) (lines_of rest))
    (seen number before L line (before + (length line + 1)) (content-line line clean) refl)
    ∙ ap (λ (o : Bool). inside_entries (number + 1) (cond (nat_lt 1024 (length line) || o) (Some Long) (cond (has_control line) (Some Control) None)) ++ entries (cond (bytes_eq line last) None (Some last)) (number + 1) (before + (length line + 1)) (lines_of rest))
    fits.within
    ∙ ap (λ (b : Bool). inside_entries (number + 1) (cond (b || false) (Some Long) (cond (has_control line) (Some Control) None)) ++ entries (cond (bytes_eq line last) None (Some last)) (number + 1) (before + (length line + 1)) (lines_of rest))
    (le-ltb 1024 (length line) fits.short)
    ∙ ap (λ (b : Bool). inside_entries (number + 1) (cond b (Some Control) None) ++ entries (cond (bytes_eq line last) None (Some last)) (number + 1) (before + (length line + 1)) (lines_of rest))
    (no_control line clean)
    ∙ ap (λ (a : Option (List ℕ)). entries a (number + 1) (before + (length line + 1)) (lines_of rest)) is

-- the words of a written line
words_when : (b : Bool) (number : ℕ) (line : List ℕ) (words : List (List ℕ)) → b ≡ false → line_words line ≡ Ok words
    → cond (b || false) (Err (record { line = number; kind = Long; word = [] })) (words_in number (line_words line)) ≡ Ok words
words_when b number line words short read = rw (short, read) refl

pub written_words : Laws → (number : ℕ) (line : List ℕ) (words : List (List ℕ)) → line_words line ≡ Ok words → length line ≤ 1024
    → config_words number line false ≡ Ok words
unfolding config_words
written_words laws number line words read short = words_when (nat_lt 1024 (length line)) number line words (le-ltb 1024 (length line) short) read
