-- Words with spaces between them.
use Rattle.std.proofs.Common.{◌≡◌, ℕ, zero, suc, ◌+◌, List, [], ◌∷◌, ◌++◌, drop, refl, ap, sym, ◌∙◌, add-one}
use Rattle.std.specs.Prelude.{Some, None, slice_get, flat_map}
use Rattle.std.proofs.lemmas.List.{append_assoc, append-nil}
use Rattle.vpn_text.specs.Quoted.{quoted}
use Rattle.ovpn_config.specs.Spelling.{words_text}

-- each word behind a space
abbrev pub spaced : List (List ℕ) → List ℕ
spaced words = flat_map (λ word. 32 ∷ quoted word) words

-- the first word, and the others behind spaces
pub words_text-first : (word : List ℕ) (words : List (List ℕ)) → words_text (word ∷ words) ≡ quoted word ++ spaced words
words_text-first word [] = sym (append-nil (quoted word))
words_text-first word (next ∷ words) = ap (λ (t : List ℕ). quoted word ++ 32 ∷ t) (words_text-first next words)

-- the items from a place on
drop-item-suc : {A : Type 0} (xs : List A) (i : ℕ) (x : A) → slice_get xs i ≡ Some x → drop i xs ≡ x ∷ drop (suc i) xs
drop-item-suc [] i x is = cc
drop-item-suc (y ∷ ys) zero x is = cc
drop-item-suc (y ∷ ys) (suc i) x is = drop-item-suc ys i x is

pub drop-item : {A : Type 0} (xs : List A) (i : ℕ) (x : A) → slice_get xs i ≡ Some x → drop i xs ≡ x ∷ drop (i + 1) xs
drop-item xs i x is = rw add-one (drop-item-suc xs i x is)

pub drop-past : {A : Type 0} (xs : List A) (i : ℕ) → slice_get xs i ≡ None → drop i xs ≡ []
drop-past [] zero is = refl
drop-past [] (suc i) is = refl
drop-past (y ∷ ys) zero is = cc
drop-past (y ∷ ys) (suc i) is = drop-past ys i is

-- the words after one more
pub spaced_more : (text next : List ℕ) (words : List (List ℕ)) (i : ℕ) (word : List ℕ) → slice_get words i ≡ Some word
    → next ≡ text ++ 32 ∷ quoted word → text ++ spaced (drop i words) ≡ next ++ spaced (drop (i + 1) words)
spaced_more text next words i word there written =
    ap (λ (l : List (List ℕ)). text ++ spaced l) (drop-item words i word there)
    ∙ sym (append_assoc text (32 ∷ quoted word) (spaced (drop (i + 1) words)))
    ∙ ap (λ (l : List ℕ). l ++ spaced (drop (i + 1) words)) (sym written)

-- none are left
pub spaced_over : (text : List ℕ) (words : List (List ℕ)) (i : ℕ) → drop i words ≡ [] → text ≡ text ++ spaced (drop i words)
spaced_over text words i none = sym (ap (λ (l : List (List ℕ)). text ++ spaced l) none ∙ append-nil text)

-- the first of them is written
pub words_begun : (empty text : List ℕ) (words : List (List ℕ)) (from : ℕ) (word : List ℕ) → slice_get words from ≡ Some word → empty ≡ []
    → text ≡ empty ++ quoted word → text ++ spaced (drop (from + 1) words) ≡ words_text (drop from words)
words_begun empty text words from word there none written =
    ap (λ (t : List ℕ). t ++ spaced (drop (from + 1) words)) (written ∙ ap (λ (t : List ℕ). t ++ quoted word) none)
    ∙ sym (words_text-first word (drop (from + 1) words))
    ∙ ap words_text (sym (drop-item words from word there))
