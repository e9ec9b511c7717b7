-- Words behind one another.
use Rattle.std.proofs.Common.{◌≡◌, ℕ, zero, suc, ◌+◌, List, [], ◌∷◌, ◌++◌, map, take, refl, ap, sym, ◌∙◌, arith, slice_get, Some, append_assoc, append-nil, unwrap_or}
use Rattle.std.proofs.lemmas.List.{map-append}
use Rattle.std.proofs.lemmas.Option.{none-some}
use Rattle.schedule_text.specs.NoteText.{behind}

-- more words
pub behind_more : (words more : List (List ℕ)) → behind (words ++ more) ≡ behind words ++ behind more
behind_more [] more = refl
behind_more (w ∷ words) more = ap (λ l. 32 ∷ (w ++ l)) (behind_more words more) ∙ ap (λ l. 32 ∷ l) (sym (append_assoc w (behind words) (behind more)))

take_one : {A : Type 0} (xs : List A) (i : ℕ) (x : A) → slice_get xs i ≡ Some x → take (suc i) xs ≡ take i xs ++ x ∷ []
take_one [] i x at = absurd (none-some x at)
take_one (y ∷ xs) zero x at = ap (λ z. z ∷ []) (ap (λ o. unwrap_or o x) at)
take_one (y ∷ xs) (suc i) x at = ap (λ l. y ∷ l) (take_one xs i x at)

-- one more of the texts of a list
pub behind_one : {A : Type 0} (text : A → List ℕ) (xs : List A) (i : ℕ) (x : A) → Some x ≡ slice_get xs i →
    behind (map text (take (i + 1) xs)) ≡ behind (map text (take i xs)) ++ 32 ∷ text x
behind_one text xs i x at =
    let next : i + 1 ≡ suc i = omega arith in
    ap (λ n. behind (map text (take n xs))) next
    ∙ (ap (λ l. behind (map text l)) (take_one xs i x (sym at))
    ∙ (ap behind (map-append text (take i xs) (x ∷ []))
    ∙ (behind_more (map text (take i xs)) (text x ∷ [])
    ∙ ap (λ l. behind (map text (take i xs)) ++ 32 ∷ l) (append-nil (text x)))))

-- the next one is put behind those before it
pub put_one : {A : Type 0} (text : A → List ℕ) (xs : List A) (i : ℕ) (x : A) (line before now : List ℕ) → Some x ≡ slice_get xs i →
    before ≡ line ++ behind (map text (take i xs)) → now ≡ before ++ 32 ∷ text x → now ≡ line ++ behind (map text (take (i + 1) xs))
put_one text xs i x line before now at was is =
    is ∙ (ap (λ l. l ++ 32 ∷ text x) was
    ∙ (append_assoc line (behind (map text (take i xs))) (32 ∷ text x)
    ∙ ap (λ l. line ++ l) (sym (behind_one text xs i x at))))

three_apart : (line a rest : List ℕ) → (line ++ 32 ∷ a) ++ rest ≡ line ++ 32 ∷ (a ++ rest)
three_apart line a rest = append_assoc line (32 ∷ a) rest

-- two words and two lists of words
pub put_four : (line a b l1 l2 l3 l4 : List ℕ) (xs ys : List (List ℕ)) → l1 ≡ line ++ 32 ∷ a → l2 ≡ l1 ++ 32 ∷ b → l3 ≡ l2 ++ behind xs → l4 ≡ l3 ++ behind ys →
    l4 ≡ line ++ 32 ∷ (a ++ 32 ∷ (b ++ behind (xs ++ ys)))
put_four line a b l1 l2 l3 l4 xs ys first second third fourth =
    fourth ∙ (ap (λ l. l ++ behind ys) third
    ∙ (append_assoc l2 (behind xs) (behind ys)
    ∙ (ap (λ l. l2 ++ l) (sym (behind_more xs ys))
    ∙ (ap (λ l. l ++ behind (xs ++ ys)) second
    ∙ (three_apart l1 b (behind (xs ++ ys))
    ∙ (ap (λ l. l ++ 32 ∷ (b ++ behind (xs ++ ys))) first
    ∙ three_apart line a (32 ∷ (b ++ behind (xs ++ ys)))))))))
