-- Texts one behind the other: what is read are the fields that stand there, and fields are read again.
use Rattle.std.proofs.Common.{◌≡◌, ℕ, zero, suc, ◌+◌, ◌-◌, ◌<◌, ◌≤◌, List, [], ◌∷◌, ◌++◌, length, take, drop, Result, Ok, Err, refl, sym, ap, subst, ◌∙◌, append_assoc, add_assoc, add-zero, zero-add, take-add, inl, inr, arith}
use Rattle.std.proofs.Math.ListN.{replicate}
use Rattle.std.proofs.Math.Seq.{drop-append_seam, drop-nil}
use Rattle.std.proofs.lemmas.Bool.Decides.{eqb_tells}
use Rattle.std.proofs.lemmas.List.{drop_all, take-append-drop, length-append, length-drop, length-replicate, length-take-le}
use Rattle.key_method2.specs.declared.stop.Stop.{Stop}
use Rattle.key_method2.specs.declared.stop.Stop.TheVariants.{Cut, Wrong}
use Rattle.key_method2.specs.Message.{IsField, AreFields}
use Rattle.key_method2.specs.Reading.{◌>>=◌, text_at, counted_from, text_from, text_if_any, texts_if_any}
use Rattle.key_method2.proofs.Bytes.{IsBytes, IsBytes-drop}
use Rattle.key_method2.proofs.Text.{ok_is, Taken, BeginsField, Wrongly, text_again, text_taken, text_within, text_cut, text_wrong}

-- ---- the texts of the bytes that are left, counted from their front

-- a text, or none where nothing is left
unfoldable pub if_any : List ℕ → Result (List ℕ × ℕ) Stop
if_any [] = Ok ([], 0)
if_any (byte ∷ bytes) = text_at (byte ∷ bytes)

-- the texts behind one that takes so many bytes
abbrev pub pushed : List ℕ → ℕ → Result (List (List ℕ) × ℕ) Stop → Result (List (List ℕ) × ℕ) Stop
pushed text k (Ok x) = Ok (text ∷ x.0, k + x.1)
pushed text k (Err Cut) = Err Cut
pushed text k (Err (Wrong place)) = Err (Wrong (k + place))

unfoldable pub texts_in : ℕ → List ℕ → Result (List (List ℕ) × ℕ) Stop
texts_in zero bytes = Ok ([], 0)
texts_in (suc n) bytes = if_any bytes >>= λ x. pushed x.0 x.1 (texts_in n (drop x.1 bytes))

pub drop-add : (n m : ℕ) (bytes : List ℕ) → drop (n + m) bytes ≡ drop m (drop n bytes)
drop-add zero m bytes = rw zero-add refl
drop-add (suc n) m [] = drop-nil (suc n + m) ∙ sym (drop-nil m)
drop-add (suc n) m (byte ∷ bytes) = let e : suc n + m ≡ suc (n + m) = omega arith in rw e (drop-add n m bytes)

abbrev got : {A : Type 0} → A → Result A Stop
got x = Ok x

pub if_any-some : (bytes : List ℕ) → 0 < length bytes → if_any bytes ≡ text_at bytes
unfolding if_any
if_any-some [] some = absurd (omega arith)
if_any-some (byte ∷ bytes) some = refl

if_any_within : (bytes text : List ℕ) (k : ℕ) → if_any bytes ≡ Ok (text, k) → k ≤ length bytes
unfolding if_any
if_any_within [] text k is = let e = ok_is ([], 0) (text, k) is in let zero_is : 0 ≡ k = ap (λ (x : List ℕ × ℕ). x.1) e in omega arith
if_any_within (byte ∷ bytes) text k is = text_within (byte ∷ bytes) text k is

text_if_any-counted : (at : ℕ) (bytes : List ℕ) → at ≤ length bytes → text_if_any at bytes ≡ counted_from at (if_any (drop at bytes))
unfolding text_if_any text_from if_any
text_if_any-counted at bytes inside =
    elim (eqb_tells at (length bytes)) [
      | inl here ↦ rw (here.0, drop_all at bytes (omega (arith, here.1))) (ap (λ (k : ℕ). got ([], k)) (sym (add-zero at)))
      | inr before ↦ rw (before.0, if_any-some (drop at bytes) (omega (arith, length-drop at bytes, before.1))) refl
    ]

-- counted from one place and then from an earlier one
pushed-counted : (text : List ℕ) (at k : ℕ) (texts : Result (List (List ℕ) × ℕ) Stop) → (counted_from (at + k) texts >>= λ x. Ok (text ∷ x.0, x.1)) ≡ counted_from at (pushed text k texts)
pushed-counted text at k (Ok x) = ap (λ (n : ℕ). got (text ∷ x.0, n)) (add_assoc at k x.1)
pushed-counted text at k (Err Cut) = refl
pushed-counted text at k (Err (Wrong place)) = ap (λ (n : ℕ). Err (Wrong n)) (add_assoc at k place)

-- the texts from a place on are those of the bytes that are left
pub texts_if_any-counted : (n at : ℕ) (bytes : List ℕ) → at ≤ length bytes → texts_if_any n at bytes ≡ counted_from at (texts_in n (drop at bytes))
unfolding texts_if_any texts_in
texts_if_any-counted zero at bytes inside = ap (λ (k : ℕ). got ([], k)) (sym (add-zero at))
texts_if_any-counted (suc n) at bytes inside = go (λ from inside. texts_if_any-counted n from bytes inside) (if_any (drop at bytes)) refl where
  go : ((from : ℕ) → from ≤ length bytes → texts_if_any n from bytes ≡ counted_from from (texts_in n (drop from bytes))) → (r : Result (List ℕ × ℕ) Stop) → if_any (drop at bytes) ≡ r → (text_if_any at bytes >>= λ x. texts_if_any n x.1 bytes >>= λ others. Ok (x.0 ∷ others.0, others.1)) ≡ counted_from at (if_any (drop at bytes) >>= λ x. pushed x.0 x.1 (texts_in n (drop x.1 (drop at bytes))))
  go later (Ok x) is =
      let first : text_if_any at bytes ≡ got (x.0, at + x.1) = text_if_any-counted at bytes inside ∙ ap (counted_from at) is in
      let within : x.1 ≤ length (drop at bytes) = if_any_within (drop at bytes) x.0 x.1 is in
      let others = later (at + x.1) (omega (arith, length-drop at bytes)) in
      let left : drop (at + x.1) bytes ≡ drop x.1 (drop at bytes) = drop-add at x.1 bytes in
      rw (first, others, left, is) (pushed-counted x.0 at x.1 (texts_in n (drop x.1 (drop at bytes))))
  go later (Err Cut) is = let first : text_if_any at bytes ≡ Err Cut = text_if_any-counted at bytes inside ∙ ap (counted_from at) is in rw (first, is) refl
  go later (Err (Wrong place)) is =
      let first : text_if_any at bytes ≡ Err (Wrong (at + place)) = text_if_any-counted at bytes inside ∙ ap (counted_from at) is in rw (first, is) refl

-- ---- fields are read again

-- a field has at least the two bytes of its size
pub field_some : (field text : List ℕ) → IsField field text → 2 ≤ length field
field_some field text (inl p) = omega (arith, ap length p.0)
field_some field text (inr p) = omega (arith, ap length p.1)

-- nothing is as many missing texts
texts_in-nothing : (n : ℕ) → texts_in n [] ≡ Ok (replicate n [], 0)
unfolding texts_in if_any
texts_in-nothing zero = refl
texts_in-nothing (suc n) = rw (texts_in-nothing n) refl

pub texts_again : (n : ℕ) (tail : List ℕ) (texts : List (List ℕ)) (rest : List ℕ) → AreFields tail texts → length texts ≤ n → (length texts < n → rest ≡ [])
    → texts_in n (tail ++ rest) ≡ Ok (texts ++ replicate (n - length texts) [], length tail)
unfolding texts_in
texts_again zero tail [] rest none few ends = rw none refl
texts_again zero tail (text ∷ texts) rest fields few ends = absurd (omega arith)
texts_again (suc n) tail [] rest none few ends =
    let nothing : tail ++ rest ≡ [] = rw (none, ends (omega arith)) refl in
    ap (texts_in (suc n)) nothing ∙ texts_in-nothing (suc n) ∙ ap (λ (k : ℕ). got (replicate (suc n) [], k)) (sym (ap length none)) ∙ ap (λ (k : ℕ). got (replicate k [], length tail)) (let all : suc n ≡ suc n - 0 = omega arith in all)
texts_again (suc n) tail (text ∷ texts) rest fields few ends =
    let field = fields.0 in
    let others = fields.1 in
    let whole : tail ++ rest ≡ field ++ (others ++ rest) = ap (λ (bytes : List ℕ). bytes ++ rest) fields.4 ∙ append_assoc field others rest in
    let some = field_some field text fields.2 in
    let one : if_any (field ++ (others ++ rest)) ≡ Ok (text, length field) = if_any-some (field ++ (others ++ rest)) (omega (arith, length-append field (others ++ rest))) ∙ text_again field text (others ++ rest) fields.2 in
    let left : drop (length field) (field ++ (others ++ rest)) ≡ others ++ rest = drop-append_seam field (others ++ rest) in
    let behind = texts_again n others texts rest fields.3 (omega arith) (λ fewer. ends (omega arith)) in
    let fewer : suc n - suc (length texts) ≡ n - length texts = omega arith in
    let long : length field + length others ≡ length tail = omega (arith, ap length fields.4, length-append field others) in
    rw (whole, one, left, behind, fewer, ← long) refl

-- ---- what is read

-- the fields of the first texts stand at the front, and the others are missing at the end
pub record AllTaken (n : ℕ) (bytes : List ℕ) (texts : List (List ℕ)) (end : ℕ) : Type 0 where
  pub within : end ≤ length bytes
  pub count : length texts ≡ n
  pub present : ℕ
  pub few : present ≤ n
  pub fields : AreFields (take end bytes) (take present texts)
  pub left_out : drop present texts ≡ replicate (n - present) []
  pub ends : present < n → end ≡ length bytes

texts_of_pushed : (text : List ℕ) (k : ℕ) (r : Result (List (List ℕ) × ℕ) Stop) (texts : List (List ℕ)) (end : ℕ) → pushed text k r ≡ Ok (texts, end)
    → (x : List (List ℕ) × ℕ) × (r ≡ Ok x) × (texts ≡ text ∷ x.0) × (end ≡ k + x.1)
texts_of_pushed text k (Ok x) texts end is =
    let e = ok_is (text ∷ x.0, k + x.1) (texts, end) is in
    (x, refl, sym (ap (λ (p : List (List ℕ) × ℕ). p.0) e), sym (ap (λ (p : List (List ℕ) × ℕ). p.1) e))
texts_of_pushed text k (Err Cut) texts end is = absurd cc
texts_of_pushed text k (Err (Wrong place)) texts end is = absurd cc

taken_step : (n : ℕ) (bytes text : List ℕ) (k : ℕ) (x : List (List ℕ) × ℕ) → Taken bytes text k → AllTaken n (drop k bytes) x.0 x.1 → AllTaken (suc n) bytes (text ∷ x.0) (k + x.1)
taken_step n bytes text k x one behind =
    let one_within : k ≤ length bytes = one.within in
    let within : x.1 ≤ length (drop k bytes) = behind.within in
    let less : suc n - suc behind.present ≡ n - behind.present = omega arith in
    record {
      within = omega (arith, length-drop k bytes);
      count = ap suc behind.count;
      present = suc behind.present;
      few = omega (arith, behind.few);
      fields = (take k bytes, take x.1 (drop k bytes), one.field, behind.fields, take-add k x.1 bytes);
      left_out = behind.left_out ∙ ap (λ (m : ℕ). replicate m []) (sym less);
      ends = λ fewer. let all : x.1 ≡ length (drop k bytes) = behind.ends (omega arith) in omega (arith, length-drop k bytes);
    }

pair : {A B : Type 0} {a c : A} {b d : B} → a ≡ c → b ≡ d → (let left : A × B = (a, b) in left) ≡ (c, d)
pair p q = λ i. (p i, q i)

pub texts_taken : (n : ℕ) (bytes : List ℕ) (texts : List (List ℕ)) (end : ℕ) → IsBytes bytes → texts_in n bytes ≡ Ok (texts, end) → AllTaken n bytes texts end
unfolding texts_in if_any
texts_taken zero bytes texts end fits is =
    subst (λ (x : List (List ℕ) × ℕ). AllTaken 0 bytes x.0 x.1) (ok_is ([], 0) (texts, end) is)
    (record { within = omega arith; count = refl; present = 0; few = omega arith; fields = refl; left_out = refl; ends = λ fewer. absurd (omega arith) })
texts_taken (suc n) [] texts end fits is =
    let got_nothing : got (replicate (suc n) [], 0) ≡ got (texts, end) = sym (texts_in-nothing (suc n)) ∙ is in
    subst (λ (x : List (List ℕ) × ℕ). AllTaken (suc n) [] x.0 x.1) (ok_is (replicate (suc n) [], 0) (texts, end) got_nothing)
    (record { within = omega arith; count = length-replicate (suc n) []; present = 0; few = omega arith; fields = refl; left_out = ap (λ (k : ℕ). replicate k []) (let all : suc n ≡ suc n - 0 = omega arith in all); ends = λ fewer. refl })
texts_taken (suc n) (byte ∷ bytes) texts end fits is =
    go (λ k x e. texts_taken n (drop k (byte ∷ bytes)) x.0 x.1 (IsBytes-drop k (byte ∷ bytes) fits) e) (text_at (byte ∷ bytes)) refl is where
      go : ((k : ℕ) (x : List (List ℕ) × ℕ) → texts_in n (drop k (byte ∷ bytes)) ≡ Ok x → AllTaken n (drop k (byte ∷ bytes)) x.0 x.1)
          → (r : Result (List ℕ × ℕ) Stop) → text_at (byte ∷ bytes) ≡ r → (r >>= λ x. pushed x.0 x.1 (texts_in n (drop x.1 (byte ∷ bytes)))) ≡ Ok (texts, end) → AllTaken (suc n) (byte ∷ bytes) texts end
      go others (Ok x) one all =
          let behind = texts_of_pushed x.0 x.1 (texts_in n (drop x.1 (byte ∷ bytes))) texts end all in
          subst (λ (y : List (List ℕ) × ℕ). AllTaken (suc n) (byte ∷ bytes) y.0 y.1) (sym (pair behind.2 behind.3))
          (taken_step n (byte ∷ bytes) x.0 x.1 behind.0 (text_taken (byte ∷ bytes) x.0 x.1 fits one) (others x.1 behind.0 behind.1))
      go others (Err stop) one all = absurd cc

-- ---- where reading stops

-- the fields of so many missing texts
empty_fields : ℕ → List ℕ
empty_fields zero = []
empty_fields (suc n) = 0 ∷ 0 ∷ empty_fields n

are_empty : (n : ℕ) → AreFields (empty_fields n) (replicate n [])
unfolding empty_fields
are_empty zero = refl
are_empty (suc n) = (0 ∷ 0 ∷ [], empty_fields n, inl (refl, refl), are_empty n, refl)

-- the fields of so many texts begin with the bytes
pub record BeginFields (n : ℕ) (bytes : List ℕ) : Type 0 where
  pub more : List ℕ
  pub texts : List (List ℕ)
  pub count : length texts ≡ n
  pub fields : AreFields (bytes ++ more) texts

-- what begins one field begins fields
pub begins_first : (n : ℕ) (bytes : List ℕ) → BeginsField bytes → BeginFields (suc n) bytes
begins_first n bytes one = record {
  more = one.0 ++ empty_fields n;
  texts = one.1 ∷ replicate n [];
  count = ap suc (length-replicate n []);
  fields = (bytes ++ one.0, empty_fields n, one.2, are_empty n, sym (append_assoc bytes one.0 (empty_fields n)));
}

-- what begins fields behind a field begins fields
begins_behind : (n : ℕ) (field text bytes : List ℕ) → IsField field text → BeginFields n bytes → BeginFields (suc n) (field ++ bytes)
begins_behind n field text bytes one behind = record {
  more = behind.more;
  texts = text ∷ behind.texts;
  count = ap suc behind.count;
  fields = (field, bytes ++ behind.more, one, behind.fields, append_assoc field bytes behind.more);
}

cut_of_pushed : (text : List ℕ) (k : ℕ) (r : Result (List (List ℕ) × ℕ) Stop) → pushed text k r ≡ Err Cut → r ≡ Err Cut
cut_of_pushed text k (Ok x) is = absurd cc
cut_of_pushed text k (Err Cut) is = refl
cut_of_pushed text k (Err (Wrong place)) is = absurd cc

wrong_of_pushed : (text : List ℕ) (k : ℕ) (r : Result (List (List ℕ) × ℕ) Stop) (place : ℕ) → pushed text k r ≡ Err (Wrong place) → (behind : ℕ) × (r ≡ Err (Wrong behind)) × (place ≡ k + behind)
wrong_of_pushed text k (Ok x) place is = absurd cc
wrong_of_pushed text k (Err Cut) place is = absurd cc
wrong_of_pushed text k (Err (Wrong behind)) place is = (behind, refl, cc)

pub texts_cut : (n : ℕ) (bytes : List ℕ) → IsBytes bytes → texts_in n bytes ≡ Err Cut → BeginFields n bytes
unfolding texts_in if_any
texts_cut zero bytes fits is = absurd cc
texts_cut (suc n) [] fits is = let e = texts_in-nothing (suc n) in absurd cc
texts_cut (suc n) (byte ∷ bytes) fits is =
    go (λ k e. texts_cut n (drop k (byte ∷ bytes)) (IsBytes-drop k (byte ∷ bytes) fits) e) (text_at (byte ∷ bytes)) refl is where
      go : ((k : ℕ) → texts_in n (drop k (byte ∷ bytes)) ≡ Err Cut → BeginFields n (drop k (byte ∷ bytes)))
          → (r : Result (List ℕ × ℕ) Stop) → text_at (byte ∷ bytes) ≡ r → (r >>= λ x. pushed x.0 x.1 (texts_in n (drop x.1 (byte ∷ bytes)))) ≡ Err Cut → BeginFields (suc n) (byte ∷ bytes)
      go others (Ok x) one all =
          subst (BeginFields (suc n)) (take-append-drop x.1 (byte ∷ bytes))
          (begins_behind n (take x.1 (byte ∷ bytes)) x.0 (drop x.1 (byte ∷ bytes)) (text_taken (byte ∷ bytes) x.0 x.1 fits one).field (others x.1 (cut_of_pushed x.0 x.1 (texts_in n (drop x.1 (byte ∷ bytes))) all)))
      go others (Err Cut) one all = begins_first n (byte ∷ bytes) (text_cut (byte ∷ bytes) fits one)
      go others (Err (Wrong place)) one all = absurd cc

-- a wrong byte is the first one that is, whatever follows it
pub record WronglyIn (n : ℕ) (bytes : List ℕ) (place : ℕ) : Type 0 where
  pub within : place < length bytes
  pub stays : (more : List ℕ) → texts_in n (take (place + 1) bytes ++ more) ≡ Err (Wrong place)
  pub before : BeginFields n (take place bytes)

wrong_first : (n : ℕ) (bytes : List ℕ) (place : ℕ) → Wrongly bytes place → WronglyIn (suc n) bytes place
unfolding texts_in
wrong_first n bytes place one =
    let within : place < length bytes = one.within in
    record {
      within = within;
      stays = λ more.
          let some : 0 < length (take (place + 1) bytes ++ more) = omega (arith, length-append (take (place + 1) bytes) more, length-take-le (place + 1) bytes (omega arith)) in
          rw (if_any-some (take (place + 1) bytes ++ more) some, one.stays more) refl;
      before = begins_first n (take place bytes) one.before;
    }

wrong_behind : (n : ℕ) (bytes text : List ℕ) (k place : ℕ) → Taken bytes text k → WronglyIn n (drop k bytes) place → WronglyIn (suc n) bytes (k + place)
unfolding texts_in
wrong_behind n bytes text k place one behind =
    let inside : k ≤ length bytes = one.within in
    let within : place < length (drop k bytes) = behind.within in
    let some : 0 < k = one.some in
    let field : List ℕ = take k bytes in
    let long : length field ≡ k = length-take-le k bytes inside in
    let up_to : take (k + place + 1) bytes ≡ field ++ take (place + 1) (drop k bytes) = ap (λ (m : ℕ). take m bytes) (add_assoc k place 1) ∙ take-add k (place + 1) bytes in
    record {
      within = omega (arith, length-drop k bytes);
      stays = λ more.
          let others : List ℕ = take (place + 1) (drop k bytes) ++ more in
          let whole : take (k + place + 1) bytes ++ more ≡ field ++ others = ap (λ (bs : List ℕ). bs ++ more) up_to ∙ append_assoc field (take (place + 1) (drop k bytes)) more in
          let first : if_any (field ++ others) ≡ Ok (text, k) = if_any-some (field ++ others) (omega (arith, length-append field others)) ∙ text_again field text others one.field ∙ ap (λ (m : ℕ). got (text, m)) long in
          let left : drop k (field ++ others) ≡ others = ap (λ (m : ℕ). drop m (field ++ others)) (sym long) ∙ drop-append_seam field others in
          rw (whole, first, left, behind.stays more) refl;
      before = subst (BeginFields (suc n)) (sym (take-add k place bytes)) (begins_behind n field text (take place (drop k bytes)) one.field behind.before);
    }

pub texts_wrong : (n : ℕ) (bytes : List ℕ) (place : ℕ) → IsBytes bytes → texts_in n bytes ≡ Err (Wrong place) → WronglyIn n bytes place
unfolding texts_in if_any
texts_wrong zero bytes place fits is = absurd cc
texts_wrong (suc n) [] place fits is = let e = texts_in-nothing (suc n) in absurd cc
texts_wrong (suc n) (byte ∷ bytes) place fits is =
    go (λ k later e. texts_wrong n (drop k (byte ∷ bytes)) later (IsBytes-drop k (byte ∷ bytes) fits) e) (text_at (byte ∷ bytes)) refl is where
      go : ((k later : ℕ) → texts_in n (drop k (byte ∷ bytes)) ≡ Err (Wrong later) → WronglyIn n (drop k (byte ∷ bytes)) later)
          → (r : Result (List ℕ × ℕ) Stop) → text_at (byte ∷ bytes) ≡ r → (r >>= λ x. pushed x.0 x.1 (texts_in n (drop x.1 (byte ∷ bytes)))) ≡ Err (Wrong place) → WronglyIn (suc n) (byte ∷ bytes) place
      go others (Ok x) one all =
          let behind = wrong_of_pushed x.0 x.1 (texts_in n (drop x.1 (byte ∷ bytes))) place all in
          subst (WronglyIn (suc n) (byte ∷ bytes)) (sym behind.2) (wrong_behind n (byte ∷ bytes) x.0 x.1 behind.0 (text_taken (byte ∷ bytes) x.0 x.1 fits one) (others x.1 behind.0 behind.1))
      go others (Err Cut) one all = absurd cc
      go others (Err (Wrong here)) one all = subst (WronglyIn (suc n) (byte ∷ bytes)) (let same : here ≡ place = cc in same) (wrong_first n (byte ∷ bytes) here (text_wrong (byte ∷ bytes) here fits one))
