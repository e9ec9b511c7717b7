-- A text that is read is the field that stands there, and a field is read again.
use Rattle.std.proofs.Common.{◌≡◌, ℕ, zero, suc, ◌+◌, ◌-◌, ◌<◌, ◌≤◌, List, [], ◌∷◌, ◌++◌, length, take, get_or, Result, Ok, Err, refl, sym, ap, subst, ◌∙◌, append_assoc, inl, inr, arith}
use Rattle.std.proofs.Math.ListN.{replicate}
use Rattle.std.specs.Int.{w16, from_be_bytes, to_be_bytes}
use Rattle.std.proofs.lemmas.Bool.{cases_lt, le-ltb, lt-ltb, eq-eqb, ne_eqb}
use Rattle.std.proofs.lemmas.Bool.Decides.{eqb_tells}
use Rattle.std.proofs.Math.ListN.{get_or-append}
use Rattle.std.proofs.Math.Seq.{get_or-append_seam, take-append_seam}
use Rattle.std.proofs.lemmas.List.{take_more, get_or-take, length-append, length-replicate, length-take-le}
use Rattle.std.proofs.lemmas.Nat.{from_be_bytes-to_be_bytes_2}
use Rattle.key_method2.specs.declared.stop.Stop.{Stop}
use Rattle.key_method2.specs.declared.stop.Stop.TheVariants.{Cut, Wrong}
use Rattle.key_method2.specs.Message.{IsField, ended_text}
use Rattle.key_method2.specs.Reading.{text_of_size, text_at}
use Rattle.key_method2.proofs.Bytes.{IsBytes, size_of, size_fits, size_spelled}

-- the two bytes of the size, and what they announce
pub text_at-pair : (high low : ℕ) (bytes : List ℕ) → text_at (high ∷ low ∷ bytes) ≡ text_of_size (size_of high low) bytes
unfolding text_at
text_at-pair high low bytes = rw (le-ltb (length (high ∷ low ∷ bytes)) 2 (omega arith)) refl

-- ---- what a size announces, case by case

pub sized_none : (bytes : List ℕ) → text_of_size 0 bytes ≡ Ok ([], 2)
sized_none bytes = refl

pub sized_cut : (size : ℕ) (bytes : List ℕ) → 0 < size → length bytes < size → text_of_size size bytes ≡ Err Cut
sized_cut size bytes some short = rw (ne_eqb size 0 (λ e. omega arith), lt-ltb (length bytes) size short) refl

pub sized_ended : (size : ℕ) (bytes : List ℕ) → 0 < size → size ≤ length bytes → get_or bytes (size - 1) 0 ≡ 0 → text_of_size size bytes ≡ Ok (take (size - 1) bytes, size + 2)
sized_ended size bytes some enough ended = rw (ne_eqb size 0 (λ e. omega arith), le-ltb (length bytes) size enough, eq-eqb (get_or bytes (size - 1) 0) 0 ended) refl

pub sized_wrong : (size : ℕ) (bytes : List ℕ) → 0 < size → size ≤ length bytes → (get_or bytes (size - 1) 0 ≡ 0 → ⊥) → text_of_size size bytes ≡ Err (Wrong (size + 1))
sized_wrong size bytes some enough wrong = rw (ne_eqb size 0 (λ e. omega arith), le-ltb (length bytes) size enough, ne_eqb (get_or bytes (size - 1) 0) 0 wrong) refl

-- which case it is
pub data Sized (size : ℕ) (bytes : List ℕ) : Type 0 where
  none : size ≡ 0 → Sized size bytes
  cut : 0 < size → length bytes < size → Sized size bytes
  ended : 0 < size → size ≤ length bytes → get_or bytes (size - 1) 0 ≡ 0 → Sized size bytes
  wrong : 0 < size → size ≤ length bytes → (get_or bytes (size - 1) 0 ≡ 0 → ⊥) → Sized size bytes

pub sized : (size : ℕ) (bytes : List ℕ) → Sized size bytes
sized zero bytes = none refl
sized (suc n) bytes =
    elim (cases_lt (length bytes) (suc n)) [
      | inl short ↦ cut (omega arith) short
      | inr enough ↦ elim (eqb_tells (get_or bytes (suc n - 1) 0) 0) [
        | inl zero_there ↦ ended (omega arith) enough zero_there.1
        | inr other ↦ wrong (omega arith) enough other.1
      ]
    ]

-- ---- lists

take-pair : (a b n : ℕ) (bytes : List ℕ) → take (n + 2) (a ∷ b ∷ bytes) ≡ a ∷ b ∷ take n bytes
take-pair a b n bytes = let e : n + 2 ≡ suc (suc n) = omega arith in rw e refl

abbrev done : {A : Type 0} → A → Result A Stop
done x = Ok x

pub ok_is : {A : Type 0} (x y : A) → done x ≡ done y → x ≡ y
ok_is x y e = cc

-- ---- fields

-- a size, that many bytes less one, and the zero byte
pub ended_field : (high low : ℕ) (text : List ℕ) → high < 256 → low < 256 → length text + 1 ≡ size_of high low → IsField (high ∷ low ∷ (text ++ 0 ∷ [])) text
ended_field high low text h l long =
    let fits : size_of high low < 65536 = size_fits high low h l in
    let spelled : to_be_bytes w16 (length text + 1) ≡ high ∷ low ∷ [] = ap (to_be_bytes w16) long ∙ size_spelled high low h l in
    inr (omega arith, sym (ap (λ (size : List ℕ). size ++ text ++ 0 ∷ []) spelled))

-- what is missing of a text of this size: zeros, and the zero byte at its end
abbrev pub padding : ℕ → List ℕ → List ℕ
padding size front = replicate (size - 1 - length front) 0 ++ 0 ∷ []

-- the bytes that are there of a text begin one
pub padded_field : (high low : ℕ) (front : List ℕ) → high < 256 → low < 256 → length front < size_of high low
    → IsField (high ∷ low ∷ (front ++ padding (size_of high low) front)) (front ++ replicate (size_of high low - 1 - length front) 0)
padded_field high low front h l short =
    let zeros : List ℕ = replicate (size_of high low - 1 - length front) 0 in
    let text : List ℕ = front ++ zeros in
    let count : length text ≡ length front + length zeros = length-append front zeros in
    let zero_count : length zeros ≡ size_of high low - 1 - length front = length-replicate (size_of high low - 1 - length front) 0 in
    subst (λ (bytes : List ℕ). IsField (high ∷ low ∷ bytes) text) (append_assoc front zeros (0 ∷ [])) (ended_field high low text h l (omega arith))

pub text_again : (field text rest : List ℕ) → IsField field text → text_at (field ++ rest) ≡ Ok (text, length field)
text_again field text rest (inl p) = subst (λ (f : List ℕ). text_at (f ++ rest) ≡ Ok (text, length f)) (sym p.0) (text_at-pair 0 0 rest ∙ ap (λ (t : List ℕ). done (t, 2)) (sym p.1))
text_again field text rest (inr p) =
    let size : ℕ = length text + 1 in
    let bytes : List ℕ = (text ++ 0 ∷ []) ++ rest in
    let less : size - 1 ≡ length text = omega arith in
    let split : bytes ≡ text ++ (0 ∷ rest) = append_assoc text (0 ∷ []) rest in
    let long : size ≤ length bytes = omega (arith, ap length split, length-append text (0 ∷ rest)) in
    let end : get_or bytes (size - 1) 0 ≡ 0 = rw (less, split) (get_or-append_seam text 0 rest 0) in
    let front : take (size - 1) bytes ≡ text = rw (less, split) (take-append_seam text (0 ∷ rest)) in
    let spelled : from_be_bytes w16 (to_be_bytes w16 size) ≡ size = from_be_bytes-to_be_bytes_2 size (omega (arith, p.0)) in
    let one : text_at (ended_text text ++ rest) ≡ text_of_size (from_be_bytes w16 (to_be_bytes w16 size)) bytes = text_at-pair _ _ bytes in
    let two : text_of_size size bytes ≡ Ok (take (size - 1) bytes, size + 2) = sized_ended size bytes (omega arith) long end in
    let wide : size + 2 ≡ length (ended_text text) = omega (arith, length-append text (0 ∷ [])) in
    let three : done (take (size - 1) bytes, size + 2) ≡ done (text, length (ended_text text)) = ap (λ (t : List ℕ). done (t, size + 2)) front ∙ ap (λ (n : ℕ). done (text, n)) wide in
    subst (λ (f : List ℕ). text_at (f ++ rest) ≡ Ok (text, length f)) (sym p.1) (one ∙ ap (λ (k : ℕ). text_of_size k bytes) spelled ∙ two ∙ three)

-- ---- what is read

-- the field of the text stands at the front
pub record Taken (bytes text : List ℕ) (n : ℕ) : Type 0 where
  pub within : n ≤ length bytes
  pub some : 0 < n
  pub field : IsField (take n bytes) text

taken_of_size : (high low : ℕ) (bytes text : List ℕ) (n : ℕ) → high < 256 → low < 256 → text_of_size (size_of high low) bytes ≡ Ok (text, n) → Sized (size_of high low) bytes → Taken (high ∷ low ∷ bytes) text n
taken_of_size high low bytes text n h l is (none no_size) =
    let got : done ([], 2) ≡ done (text, n) = ap (λ (k : ℕ). text_of_size k bytes) (sym no_size) ∙ is in
    let high_is : high ≡ 0 = omega arith in
    let low_is : low ≡ 0 = omega arith in
    subst (λ (x : List ℕ × ℕ). Taken (high ∷ low ∷ bytes) x.0 x.1) (ok_is ([], 2) (text, n) got) (record { within = omega arith; some = omega arith; field = inl (rw (high_is, low_is) refl, refl) })
taken_of_size high low bytes text n h l is (cut some short) = let e = sized_cut (size_of high low) bytes some short in absurd cc
taken_of_size high low bytes text n h l is (ended some enough zero_there) =
    let size : ℕ = size_of high low in
    let got : done (take (size - 1) bytes, size + 2) ≡ done (text, n) = sym (sized_ended size bytes some enough zero_there) ∙ is in
    let front : List ℕ = take (size - 1) bytes in
    let long : length front ≡ size - 1 = length-take-le (size - 1) bytes (omega arith) in
    let back : size - 1 + 1 ≡ size = omega arith in
    let whole : take size bytes ≡ front ++ 0 ∷ [] = ap (λ (k : ℕ). take k bytes) (sym back) ∙ take_more bytes (size - 1) 0 (omega arith) ∙ ap (λ (b : ℕ). front ++ b ∷ []) zero_there in
    let all : take (size + 2) (high ∷ low ∷ bytes) ≡ high ∷ low ∷ (front ++ 0 ∷ []) = take-pair high low size bytes ∙ ap (λ (bs : List ℕ). high ∷ low ∷ bs) whole in
    subst (λ (x : List ℕ × ℕ). Taken (high ∷ low ∷ bytes) x.0 x.1) (ok_is (front, size + 2) (text, n) got)
    (record { within = omega arith; some = omega arith; field = subst (λ (f : List ℕ). IsField f front) (sym all) (ended_field high low front h l (omega arith)) })
taken_of_size high low bytes text n h l is (wrong some enough other) = let e = sized_wrong (size_of high low) bytes some enough other in absurd cc

pub text_taken : (bytes text : List ℕ) (n : ℕ) → IsBytes bytes → text_at bytes ≡ Ok (text, n) → Taken bytes text n
unfolding text_at
text_taken [] text n fits is = absurd cc
text_taken (high ∷ []) text n fits is = absurd cc
text_taken (high ∷ low ∷ bytes) text n fits is = taken_of_size high low bytes text n (fits 0) (fits 1) (sym (text_at-pair high low bytes) ∙ is) (sized (size_of high low) bytes)

-- some field begins with the bytes
abbrev pub BeginsField : List ℕ → Type 0
BeginsField bytes = (more : List ℕ) × (text : List ℕ) × IsField (bytes ++ more) text

cut_of_size : (high low : ℕ) (bytes : List ℕ) → high < 256 → low < 256 → text_of_size (size_of high low) bytes ≡ Err Cut → Sized (size_of high low) bytes → BeginsField (high ∷ low ∷ bytes)
cut_of_size high low bytes h l is (none no_size) = let e : text_of_size (size_of high low) bytes ≡ done ([], 2) = ap (λ (k : ℕ). text_of_size k bytes) no_size in absurd cc
cut_of_size high low bytes h l is (cut some short) = (padding (size_of high low) bytes, _, padded_field high low bytes h l short)
cut_of_size high low bytes h l is (ended some enough zero_there) = let e = sized_ended (size_of high low) bytes some enough zero_there in absurd cc
cut_of_size high low bytes h l is (wrong some enough other) = let e = sized_wrong (size_of high low) bytes some enough other in absurd cc

pub text_cut : (bytes : List ℕ) → IsBytes bytes → text_at bytes ≡ Err Cut → BeginsField bytes
text_cut [] fits is = (0 ∷ 0 ∷ [], [], inl (refl, refl))
text_cut (high ∷ []) fits is = (1 ∷ padding (size_of high 1) [], _, padded_field high 1 [] (fits 0) (omega arith) (omega arith))
text_cut (high ∷ low ∷ bytes) fits is = cut_of_size high low bytes (fits 0) (fits 1) (sym (text_at-pair high low bytes) ∙ is) (sized (size_of high low) bytes)

-- a wrong byte is the first one that is, whatever follows it
pub record Wrongly (bytes : List ℕ) (place : ℕ) : Type 0 where
  pub within : place < length bytes
  pub stays : (more : List ℕ) → text_at (take (place + 1) bytes ++ more) ≡ Err (Wrong place)
  pub before : BeginsField (take place bytes)

wrong_of_size : (high low : ℕ) (bytes : List ℕ) (place : ℕ) → high < 256 → low < 256 → text_of_size (size_of high low) bytes ≡ Err (Wrong place) → Sized (size_of high low) bytes → Wrongly (high ∷ low ∷ bytes) place
wrong_of_size high low bytes place h l is (none no_size) = let e : text_of_size (size_of high low) bytes ≡ done ([], 2) = ap (λ (k : ℕ). text_of_size k bytes) no_size in absurd cc
wrong_of_size high low bytes place h l is (cut some short) = let e = sized_cut (size_of high low) bytes some short in absurd cc
wrong_of_size high low bytes place h l is (ended some enough zero_there) = let e = sized_ended (size_of high low) bytes some enough zero_there in absurd cc
wrong_of_size high low bytes place h l is (wrong some enough other) =
    let size : ℕ = size_of high low in
    let e = sized_wrong size bytes some enough other in
    let place_is : size + 1 ≡ place = cc in
    let up_to : take (size + 1 + 1) (high ∷ low ∷ bytes) ≡ high ∷ low ∷ take size bytes = ap (λ (k : ℕ). take k (high ∷ low ∷ bytes)) (let two : size + 1 + 1 ≡ size + 2 = omega arith in two) ∙ take-pair high low size bytes in
    let less : size + 1 ≡ size - 1 + 2 = omega arith in
    let before : take (size + 1) (high ∷ low ∷ bytes) ≡ high ∷ low ∷ take (size - 1) bytes = ap (λ (k : ℕ). take k (high ∷ low ∷ bytes)) less ∙ take-pair high low (size - 1) bytes in
    let long : length (take size bytes) ≡ size = length-take-le size bytes enough in
    let front_long : length (take (size - 1) bytes) ≡ size - 1 = length-take-le (size - 1) bytes (omega arith) in
    subst (λ (p : ℕ). Wrongly (high ∷ low ∷ bytes) p) place_is (record {
      within = omega arith;
      stays = λ more.
          let there : get_or (take size bytes ++ more) (size - 1) 0 ≡ get_or bytes (size - 1) 0 = get_or-append (take size bytes) more 0 (size - 1) (omega arith) ∙ get_or-take size bytes (size - 1) 0 (omega arith) in
          ap (λ (bs : List ℕ). text_at (bs ++ more)) up_to ∙ text_at-pair high low (take size bytes ++ more)
          ∙ sized_wrong size (take size bytes ++ more) some (omega (arith, length-append (take size bytes) more)) (λ zero_there. other (sym there ∙ zero_there));
      before = subst BeginsField (sym before) (padding size (take (size - 1) bytes), _, padded_field high low (take (size - 1) bytes) h l (omega arith));
    })

pub text_wrong : (bytes : List ℕ) (place : ℕ) → IsBytes bytes → text_at bytes ≡ Err (Wrong place) → Wrongly bytes place
unfolding text_at
text_wrong [] place fits is = absurd cc
text_wrong (high ∷ []) place fits is = absurd cc
text_wrong (high ∷ low ∷ bytes) place fits is = wrong_of_size high low bytes place (fits 0) (fits 1) (sym (text_at-pair high low bytes) ∙ is) (sized (size_of high low) bytes)

within_of_size : (size : ℕ) (bytes text : List ℕ) (n : ℕ) → text_of_size size bytes ≡ Ok (text, n) → Sized size bytes → n ≤ length bytes + 2
within_of_size size bytes text n is (none no_size) =
    let e : done ([], 2) ≡ done (text, n) = ap (λ (k : ℕ). text_of_size k bytes) (sym no_size) ∙ is in
    let two : 2 ≡ n = ap (λ (x : List ℕ × ℕ). x.1) (ok_is ([], 2) (text, n) e) in omega arith
within_of_size size bytes text n is (cut some short) = let e = sized_cut size bytes some short in absurd cc
within_of_size size bytes text n is (ended some enough zero_there) =
    let e = sym (sized_ended size bytes some enough zero_there) ∙ is in
    let more : size + 2 ≡ n = ap (λ (x : List ℕ × ℕ). x.1) (ok_is (take (size - 1) bytes, size + 2) (text, n) e) in omega arith
within_of_size size bytes text n is (wrong some enough other) = let e = sized_wrong size bytes some enough other in absurd cc

-- a text ends within the bytes
pub text_within : (bytes text : List ℕ) (n : ℕ) → text_at bytes ≡ Ok (text, n) → n ≤ length bytes
unfolding text_at
text_within [] text n is = absurd cc
text_within (high ∷ []) text n is = absurd cc
text_within (high ∷ low ∷ bytes) text n is =
    let two : n ≤ length bytes + 2 = within_of_size (size_of high low) bytes text n (sym (text_at-pair high low bytes) ∙ is) (sized (size_of high low) bytes) in omega arith
