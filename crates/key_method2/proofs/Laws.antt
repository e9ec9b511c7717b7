-- The laws of reading: what is read is a message, a message is read again, and where reading stops.
use Rattle.std.proofs.Common.{◌≡◌, ℕ, zero, suc, ◌+◌, ◌-◌, ◌<◌, ◌≤◌, ◌⊎◌, List, [], ◌∷◌, ◌++◌, length, take, drop, Option, Some, None, Result, Ok, Err, refl, sym, ap, subst, ◌∙◌, append_assoc, inl, inr, arith}
use Rattle.std.proofs.Math.ListN.{replicate}
use Rattle.std.proofs.Math.Seq.{drop-append_seam, take-append-add}
use Rattle.std.proofs.lemmas.Bool.{cases_lt, lt-ltb}
use Rattle.std.proofs.lemmas.List.{drop_all, take_all, take-append-drop, length-append, length-drop, length-replicate, length-take-le, append-nil}
use Rattle.vpn_base.specs.declared.names.Role.{Role}
use Rattle.key_method2.specs.declared.message.Source.{Source}
use Rattle.key_method2.specs.declared.message.Km2.{Km2}
use Rattle.key_method2.specs.declared.stop.Stop.{Stop}
use Rattle.key_method2.specs.declared.stop.Stop.TheVariants.{Cut, Wrong}
use Rattle.key_method2.specs.Message.{opening, source_bytes, AreFields, texts_of, IsMessage, HasAllTexts, EndsEarly, Begins}
use Rattle.key_method2.specs.Judging.{IsFound}
use Rattle.key_method2.specs.Reading.{first_difference, source_length, source_in, source_at, counted_from, message_of, parts_at}
use Rattle.key_method2.proofs.Bytes.{IsBytes, IsBytes-drop}
use Rattle.key_method2.proofs.Text.{ok_is}
use Rattle.key_method2.proofs.Texts.{field_some, texts_again, AllTaken, texts_taken, BeginFields, begins_first, texts_cut, WronglyIn, texts_wrong}
use Rattle.key_method2.proofs.Opening.{front_is, Differs, first_differs}
use Rattle.key_method2.proofs.Parts.{messaged, four_in, four_in-some, four_in-nothing, source_in-is, source_again, parts_at-split}

abbrev got : {A : Type 0} → A → Result A Stop
got x = Ok x

-- ---- a message is read again

some_field : (present : ℕ) (fields : List ℕ) (message : Km2) → 0 < present → AreFields fields (take present (texts_of message)) → 0 < length fields
some_field zero fields message some are = absurd (omega arith)
some_field (suc present) fields message some are =
    omega (arith, field_some are.0 message.options are.2, ap length are.4, length-append are.0 are.1)

-- the message of four texts
message_of-again : (message : Km2) → message_of message.source (texts_of message) ≡ message
message_of-again message = refl

pub message_again : (from : Role) (present : ℕ) (front rest : List ℕ) (message : Km2) → IsMessage from present front message → 0 < present → present ≤ 4 → (present < 4 → rest ≡ [])
    → parts_at from (front ++ rest) ≡ Ok (message, length front)
message_again from present front rest message is some few ends =
    let source : List ℕ = source_bytes message.source in
    let fields : List ℕ = is.fields in
    let spelled = source_again from message.source is.source in
    let whole : front ++ rest ≡ opening ++ (source ++ (fields ++ rest)) =
    ap (λ (b : List ℕ). b ++ rest) is.whole ∙ append_assoc (opening ++ source) fields rest ∙ append_assoc opening source (fields ++ rest) in
    let texts : List (List ℕ) = take present (texts_of message) in
    let count : length texts ≡ present = length-take-le present (texts_of message) few in
    let read = texts_again 4 fields texts rest is.are_fields (omega arith) (λ fewer. ends (omega arith)) in
    let all : texts ++ replicate (4 - length texts) [] ≡ texts_of message =
    ap (λ (k : ℕ). texts ++ replicate (4 - k) []) count ∙ ap (λ (others : List (List ℕ)). texts ++ others) (sym is.left_out) ∙ take-append-drop present (texts_of message) in
    let four : four_in (fields ++ rest) ≡ got (texts_of message, length fields) =
    four_in-some (fields ++ rest) (omega (arith, some_field present fields message some is.are_fields, length-append fields rest)) ∙ read ∙ ap (λ (ts : List (List ℕ)). got (ts, length fields)) all in
    let long : 5 + source_length from + length fields ≡ length front = omega (arith, ap length is.whole, length-append source fields, spelled.0) in
    ap (parts_at from) whole ∙ parts_at-split from source (fields ++ rest) spelled.0
    ∙ ap (λ (r : Result (List (List ℕ) × ℕ) Stop). messaged (source_in from source) (counted_from (5 + source_length from) r)) four
    ∙ ap (λ (s : Source). got (message_of s (texts_of message), 5 + source_length from + length fields)) spelled.1
    ∙ ap (λ (k : ℕ). got (message, k)) long

-- ---- some message begins with the bytes

-- what some message begins with, it begins with any part of at the front
pub Begins-front : (from : Role) (front rest : List ℕ) → Begins from (front ++ rest) → Begins from front
Begins-front from front rest begins = (
  rest ++ begins.0,
  begins.1,
  subst (λ (bytes : List ℕ). HasAllTexts from bytes begins.1 ⊎ EndsEarly from bytes begins.1) (append_assoc front rest begins.0) begins.2,
)

four_texts : (source : Source) (texts : List (List ℕ)) → length texts ≡ 4 → texts_of (message_of source texts) ≡ texts
four_texts source [] count = absurd (omega arith)
four_texts source (a ∷ []) count = absurd (omega arith)
four_texts source (a ∷ b ∷ []) count = absurd (omega arith)
four_texts source (a ∷ b ∷ c ∷ []) count = absurd (omega arith)
four_texts source (a ∷ b ∷ c ∷ d ∷ []) count = refl
four_texts source (a ∷ b ∷ c ∷ d ∷ e ∷ more) count = absurd (omega arith)

-- the message of a source and of fields
made : (from : Role) (present : ℕ) (source fields : List ℕ) (texts : List (List ℕ)) → length source ≡ source_length from → length texts ≡ 4
    → AreFields fields (take present texts) → drop present texts ≡ replicate (4 - present) [] → IsMessage from present (opening ++ (source ++ fields)) (message_of (source_in from source) texts)
made from present source fields texts long count are left_out =
    let is = source_in-is from source long in
    let same : texts_of (message_of (source_in from source) texts) ≡ texts = four_texts (source_in from source) texts count in
    record {
      source = is.0;
      fields = fields;
      are_fields = subst (λ (ts : List (List ℕ)). AreFields fields (take present ts)) (sym same) are;
      left_out = ap (drop present) same ∙ left_out;
      whole = ap (λ (s : List ℕ). opening ++ (s ++ fields)) (sym is.1) ∙ sym (append_assoc opening (source_bytes (source_in from source)) fields);
    }

begins_source : (from : Role) (source rest : List ℕ) → length source ≡ source_length from → BeginFields 4 rest → Begins from (opening ++ (source ++ rest))
begins_source from source rest long begin =
    let all : take 4 begin.texts ≡ begin.texts = take_all 4 begin.texts (omega (arith, begin.count)) in
    let none : drop 4 begin.texts ≡ [] = drop_all 4 begin.texts (omega (arith, begin.count)) in
    let message = made from 4 source (rest ++ begin.more) begin.texts long begin.count (subst (AreFields (rest ++ begin.more)) (sym all) begin.fields) none in
    let whole : opening ++ (source ++ (rest ++ begin.more)) ≡ (opening ++ (source ++ rest)) ++ begin.more = rw (append_assoc, append_assoc) refl in
    (begin.more, message_of (source_in from source) begin.texts, inl (subst (λ (bytes : List ℕ). HasAllTexts from bytes (message_of (source_in from source) begin.texts)) whole message))

-- four missing texts
begin_nothing : BeginFields 4 []
begin_nothing = begins_first 3 [] (0 ∷ 0 ∷ [], [], inl (refl, refl))

zeros : ℕ → List ℕ
zeros n = replicate n 0

-- an opening and a part of a source
begins_short : (from : Role) (part : List ℕ) → length part ≤ source_length from → Begins from (opening ++ part)
unfolding zeros
begins_short from part short =
    let lacking : List ℕ = zeros (source_length from - length part) in
    let long : length (part ++ lacking) ≡ source_length from = omega (arith, length-append part lacking, length-replicate {A = ℕ} (source_length from - length part) 0) in
    let whole : opening ++ ((part ++ lacking) ++ []) ≡ (opening ++ part) ++ lacking = rw append-nil (sym (append_assoc opening part lacking)) in
    Begins-front from (opening ++ part) lacking (subst (Begins from) whole (begins_source from (part ++ lacking) [] long begin_nothing))

-- ---- how far the bytes go

pub data Shape (from : Role) (bytes : List ℕ) : Type 0 where
  differs : (place : ℕ) → first_difference opening bytes ≡ Some place → Shape from bytes
  short : first_difference opening bytes ≡ None → length bytes < 5 + source_length from → Shape from bytes
  split : (source rest : List ℕ) → length source ≡ source_length from → bytes ≡ opening ++ (source ++ rest) → Shape from bytes

pub shape : (from : Role) (bytes : List ℕ) → Shape from bytes
shape from bytes = go (first_difference opening bytes) refl where
  go : (o : Option ℕ) → first_difference opening bytes ≡ o → Shape from bytes
  go (Some place) is = differs place is
  go None is =
      elim (cases_lt (length bytes) (5 + source_length from)) [
        | inl fewer ↦ short is fewer
        | inr enough ↦
            let none : drop (length bytes) opening ≡ [] = drop_all (length bytes) opening (omega arith) in
            let front : bytes ≡ opening ++ drop 5 bytes = sym (append-nil bytes) ∙ ap (λ (b : List ℕ). bytes ++ b) (sym none) ∙ front_is opening bytes is in
            let behind : take (source_length from) (drop 5 bytes) ++ drop (source_length from) (drop 5 bytes) ≡ drop 5 bytes = take-append-drop (source_length from) (drop 5 bytes) in
            split (take (source_length from) (drop 5 bytes)) (drop (source_length from) (drop 5 bytes))
            (length-take-le (source_length from) (drop 5 bytes) (omega (arith, length-drop 5 bytes))) (front ∙ ap (λ (b : List ℕ). opening ++ b) (sym behind))
      ]

parts_differ : (from : Role) (bytes : List ℕ) (place : ℕ) → first_difference opening bytes ≡ Some place → parts_at from bytes ≡ Err (Wrong place)
unfolding parts_at
parts_differ from bytes place is = rw is refl

parts_short : (from : Role) (bytes : List ℕ) → first_difference opening bytes ≡ None → length bytes < 5 + source_length from → parts_at from bytes ≡ Err Cut
unfolding parts_at source_at
parts_short from bytes is fewer = rw (is, lt-ltb (length bytes) (5 + source_length from) fewer) refl

parts_split : (from : Role) (bytes source rest : List ℕ) → length source ≡ source_length from → bytes ≡ opening ++ (source ++ rest)
    → parts_at from bytes ≡ messaged (source_in from source) (counted_from (5 + source_length from) (four_in rest))
parts_split from bytes source rest long whole = ap (parts_at from) whole ∙ parts_at-split from source rest long

behind_split : (from : Role) (bytes source rest : List ℕ) → length source ≡ source_length from → bytes ≡ opening ++ (source ++ rest) → drop (5 + source_length from) bytes ≡ rest
behind_split from bytes source rest long whole =
    let front_long : length (opening ++ source) ≡ 5 + source_length from = omega arith in
    ap (λ (k : ℕ). drop k bytes) (sym front_long) ∙ ap (drop (length (opening ++ source))) (whole ∙ sym (append_assoc opening source rest)) ∙ drop-append_seam (opening ++ source) rest

rest_fits : (from : Role) (bytes source rest : List ℕ) → length source ≡ source_length from → bytes ≡ opening ++ (source ++ rest) → IsBytes bytes → IsBytes rest
rest_fits from bytes source rest long whole fits = subst IsBytes (behind_split from bytes source rest long whole) (IsBytes-drop (5 + source_length from) bytes fits)

-- ---- what is read is a message

abbrev Read : Type 0
Read = Result (List (List ℕ) × ℕ) Stop

texts_of_messaged : (source : Source) (at : ℕ) (r : Read) (message : Km2) (used : ℕ) → messaged source (counted_from at r) ≡ Ok (message, used)
    → (x : List (List ℕ) × ℕ) × (r ≡ Ok x) × (message_of source x.0 ≡ message) × (at + x.1 ≡ used)
texts_of_messaged source at (Ok x) message used is =
    let e = ok_is (message_of source x.0, at + x.1) (message, used) is in
    (x, refl, ap (λ (p : Km2 × ℕ). p.0) e, ap (λ (p : Km2 × ℕ). p.1) e)
texts_of_messaged source at (Err Cut) message used is = absurd cc
texts_of_messaged source at (Err (Wrong place)) message used is = absurd cc

some_rest : (rest : List ℕ) (x : List (List ℕ) × ℕ) → four_in rest ≡ Ok x → 0 < length rest
some_rest [] x is = let e = four_in-nothing in absurd cc
some_rest (byte ∷ bytes) x is = omega arith

four_taken : (rest : List ℕ) (x : List (List ℕ) × ℕ) → IsBytes rest → four_in rest ≡ Ok x → AllTaken 4 rest x.0 x.1
four_taken rest x fits is = texts_taken 4 rest x.0 x.1 fits (sym (four_in-some rest (some_rest rest x is)) ∙ is)

found_split : (from : Role) (source rest : List ℕ) (x : List (List ℕ) × ℕ) → length source ≡ source_length from → 0 < length rest → AllTaken 4 rest x.0 x.1
    → IsFound from (opening ++ (source ++ rest)) (message_of (source_in from source) x.0) (5 + source_length from + x.1)
found_split from source rest x long some taken =
    let bytes : List ℕ = opening ++ (source ++ rest) in
    let message : Km2 = message_of (source_in from source) x.0 in
    let used : ℕ = 5 + source_length from + x.1 in
    let len : length bytes ≡ 5 + (length source + length rest) = omega (arith, length-append source rest) in
    let end : x.1 ≤ length rest = taken.within in
    let regrouped : bytes ≡ (opening ++ source) ++ rest = sym (append_assoc opening source rest) in
    let front_long : length (opening ++ source) ≡ 5 + source_length from = omega arith in
    let front : take used bytes ≡ opening ++ (source ++ take x.1 rest) =
    ap (take used) regrouped ∙ ap (λ (k : ℕ). take (k + x.1) ((opening ++ source) ++ rest)) (sym front_long) ∙ take-append-add (opening ++ source) rest x.1 ∙ append_assoc opening source (take x.1 rest) in
    let is = made from taken.present source (take x.1 rest) x.0 long taken.count taken.fields taken.left_out in
    let read : IsMessage from taken.present (take used bytes) message = subst (λ (b : List ℕ). IsMessage from taken.present b message) (sym front) is in
    record {
      within = omega arith;
      is_message = elim (cases_lt taken.present 4) [
        | inl fewer ↦
            let all : x.1 ≡ length rest = taken.ends fewer in
            let whole : used ≡ length bytes = omega arith in
            let same : take used bytes ≡ bytes = take_all used bytes (omega arith) in
            inr (whole, (taken.present, present_some taken.present rest x.0 x.1 some all taken.fields, fewer, subst (λ (b : List ℕ). IsMessage from taken.present b message) same read))
        | inr enough ↦ let four : taken.present ≡ 4 = omega (arith, taken.few) in inl (subst (λ (n : ℕ). IsMessage from n (take used bytes) message) four read)
      ];
    } where
      present_some : (present : ℕ) (rest : List ℕ) (texts : List (List ℕ)) (end : ℕ) → 0 < length rest → end ≡ length rest → AreFields (take end rest) (take present texts) → 0 < present
      present_some zero rest texts end some all are = absurd (omega (arith, ap length are, length-take-le end rest (omega arith)))
      present_some (suc present) rest texts end some all are = omega arith

pub parts_taken : (from : Role) (bytes : List ℕ) (message : Km2) (used : ℕ) → IsBytes bytes → parts_at from bytes ≡ Ok (message, used) → IsFound from bytes message used
parts_taken from bytes message used fits is = go (shape from bytes) where
  go : Shape from bytes → IsFound from bytes message used
  go (differs place other) = let e = parts_differ from bytes place other in absurd cc
  go (short same fewer) = let e = parts_short from bytes same fewer in absurd cc
  go (split source rest long whole) =
      let x = texts_of_messaged (source_in from source) (5 + source_length from) (four_in rest) message used (sym (parts_split from bytes source rest long whole) ∙ is) in
      let found = found_split from source rest x.0 long (some_rest rest x.0 x.1) (four_taken rest x.0 (rest_fits from bytes source rest long whole fits) x.1) in
      subst (λ (b : List ℕ). IsFound from b message used) (sym whole) (subst (λ (m : Km2). IsFound from (opening ++ (source ++ rest)) m used) x.2 (subst (IsFound from (opening ++ (source ++ rest)) (message_of (source_in from source) x.0.0)) x.3 found))

-- ---- where reading stops

cut_of_messaged : (source : Source) (at : ℕ) (r : Read) → messaged source (counted_from at r) ≡ Err Cut → r ≡ Err Cut
cut_of_messaged source at (Ok x) is = absurd cc
cut_of_messaged source at (Err Cut) is = refl
cut_of_messaged source at (Err (Wrong place)) is = absurd cc

wrong_of_messaged : (source : Source) (at : ℕ) (r : Read) (place : ℕ) → messaged source (counted_from at r) ≡ Err (Wrong place) → (behind : ℕ) × (r ≡ Err (Wrong behind)) × (at + behind ≡ place)
wrong_of_messaged source at (Ok x) place is = absurd cc
wrong_of_messaged source at (Err Cut) place is = absurd cc
wrong_of_messaged source at (Err (Wrong behind)) place is = (behind, refl, cc)

four_cut : (rest : List ℕ) → IsBytes rest → four_in rest ≡ Err Cut → BeginFields 4 rest
four_cut [] fits is = begin_nothing
four_cut (byte ∷ bytes) fits is = texts_cut 4 (byte ∷ bytes) fits (sym (four_in-some (byte ∷ bytes) (omega arith)) ∙ is)

four_wrong : (rest : List ℕ) (place : ℕ) → IsBytes rest → four_in rest ≡ Err (Wrong place) → WronglyIn 4 rest place
four_wrong [] place fits is = let e = four_in-nothing in absurd cc
four_wrong (byte ∷ bytes) place fits is = texts_wrong 4 (byte ∷ bytes) place fits (sym (four_in-some (byte ∷ bytes) (omega arith)) ∙ is)

-- where the bytes end within a message, one begins with them
pub parts_cut : (from : Role) (bytes : List ℕ) → IsBytes bytes → parts_at from bytes ≡ Err Cut → Begins from bytes
parts_cut from bytes fits is = go (shape from bytes) where
  go : Shape from bytes → Begins from bytes
  go (differs place other) = let e = parts_differ from bytes place other in absurd cc
  go (short same fewer) =
      let front = front_is opening bytes same in
      let part : Begins from (opening ++ drop 5 bytes) = begins_short from (drop 5 bytes) (omega (arith, length-drop 5 bytes)) in
      Begins-front from bytes (drop (length bytes) opening) (subst (Begins from) (sym front) part)
  go (split source rest long whole) =
      let cut = cut_of_messaged (source_in from source) (5 + source_length from) (four_in rest) (sym (parts_split from bytes source rest long whole) ∙ is) in
      subst (Begins from) (sym whole) (begins_source from source rest long (four_cut rest (rest_fits from bytes source rest long whole fits) cut))

-- the wrong byte is the first one that is, whatever follows it
pub record WrongAt (from : Role) (bytes : List ℕ) (place : ℕ) : Type 0 where
  pub within : place < length bytes
  pub stays : (more : List ℕ) → parts_at from (take (place + 1) bytes ++ more) ≡ Err (Wrong place)
  pub before : Begins from (take place bytes)

wrong_opening : (from : Role) (bytes : List ℕ) (place : ℕ) → Differs opening bytes place → WrongAt from bytes place
wrong_opening from bytes place at = record {
  within = at.in_bytes;
  stays = λ more. parts_differ from (take (place + 1) bytes ++ more) place (at.stays more);
  before = Begins-front from (take place bytes) (drop place opening) (subst (Begins from) (sym at.before) (begins_short from [] (omega arith)));
}

wrong_split : (from : Role) (source rest : List ℕ) (place : ℕ) → length source ≡ source_length from → WronglyIn 4 rest place → WrongAt from (opening ++ (source ++ rest)) (5 + source_length from + place)
wrong_split from source rest place long wrong =
    let bytes : List ℕ = opening ++ (source ++ rest) in
    let at : ℕ = 5 + source_length from in
    let len : length bytes ≡ 5 + (length source + length rest) = omega (arith, length-append source rest) in
    let within : place < length rest = wrong.within in
    let regrouped : bytes ≡ (opening ++ source) ++ rest = sym (append_assoc opening source rest) in
    let front_long : length (opening ++ source) ≡ at = omega arith in
    let front = λ (n : ℕ).
    let cut : take (at + n) bytes ≡ opening ++ (source ++ take n rest) =
    ap (take (at + n)) regrouped ∙ ap (λ (k : ℕ). take (k + n) ((opening ++ source) ++ rest)) (sym front_long) ∙ take-append-add (opening ++ source) rest n ∙ append_assoc opening source (take n rest) in
    cut in
    record {
      within = omega arith;
      stays = λ more.
          let next : at + place + 1 ≡ at + (place + 1) = omega arith in
          let up_to : take (at + place + 1) bytes ++ more ≡ opening ++ (source ++ (take (place + 1) rest ++ more)) =
          ap (λ (k : ℕ). take k bytes ++ more) next ∙ ap (λ (b : List ℕ). b ++ more) (front (place + 1)) ∙ append_assoc opening (source ++ take (place + 1) rest) more ∙ ap (λ (b : List ℕ). opening ++ b) (append_assoc source (take (place + 1) rest) more) in
          let some : 0 < length (take (place + 1) rest ++ more) = omega (arith, length-append (take (place + 1) rest) more, length-take-le (place + 1) rest (omega arith)) in
          let four : four_in (take (place + 1) rest ++ more) ≡ Err (Wrong place) = four_in-some (take (place + 1) rest ++ more) some ∙ wrong.stays more in
          ap (parts_at from) up_to ∙ parts_at-split from source (take (place + 1) rest ++ more) long ∙ ap (λ (r : Read). messaged (source_in from source) (counted_from at r)) four;
      before = subst (Begins from) (sym (front place)) (begins_source from source (take place rest) long wrong.before);
    }

pub parts_wrong : (from : Role) (bytes : List ℕ) (place : ℕ) → IsBytes bytes → parts_at from bytes ≡ Err (Wrong place) → WrongAt from bytes place
parts_wrong from bytes place fits is = go (shape from bytes) where
  go : Shape from bytes → WrongAt from bytes place
  go (differs here other) =
      let e = parts_differ from bytes here other in
      let same : here ≡ place = cc in subst (WrongAt from bytes) same (wrong_opening from bytes here (first_differs opening bytes here other))
  go (short same fewer) = let e = parts_short from bytes same fewer in absurd cc
  go (split source rest long whole) =
      let wrong = wrong_of_messaged (source_in from source) (5 + source_length from) (four_in rest) place (sym (parts_split from bytes source rest long whole) ∙ is) in
      let found = wrong_split from source rest wrong.0 long (four_wrong rest wrong.0 (rest_fits from bytes source rest long whole fits) wrong.1) in
      subst (λ (b : List ℕ). WrongAt from b place) (sym whole) (subst (WrongAt from (opening ++ (source ++ rest))) wrong.2 found)
