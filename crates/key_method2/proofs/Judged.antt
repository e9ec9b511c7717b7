-- What reading answers is what has to be answered.
use Rattle.std.proofs.Common.{◌≡◌, ℕ, zero, suc, ◌+◌, ◌≤◌, ◌⊎◌, List, [], ◌∷◌, ◌++◌, length, take, drop, Result, Ok, Err, refl, sym, ap, subst, ◌∙◌, inl, inr, arith}
use Rattle.std.specs.Prelude.{◌↔◌}
use Rattle.std.proofs.lemmas.Bool.{cases_lt}
use Rattle.std.proofs.lemmas.List.{take-append-drop, append-nil}
use Rattle.vpn_base.specs.declared.names.Role.{Role}
use Rattle.key_method2.specs.declared.message.Km2.{Km2}
use Rattle.key_method2.specs.declared.message.Km2Bad.{Km2Bad}
use Rattle.key_method2.specs.declared.message.Km2Read.{Km2Read}
use Rattle.key_method2.specs.declared.message.Km2Read.TheVariants.{Whole, More, Bad}
use Rattle.key_method2.specs.declared.stop.Stop.{Stop}
use Rattle.key_method2.specs.declared.stop.Stop.TheVariants.{Cut, Wrong}
use Rattle.key_method2.specs.Message.{HasAllTexts, EndsEarly, Begins}
use Rattle.key_method2.specs.Judging.{IsFound, NoneInFront, IsCut, IsWrongAt, kind_at}
use Rattle.key_method2.specs.Reading.{parts_at, answer_to, reading}
use Rattle.key_method2.proofs.Bytes.{IsBytes}
use Rattle.key_method2.proofs.Laws.{message_again, Begins-front, parts_taken, parts_cut, WrongAt, parts_wrong}

abbrev Parts : Type 0
Parts = Result (Km2 × ℕ) Stop

abbrev got : Km2 × ℕ → Parts
got x = Ok x

-- ---- messages are read

all_read : (from : Role) (bytes front rest : List ℕ) (message : Km2) → bytes ≡ front ++ rest → HasAllTexts from front message → parts_at from bytes ≡ Ok (message, length front)
all_read from bytes front rest message whole is = ap (parts_at from) whole ∙ message_again from 4 front rest message is (omega arith) (omega arith) (λ fewer. absurd (omega arith))

early_read : (from : Role) (bytes : List ℕ) (message : Km2) → EndsEarly from bytes message → parts_at from bytes ≡ Ok (message, length bytes)
early_read from bytes message is = ap (parts_at from) (sym (append-nil bytes)) ∙ message_again from is.0 bytes [] message is.3 is.1 (omega (arith, is.2)) (λ fewer. refl)

-- where reading stops no message begins, nor is one
begun_read : (from : Role) (bytes rest : List ℕ) (message : Km2) → HasAllTexts from (bytes ++ rest) message ⊎ EndsEarly from (bytes ++ rest) message → parts_at from (bytes ++ rest) ≡ Ok (message, length (bytes ++ rest))
begun_read from bytes rest message (inl is) = all_read from (bytes ++ rest) (bytes ++ rest) [] message (sym (append-nil (bytes ++ rest))) is
begun_read from bytes rest message (inr is) = early_read from (bytes ++ rest) message is

none_begins : (from : Role) (bytes : List ℕ) (place : ℕ) → WrongAt from bytes place → ¬ Begins from (take (place + 1) bytes)
none_begins from bytes place wrong begins =
    let read = begun_read from (take (place + 1) bytes) begins.0 begins.1 begins.2 in
    let stopped = wrong.stays begins.0 in
    absurd cc

none_found : (from : Role) (bytes : List ℕ) (stop : Stop) → parts_at from bytes ≡ Err stop → NoneInFront from bytes × ((message : Km2) → ¬ EndsEarly from bytes message)
none_found from bytes stop is = (
  (λ front rest message whole has. let read = all_read from bytes front rest message whole has in absurd cc),
  (λ message has. let read = early_read from bytes message has in absurd cc),
)

-- ---- what no front has and no message is

-- a message at the front is none where none stands there
not_found : (from : Role) (bytes : List ℕ) (message : Km2) (used : ℕ) → IsFound from bytes message used → NoneInFront from bytes → EndsEarly from bytes message
not_found from bytes message used found none =
    elim found.is_message [
      | inl has ↦ absurd (none (take used bytes) (drop used bytes) message (sym (take-append-drop used bytes)) has)
      | inr early ↦ early.1
    ]

early_begins : (from : Role) (bytes : List ℕ) (message : Km2) → EndsEarly from bytes message → Begins from bytes
early_begins from bytes message is = ([], message, inr (subst (λ (b : List ℕ). EndsEarly from b message) (sym (append-nil bytes)) is))

-- what some message begins with up to a place, it begins with up to an earlier one
Begins-take : (from : Role) (bytes : List ℕ) (n : ℕ) → Begins from bytes → Begins from (take n bytes)
Begins-take from bytes n begins = Begins-front from (take n bytes) (drop n bytes) (subst (Begins from) (sym (take-append-drop n bytes)) begins)

take_twice : (m n : ℕ) (bytes : List ℕ) → m ≤ n → take m (take n bytes) ≡ take m bytes
take_twice zero n bytes le = refl
take_twice (suc m) zero bytes le = absurd (omega arith)
take_twice (suc m) (suc n) [] le = refl
take_twice (suc m) (suc n) (byte ∷ bytes) le = ap (λ (rest : List ℕ). byte ∷ rest) (take_twice m n bytes (omega arith))

-- ---- the clauses

pub is_found : (from : Role) (bytes : List ℕ) (read : Km2Read) → IsBytes bytes → read ≡ reading from bytes
    → (message : Km2) (used : ℕ) → read ≡ Whole message used → IsFound from bytes message used
unfolding reading
is_found from bytes read fits is = λ message used whole. go message used (parts_at from bytes) refl (sym is ∙ whole) where
  go : (message : Km2) (used : ℕ) (r : Parts) → parts_at from bytes ≡ r → answer_to r ≡ Whole message used → IsFound from bytes message used
  go message used (Ok x) e answer =
      let same : x.0 ≡ message = cc in
      let end : x.1 ≡ used = cc in
      subst (λ (m : Km2). IsFound from bytes m used) same (subst (IsFound from bytes x.0) end (parts_taken from bytes x.0 x.1 fits e))
  go message used (Err Cut) e answer = absurd cc
  go message used (Err (Wrong place)) e answer = absurd cc

pub all_texts_found : (from : Role) (bytes : List ℕ) (read : Km2Read) → read ≡ reading from bytes
    → (front rest : List ℕ) (message : Km2) → bytes ≡ front ++ rest → HasAllTexts from front message → read ≡ Whole message (length front)
unfolding reading
all_texts_found from bytes read is = λ front rest message whole has. is ∙ ap answer_to (all_read from bytes front rest message whole has)

pub early_found : (from : Role) (bytes : List ℕ) (read : Km2Read) → read ≡ reading from bytes
    → (message : Km2) → EndsEarly from bytes message → read ≡ Whole message (length bytes)
unfolding reading
early_found from bytes read is = λ message has. is ∙ ap answer_to (early_read from bytes message has)

pub is_more : (from : Role) (bytes : List ℕ) (read : Km2Read) → IsBytes bytes → read ≡ reading from bytes → (read ≡ More) ↔ IsCut from bytes
unfolding reading
is_more from bytes read fits is = ((λ more. there (parts_at from bytes) refl (sym is ∙ more)), (λ cut. is ∙ back cut (parts_at from bytes) refl)) where
  there : (r : Parts) → parts_at from bytes ≡ r → answer_to r ≡ More → IsCut from bytes
  there (Ok x) e answer = absurd cc
  there (Err Cut) e answer = record { begins = parts_cut from bytes fits e; none_early = (none_found from bytes Cut e).1; none_in_front = (none_found from bytes Cut e).0 }
  there (Err (Wrong place)) e answer = absurd cc

  back : IsCut from bytes → (r : Parts) → parts_at from bytes ≡ r → answer_to r ≡ More
  back cut (Ok x) e = absurd (cut.none_early x.0 (not_found from bytes x.0 x.1 (parts_taken from bytes x.0 x.1 fits e) cut.none_in_front))
  back cut (Err Cut) e = refl
  back cut (Err (Wrong place)) e = absurd (none_begins from bytes place (parts_wrong from bytes place fits e) (Begins-take from bytes (place + 1) cut.begins))

pub is_bad : (from : Role) (bytes : List ℕ) (read : Km2Read) → IsBytes bytes → read ≡ reading from bytes
    → (place : ℕ) (kind : Km2Bad) → (read ≡ Bad place kind) ↔ IsWrongAt from bytes place kind
unfolding reading
is_bad from bytes read fits is = λ place kind. ((λ bad. there place kind (parts_at from bytes) refl (sym is ∙ bad)), (λ wrong. is ∙ back place kind wrong (parts_at from bytes) refl)) where
  there : (place : ℕ) (kind : Km2Bad) (r : Parts) → parts_at from bytes ≡ r → answer_to r ≡ Bad place kind → IsWrongAt from bytes place kind
  there place kind (Ok x) e answer = absurd cc
  there place kind (Err Cut) e answer = absurd cc
  there place kind (Err (Wrong here)) e answer =
      let wrong = parts_wrong from bytes here fits e in
      let same : here ≡ place = cc in
      let is_kind : kind_at here ≡ kind = cc in
      subst (λ (p : ℕ). IsWrongAt from bytes p kind) same
      (record { before = wrong.before; at_place = none_begins from bytes here wrong; none_in_front = (none_found from bytes (Wrong here) e).0; is_kind = sym is_kind })

  back : (place : ℕ) (kind : Km2Bad) → IsWrongAt from bytes place kind → (r : Parts) → parts_at from bytes ≡ r → answer_to r ≡ Bad place kind
  back place kind wrong (Ok x) e =
      let early = not_found from bytes x.0 x.1 (parts_taken from bytes x.0 x.1 fits e) wrong.none_in_front in
      absurd (wrong.at_place (Begins-take from bytes (place + 1) (early_begins from bytes x.0 early)))
  back place kind wrong (Err Cut) e = absurd (wrong.at_place (Begins-take from bytes (place + 1) (parts_cut from bytes fits e)))
  back place kind wrong (Err (Wrong here)) e =
      let at = parts_wrong from bytes here fits e in
      elim (cases_lt here place) [
        | inl sooner ↦ absurd (none_begins from bytes here at (subst (Begins from) (take_twice (here + 1) place bytes (omega arith)) (Begins-take from (take place bytes) (here + 1) wrong.before)))
        | inr not_sooner ↦ elim (cases_lt place here) [
          | inl later ↦ absurd (wrong.at_place (subst (Begins from) (take_twice (place + 1) here bytes (omega arith)) (Begins-take from (take here bytes) (place + 1) at.before)))
          | inr not_later ↦ let same : here ≡ place = omega arith in ap (λ (p : ℕ). Bad p (kind_at p)) same ∙ ap (Bad place) (sym wrong.is_kind)
        ]
      ]
