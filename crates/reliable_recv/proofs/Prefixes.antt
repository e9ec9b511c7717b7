-- What is read of packets that carry a sender's pieces is a front of them.
use Rattle.std.proofs.Common.{◌≡◌, ℕ, zero, suc, ◌+◌, Bool, true, false, cond, eqb, ltb, List, [], ◌∷◌, ◌++◌, length, drop, Option, Some, None, refl, sym, ap, subst, ◌∙◌, arith}
use Rattle.std.specs.Prelude.{slice_get}
use Rattle.std.specs.List.{concat}
use Rattle.std.proofs.lemmas.List.{append_assoc}
use Rattle.std.proofs.lemmas.Bool.{eqb-true}
use Rattle.reliable_recv.specs.Receiving.{Arrival, payload_of, in_order_with, in_order, payloads, text, taken_after, all_taken, text_of}
use Rattle.reliable_recv.specs.Prefix.{CarryPieces, IsPrefix}

carried_when : (b : Bool) (pieces : List (List ℕ)) (a : Arrival) (o : Option (List ℕ)) (id : ℕ) (payload : List ℕ) → eqb a.0 id ≡ b → slice_get pieces a.0 ≡ Some a.1 →
    (o ≡ Some payload → slice_get pieces id ≡ Some payload) → cond b (Some a.1) o ≡ Some payload → slice_get pieces id ≡ Some payload
carried_when true pieces a o id payload is here rest some = ap (λ (k : ℕ). slice_get pieces k) (sym (eqb-true a.0 id is)) ∙ here ∙ some
carried_when false pieces a o id payload is here rest some = rest some

-- the payload of an id is the piece of this id
payload_is_piece : (pieces : List (List ℕ)) (taken : List Arrival) (id : ℕ) (payload : List ℕ) → CarryPieces pieces taken → payload_of taken id ≡ Some payload → slice_get pieces id ≡ Some payload
payload_is_piece pieces [] id payload carry some = absurd cc
payload_is_piece pieces (a ∷ taken) id payload carry some =
    carried_when (eqb a.0 id) pieces a (payload_of taken id) id payload refl carry.0 (payload_is_piece pieces taken id payload carry.1) some

drop_piece : (pieces : List (List ℕ)) (id : ℕ) (piece : List ℕ) → slice_get pieces id ≡ Some piece → drop id pieces ≡ piece ∷ drop (suc id) pieces
drop_piece [] id piece some = absurd cc
drop_piece (p ∷ pieces) zero piece some = let e : p ≡ piece = cc in ap (λ (t : List ℕ). t ∷ pieces) e
drop_piece (p ∷ pieces) (suc id) piece some = drop_piece pieces id piece some

-- the pieces from a place on begin with these
record BeginWith (front whole : List (List ℕ)) : Type 0 where
  rest : List (List ℕ)
  is : whole ≡ front ++ rest

begin_when : (o : Option (List ℕ)) (pieces rest : List (List ℕ)) (id : ℕ) → ((payload : List ℕ) → o ≡ Some payload → slice_get pieces id ≡ Some payload) →
    BeginWith rest (drop (suc id) pieces) → BeginWith (in_order_with o rest) (drop id pieces)
begin_when None pieces rest id piece more = record { rest = drop id pieces; is = refl }
begin_when (Some payload) pieces rest id piece more = record {
  rest = more.rest;
  is = drop_piece pieces id payload (piece payload refl) ∙ ap (λ (t : List (List ℕ)). payload ∷ t) more.is;
}

begin_in_order : (n : ℕ) (pieces : List (List ℕ)) (taken : List Arrival) (id : ℕ) → CarryPieces pieces taken → BeginWith (in_order n taken id) (drop id pieces)
unfolding in_order
begin_in_order zero pieces taken id carry = record { rest = drop id pieces; is = refl }
begin_in_order (suc n) pieces taken id carry =
    let next : id + 1 ≡ suc id = omega arith in
    begin_when (payload_of taken id) pieces (in_order n taken (id + 1)) id (λ payload some. payload_is_piece pieces taken id payload carry some)
    (subst (λ (k : ℕ). BeginWith (in_order n taken (id + 1)) (drop k pieces)) next (begin_in_order n pieces taken (id + 1) carry))

concat-append : (front rest : List (List ℕ)) → concat (front ++ rest) ≡ concat front ++ concat rest
concat-append [] rest = refl
concat-append (p ∷ front) rest = ap (λ (t : List ℕ). p ++ t) (concat-append front rest) ∙ sym (append_assoc p (concat front) (concat rest))

prefix_when : (front whole : List (List ℕ)) → BeginWith front whole → IsPrefix (concat (drop 1 front)) (concat (drop 1 whole))
prefix_when [] whole begin = record { rest = concat (drop 1 whole); follows = refl }
prefix_when (p ∷ front) whole begin = record {
  rest = concat begin.rest;
  follows = ap (λ (t : List (List ℕ)). concat (drop 1 t)) begin.is ∙ concat-append front begin.rest;
}

carry_push : (pieces : List (List ℕ)) (taken : List Arrival) (a : Arrival) → CarryPieces pieces taken → slice_get pieces a.0 ≡ Some a.1 → CarryPieces pieces (taken ++ a ∷ [])
carry_push pieces [] a carry here = (here, tt)
carry_push pieces (x ∷ taken) a carry here = (carry.0, carry_push pieces taken a carry.1 here)

carry_cond : (near : Bool) (pieces : List (List ℕ)) (taken : List Arrival) (a : Arrival) → CarryPieces pieces taken → slice_get pieces a.0 ≡ Some a.1 → CarryPieces pieces (cond near (taken ++ a ∷ []) taken)
carry_cond true pieces taken a carry here = carry_push pieces taken a carry here
carry_cond false pieces taken a carry here = carry

-- what is taken carries them too
carry_all : (pieces : List (List ℕ)) (arrivals taken : List Arrival) → CarryPieces pieces taken → CarryPieces pieces arrivals → CarryPieces pieces (all_taken taken arrivals)
unfolding all_taken
carry_all pieces [] taken carry more = carry
carry_all pieces (a ∷ arrivals) taken carry more =
    carry_all pieces arrivals (taken_after taken a) (carry_cond (ltb a.0 (length (payloads taken) + 12)) pieces taken a carry more.0) more.1

pub text_is_prefix : (pieces : List (List ℕ)) (arrivals : List Arrival) → CarryPieces pieces arrivals → IsPrefix (text_of arrivals) (concat (drop 1 pieces))
unfolding text_of text
text_is_prefix pieces arrivals carry =
    let taken = all_taken [] arrivals in
    prefix_when (payloads taken) pieces (begin_in_order (length taken) pieces taken 0 (carry_all pieces arrivals [] tt carry))
