-- The payloads that are in order.
use Rattle.std.proofs.Common.{◌≡◌, ℕ, zero, suc, ◌+◌, ◌-◌, ◌<◌, ◌≤◌, Bool, true, false, cond, eqb, List, [], ◌∷◌, ◌++◌, length, drop, Option, Some, None, refl, sym, ap, ◌∙◌, arith, add-zero, inl, inr}
use Rattle.std.specs.Prelude.{is_some, IsSome, ◌||◌, map}
use Rattle.std.specs.Option.{option_or}
use Rattle.std.specs.List.{concat, list_any}
use Rattle.std.proofs.lemmas.List.{append_assoc, append-nil, length-map}
use Rattle.std.proofs.lemmas.Map.Steps.{le-length_from_below}
use Rattle.std.proofs.lemmas.Bool.{cases_eq, ne_eqb}
use Rattle.reliable_recv.specs.Receiving.{Arrival, payload_of, in_order_with, in_order, payloads}
use Rattle.reliable_recv.specs.Runs.{carried}
use Rattle.reliable_recv.proofs.Payloads.{payload_of-append}

-- so many ids from this one on have payloads
abbrev pub AreHeld : List Arrival → ℕ → ℕ → Type 0
AreHeld taken from n = (k : ℕ) → from ≤ k → k < from + n → IsSome (payload_of taken k)

held_first : (taken : List Arrival) (from n : ℕ) → AreHeld taken from (suc n) → IsSome (payload_of taken from)
held_first taken from n held = held from (omega arith) (omega arith)

held_rest : (taken : List Arrival) (from n : ℕ) → AreHeld taken from (suc n) → AreHeld taken (from + 1) n
held_rest taken from n held = λ k le lt. held k (omega arith) (omega arith)

-- one payload more
in_order-push_with : (o : Option (List ℕ)) (rest more : List (List ℕ)) (payload : List ℕ) → IsSome o → more ≡ rest ++ payload ∷ [] → in_order_with o more ≡ in_order_with o rest ++ payload ∷ []
in_order-push_with None rest more payload some is = let no : is_some {T = List ℕ} None ≡ true = some in absurd cc
in_order-push_with (Some p) rest more payload some is = ap (λ (t : List (List ℕ)). p ∷ t) is

pub in_order-push : (n : ℕ) (taken : List Arrival) (from : ℕ) (payload : List ℕ) → AreHeld taken from n → payload_of taken (from + n) ≡ Some payload →
    in_order (suc n) taken from ≡ in_order n taken from ++ payload ∷ []
unfolding in_order
in_order-push zero taken from payload held some = let e : payload_of taken from ≡ Some payload = rw add-zero at some in rw e refl
in_order-push (suc n) taken from payload held some =
    let next : from + suc n ≡ from + 1 + n = omega arith in
    in_order-push_with (payload_of taken from) (in_order n taken (from + 1)) (in_order (suc n) taken (from + 1)) payload (held_first taken from n held)
    (in_order-push n taken (from + 1) payload (held_rest taken from n held) (rw next at some))

length-in_order_with : (o : Option (List ℕ)) (rest : List (List ℕ)) (n : ℕ) → IsSome o → length rest ≡ n → length (in_order_with o rest) ≡ suc n
length-in_order_with None rest n some is = let no : is_some {T = List ℕ} None ≡ true = some in absurd cc
length-in_order_with (Some p) rest n some is = ap suc is

pub length-in_order : (n : ℕ) (taken : List Arrival) (from : ℕ) → AreHeld taken from n → length (in_order n taken from) ≡ n
unfolding in_order
length-in_order zero taken from held = refl
length-in_order (suc n) taken from held =
    length-in_order_with (payload_of taken from) (in_order n taken (from + 1)) n (held_first taken from n held) (length-in_order n taken (from + 1) (held_rest taken from n held))

none_in_order : (m : ℕ) (taken : List Arrival) (from : ℕ) → payload_of taken from ≡ None → in_order m taken from ≡ []
unfolding in_order
none_in_order zero taken from none = refl
none_in_order (suc m) taken from none = rw none refl

-- it ends at the first id that has none
ends_there : (n m : ℕ) (taken : List Arrival) (from : ℕ) → payload_of taken (from + n) ≡ None → in_order (n + m) taken from ≡ in_order n taken from
unfolding in_order
ends_there zero m taken from none =
    let zero_more : 0 + m ≡ m = omega arith in
    ap (λ (t : ℕ). in_order t taken from) zero_more ∙ none_in_order m taken from (rw add-zero at none)
ends_there (suc n) m taken from none =
    let next : from + suc n ≡ from + 1 + n = omega arith in
    let more : suc n + m ≡ suc (n + m) = omega arith in
    ap (λ (t : ℕ). in_order t taken from) more
    ∙ ap (λ (t : List (List ℕ)). in_order_with (payload_of taken from) t) (ends_there n m taken (from + 1) (rw next at none))

again_with : (o : Option (List ℕ)) (taken : List Arrival) (from : ℕ) (rest : List (List ℕ)) → payload_of taken from ≡ o → in_order (length rest) taken (from + 1) ≡ rest →
    in_order (length (in_order_with o rest)) taken from ≡ in_order_with o rest
unfolding in_order
again_with None taken from rest is same = refl
again_with (Some p) taken from rest is same = rw is (ap (λ (t : List (List ℕ)). p ∷ t) same)

in_order_again : (n : ℕ) (taken : List Arrival) (from : ℕ) → in_order (length (in_order n taken from)) taken from ≡ in_order n taken from
unfolding in_order
in_order_again zero taken from = refl
in_order_again (suc n) taken from = again_with (payload_of taken from) taken from (in_order n taken (from + 1)) refl (in_order_again n taken (from + 1))

-- as many as there are, read again
pub payloads_again : (taken : List Arrival) → in_order (length (payloads taken)) taken 0 ≡ payloads taken
payloads_again taken = in_order_again (length taken) taken 0

same_with : (o o' : Option (List ℕ)) (rest rest' : List (List ℕ)) → o' ≡ o → rest' ≡ rest → in_order_with o' rest' ≡ in_order_with o rest
same_with o o' rest rest' same alike = rw (same, alike) refl

stays_some : (o other : Option (List ℕ)) → IsSome o → option_or o other ≡ o
stays_some None other some = let no : is_some {T = List ℕ} None ≡ true = some in absurd cc
stays_some (Some p) other some = refl

-- packets that come later change nothing of it
pub in_order-append : (n : ℕ) (taken more : List Arrival) (from : ℕ) → AreHeld taken from n → in_order n (taken ++ more) from ≡ in_order n taken from
unfolding in_order
in_order-append zero taken more from held = refl
in_order-append (suc n) taken more from held =
    same_with (payload_of taken from) (payload_of (taken ++ more) from) (in_order n taken (from + 1)) (in_order n (taken ++ more) (from + 1))
    (payload_of-append taken more from ∙ stays_some (payload_of taken from) (payload_of more from) (held_first taken from n held))
    (in_order-append n taken more (from + 1) (held_rest taken from n held))

-- ---- so many ids want as many packets

eqb_comm : (m n : ℕ) → eqb m n ≡ eqb n m
eqb_comm m n = elim (cases_eq m n) [
  | inl same ↦ rw same refl
  | inr apart ↦ ne_eqb m n apart ∙ sym (ne_eqb n m (λ same. apart (sym same)))
]

-- an id is among those of the packets exactly where it has a payload
any_id : (taken : List Arrival) (id : ℕ) → list_any (eqb id) (map (λ (a : Arrival). a.0) taken) ≡ is_some (payload_of taken id)
any_id [] id = refl
any_id (a ∷ taken) id = any_id_when (eqb id a.0) (eqb a.0 id) a.1 (payload_of taken id) (list_any (eqb id) (map (λ (a : Arrival). a.0) taken)) (eqb_comm id a.0) (any_id taken id)
  where
    any_id_when : (b c : Bool) (payload : List ℕ) (o : Option (List ℕ)) (any : Bool) → b ≡ c → any ≡ is_some o → (b || any) ≡ is_some (cond c (Some payload) o)
    any_id_when true c payload o any same rest = rw (sym same) refl
    any_id_when false c payload o any same rest = rw (sym same) rest

pub held_at_most : (n : ℕ) (taken : List Arrival) → AreHeld taken 0 n → n ≤ length taken
held_at_most n taken held =
    omega (arith, length-map taken (λ (a : Arrival). a.0), le-length_from_below (map (λ (a : Arrival). a.0) taken) n (λ k lt. any_id taken k ∙ held k (omega arith) (omega arith)))

-- the payloads in order are as many as the ids below the first that has none
pub payloads_are : (n : ℕ) (taken : List Arrival) → AreHeld taken 0 n → payload_of taken n ≡ None → payloads taken ≡ in_order n taken 0
payloads_are n taken held none =
    let le = held_at_most n taken held in
    let whole : length taken ≡ n + (length taken - n) = omega (arith, le) in
    let at_end : payload_of taken (0 + n) ≡ None = let e : 0 + n ≡ n = omega arith in rw e none in
    ap (λ (t : ℕ). in_order t taken 0) whole ∙ ends_there n (length taken - n) taken 0 at_end

-- ---- the text

concat-push : (pieces : List (List ℕ)) (piece : List ℕ) → concat (pieces ++ piece ∷ []) ≡ concat pieces ++ piece
concat-push [] piece = append-nil piece
concat-push (p ∷ pieces) piece = ap (λ (t : List ℕ). p ++ t) (concat-push pieces piece) ∙ sym (append_assoc p (concat pieces) piece)

carried-push : (n : ℕ) (pieces : List (List ℕ)) (piece : List ℕ) → length pieces ≡ n → concat (drop 1 (pieces ++ piece ∷ [])) ≡ concat (drop 1 pieces) ++ carried n piece
carried-push zero [] piece is = refl
carried-push (suc n) [] piece is = absurd (omega arith)
carried-push zero (p ∷ pieces) piece is = absurd (omega arith)
carried-push (suc n) (p ∷ pieces) piece is = concat-push pieces piece

-- the text with one payload more
pub text-push : (n : ℕ) (taken : List Arrival) (payload : List ℕ) → AreHeld taken 0 n → payload_of taken n ≡ Some payload →
    concat (drop 1 (in_order (suc n) taken 0)) ≡ concat (drop 1 (in_order n taken 0)) ++ carried n payload
text-push n taken payload held some =
    let at_end : payload_of taken (0 + n) ≡ Some payload = let e : 0 + n ≡ n = omega arith in rw e some in
    ap (λ (t : List (List ℕ)). concat (drop 1 t)) (in_order-push n taken 0 payload held at_end)
    ∙ carried-push n (in_order n taken 0) payload (length-in_order n taken 0 held)

held_here : (o : Option (List ℕ)) (taken : List Arrival) (from k : ℕ) (rest : List (List ℕ)) → payload_of taken from ≡ o →
    ((k : ℕ) → from + 1 ≤ k → k < from + 1 + length rest → IsSome (payload_of taken k)) → from ≤ k → k < from + length (in_order_with o rest) → IsSome (payload_of taken k)
held_here None taken from k rest is more le lt = absurd (omega arith)
held_here (Some p) taken from k rest is more le lt = elim (cases_eq k from) [
  | inl same ↦ rw same (rw is refl)
  | inr other ↦ more k (omega (arith, other)) (omega arith)
]

-- each id of the payloads in order has one
pub in_order_held : (n : ℕ) (taken : List Arrival) (from k : ℕ) → from ≤ k → k < from + length (in_order n taken from) → IsSome (payload_of taken k)
unfolding in_order
in_order_held zero taken from k le lt = absurd (omega arith)
in_order_held (suc n) taken from k le lt =
    held_here (payload_of taken from) taken from k (in_order n taken (from + 1)) refl (λ i low high. in_order_held n taken (from + 1) i low high) le lt
