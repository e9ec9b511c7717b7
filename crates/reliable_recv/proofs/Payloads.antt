-- The payload of an id, in lists that grow and shrink.
use Rattle.std.proofs.Common.{◌≡◌, ◌≢◌, ℕ, suc, ◌+◌, ◌<◌, Bool, true, false, cond, eqb, List, [], ◌∷◌, ◌++◌, length, get_or, take, drop, Option, Some, None, refl, sym, ap, ◌∙◌, subst, arith}
use Rattle.std.specs.Prelude.{is_some, IsSome, ◌||◌, MatchOption}
use Rattle.std.specs.Option.{option_or}
use Rattle.std.specs.List.{list_any, position, position_from, remove}
use Rattle.std.proofs.Math.Seq.{drop-cons}
use Rattle.std.proofs.lemmas.List.{take-append-drop}
use Rattle.std.proofs.lemmas.Bool.{ne_eqb, eqb-true}
use Rattle.std.proofs.lemmas.Iterator.Adapters.{position_from-zero}
use Rattle.reliable_recv.specs.Receiving.{Arrival, payload_of}

any_held_when : (b : Bool) (a : Arrival) (held : List Arrival) (id : ℕ) → list_any (λ (a : Arrival). eqb a.0 id) held ≡ is_some (payload_of held id) →
    (b || list_any (λ (a : Arrival). eqb a.0 id) held) ≡ is_some (cond b (Some a.1) (payload_of held id))
any_held_when true a held id rest = refl
any_held_when false a held id rest = rest

-- some packet has the id exactly where the id has a payload
pub any_held : (held : List Arrival) (id : ℕ) → list_any (λ (a : Arrival). eqb a.0 id) held ≡ is_some (payload_of held id)
any_held [] id = refl
any_held (a ∷ held) id = any_held_when (eqb a.0 id) a held id (any_held held id)

append_when : (b : Bool) (p : List ℕ) (xs ys : List Arrival) (id : ℕ) → payload_of (xs ++ ys) id ≡ option_or (payload_of xs id) (payload_of ys id) →
    cond b (Some p) (payload_of (xs ++ ys) id) ≡ option_or (cond b (Some p) (payload_of xs id)) (payload_of ys id)
append_when true p xs ys id rest = refl
append_when false p xs ys id rest = rest

-- the payload of an id in one list behind another
pub payload_of-append : (xs ys : List Arrival) (id : ℕ) → payload_of (xs ++ ys) id ≡ option_or (payload_of xs id) (payload_of ys id)
payload_of-append [] ys id = refl
payload_of-append (a ∷ xs) ys id = append_when (eqb a.0 id) a.1 xs ys id (payload_of-append xs ys id)

-- what is known of the first place of an id
pub record IsPlace (held : List Arrival) (id place : ℕ) : Type 0 where
  pub within : place < length held
  pub is_id : (d : Arrival) → (get_or held place d).0 ≡ id
  pub payload : (d : Arrival) → payload_of held id ≡ Some (get_or held place d).1

-- a place counted from a number is that of the list
record IsPlaceFrom (from : ℕ) (held : List Arrival) (id place : ℕ) : Type 0 where
  at : ℕ
  is : place ≡ from + at
  here : IsPlace held id at

first_place_when : (b : Bool) (a : Arrival) (held : List Arrival) (id from : ℕ) → eqb a.0 id ≡ b →
    MatchOption (position_from (λ (a : Arrival). eqb a.0 id) (from + 1) held) (payload_of held id ≡ None) (IsPlaceFrom (from + 1) held id) →
    MatchOption (cond b (Some from) (position_from (λ (a : Arrival). eqb a.0 id) (from + 1) held)) (cond b (Some a.1) (payload_of held id) ≡ None) (IsPlaceFrom from (a ∷ held) id)
first_place_when true a held id from is rest = record {
  at = 0;
  is = omega arith;
  here = record { within = omega arith; is_id = λ d. eqb-true a.0 id is; payload = λ d. rw is refl };
}
first_place_when false a held id from is rest = later (position_from (λ (a : Arrival). eqb a.0 id) (from + 1) held) rest
  where
    later : (o : Option ℕ) → MatchOption o (payload_of held id ≡ None) (IsPlaceFrom (from + 1) held id) → MatchOption o (payload_of held id ≡ None) (IsPlaceFrom from (a ∷ held) id)
    later None rest = rest
    later (Some i) rest = record {
      at = suc rest.at;
      is = omega (arith, rest.is);
      here = record { within = omega (arith, rest.here.within); is_id = rest.here.is_id; payload = λ d. rw is (rest.here.payload d) };
    }

first_place : (held : List Arrival) (id from : ℕ) → MatchOption (position_from (λ (a : Arrival). eqb a.0 id) from held) (payload_of held id ≡ None) (IsPlaceFrom from held id)
first_place [] id from = refl
first_place (a ∷ held) id from = first_place_when (eqb a.0 id) a held id from refl (first_place held id (from + 1))

-- the first place of an id, or no payload
pub place_found : (held : List Arrival) (id : ℕ) → MatchOption (position (λ (a : Arrival). eqb a.0 id) held) (payload_of held id ≡ None) (IsPlace held id)
place_found held id =
    subst (λ (o : Option ℕ). MatchOption o (payload_of held id ≡ None) (IsPlace held id)) (sym (position_from-zero (λ (a : Arrival). eqb a.0 id) held))
    (counted (position_from (λ (a : Arrival). eqb a.0 id) 0 held) (first_place held id 0))
  where
    counted : (o : Option ℕ) → MatchOption o (payload_of held id ≡ None) (IsPlaceFrom 0 held id) → MatchOption o (payload_of held id ≡ None) (IsPlace held id)
    counted None none = none
    counted (Some i) place = subst (IsPlace held id) (let e : place.at ≡ i = omega (arith, place.is) in e) place.here

pub place_at : (held : List Arrival) (id place : ℕ) → Some place ≡ position (λ (a : Arrival). eqb a.0 id) held → IsPlace held id place
place_at held id place is = subst (λ (o : Option ℕ). MatchOption o (payload_of held id ≡ None) (IsPlace held id)) (sym is) (place_found held id)

pub none_at : (held : List Arrival) (id : ℕ) → None ≡ position (λ (a : Arrival). eqb a.0 id) held → payload_of held id ≡ None
none_at held id is = subst (λ (o : Option ℕ). MatchOption o (payload_of held id ≡ None) (IsPlace held id)) (sym is) (place_found held id)

-- a packet of another id changes no payload of this one
pub payload_without : (xs ys : List Arrival) (a : Arrival) (id : ℕ) → a.0 ≢ id → payload_of (xs ++ a ∷ ys) id ≡ payload_of (xs ++ ys) id
payload_without xs ys a id other =
    payload_of-append xs (a ∷ ys) id ∙ (let no : eqb a.0 id ≡ false = ne_eqb a.0 id other in rw no (sym (payload_of-append xs ys id)))

-- so does one that is taken out
pub payload_of-remove : (held : List Arrival) (id place other : ℕ) → IsPlace held id place → other ≢ id → payload_of (remove held place) other ≡ payload_of held other
payload_of-remove held id place other here ne =
    let d : Arrival = (0, []) in
    let within : place < length held = here.within in
    let split : held ≡ take place held ++ get_or held place d ∷ drop (suc place) held =
    sym (take-append-drop place held) ∙ ap (λ (t : List Arrival). take place held ++ t) (drop-cons held place d within) in
    sym (payload_without (take place held) (drop (suc place) held) (get_or held place d) other (λ same. ne (sym same ∙ here.is_id d)))
    ∙ ap (λ (t : List Arrival). payload_of t other) (sym split)

again_when : (o : Option (List ℕ)) (same : Bool) (payload : List ℕ) → (same ≡ true → IsSome o) → option_or o (cond same (Some payload) None) ≡ o
again_when None true payload here = let no : is_some {T = List ℕ} None ≡ true = here refl in absurd cc
again_when None false payload here = refl
again_when (Some p) same payload here = refl

-- a repeated packet changes no payload
pub payload_again : (held : List Arrival) (id k : ℕ) (payload : List ℕ) → (id ≡ k → IsSome (payload_of held k)) → payload_of (held ++ (id, payload) ∷ []) k ≡ payload_of held k
payload_again held id k payload here =
    payload_of-append held ((id, payload) ∷ []) k ∙ again_when (payload_of held k) (eqb id k) payload (λ same. here (eqb-true id k same))

some_or : (o other : Option (List ℕ)) → IsSome o → IsSome (option_or o other)
some_or None other some = let no : is_some {T = List ℕ} None ≡ true = some in absurd cc
some_or (Some p) other some = refl

-- an id that has a payload keeps having one
pub payload_stays : (xs ys : List Arrival) (k : ℕ) → IsSome (payload_of xs k) → IsSome (payload_of (xs ++ ys) k)
payload_stays xs ys k some = rw (payload_of-append xs ys k) (some_or (payload_of xs k) (payload_of ys k) some)

-- lists with the same payload of an id, with the same packets behind them
pub payload_behind : (xs ys more : List Arrival) (k : ℕ) → payload_of xs k ≡ payload_of ys k → payload_of (xs ++ more) k ≡ payload_of (ys ++ more) k
payload_behind xs ys more k same =
    payload_of-append xs more k ∙ ap (λ (o : Option (List ℕ)). option_or o (payload_of more k)) same ∙ sym (payload_of-append ys more k)
