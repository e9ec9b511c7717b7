-- What holds of every side, kept.
use Rattle.std.proofs.Common.{◌≡◌, ◌≢◌, ℕ, zero, suc, ◌+◌, ◌<◌, ◌≤◌, Bool, true, false, cond, eqb, ltb, leb, List, [], ◌∷◌, ◌++◌, length, get_or, Option, Some, None, refl, sym, ap, subst, ◌∙◌, arith}
use Rattle.std.specs.Prelude.{is_some, IsSome, ◌||◌, MatchOption}
use Rattle.std.specs.Option.{option_or}
use Rattle.std.specs.List.{remove, position}
use Rattle.std.proofs.lemmas.Bool.{eqb-true, ne_eqb}
use Rattle.std.proofs.lemmas.List.{length-append}
use Rattle.std.proofs.lemmas.List.Edits.{length-remove}
use Rattle.reliable_recv.specs.declared.receiving.Got.TheVariants.{New, Repeat, Ahead}
use Rattle.reliable_recv.specs.Receiving.{Arrival, Receiving, payload_of, got}
use Rattle.reliable_recv.specs.internal.Sound.{AreOnce, AreNear}
use Rattle.reliable_recv.proofs.Payloads.{IsPlace, place_found, payload_of-append, payload_of-remove}

none_or : (o other : Option (List ℕ)) → o ≡ None → other ≡ None → option_or o other ≡ None
none_or o other first second = rw (first, second) refl

-- an id that has no payload has another id than the first packet
apart_when : (b : Bool) (p : List ℕ) (o : Option (List ℕ)) → cond b (Some p) o ≡ None → (b ≡ false) × (o ≡ None)
apart_when true p o none = absurd cc
apart_when false p o none = (refl, none)

one_apart : (a x : Arrival) → eqb x.0 a.0 ≡ false → payload_of (a ∷ []) x.0 ≡ None
one_apart a x apart =
    let other : eqb a.0 x.0 ≡ false = ne_eqb a.0 x.0 (λ same. let yes : eqb x.0 a.0 ≡ true = let e : x.0 ≡ a.0 = sym same in grind arith in absurd cc) in rw other refl

once_push : (held : List Arrival) (a : Arrival) → AreOnce held → payload_of held a.0 ≡ None → AreOnce (held ++ a ∷ [])
once_push [] a once none = (refl, tt)
once_push (x ∷ held) a once none =
    let parts = apart_when (eqb x.0 a.0) x.1 (payload_of held a.0) none in
    (payload_of-append held (a ∷ []) x.0 ∙ none_or (payload_of held x.0) (payload_of (a ∷ []) x.0) once.0 (one_apart a x parts.0), once_push held a once.1 parts.1)

some_of : (o : Option (List ℕ)) (same : Bool) (payload : List ℕ) (P : Type 0) → (IsSome o → P) → (same ≡ true → P) → IsSome (option_or o (cond same (Some payload) None)) → P
some_of (Some p) same payload P here there some = here refl
some_of None true payload P here there some = there refl
some_of None false payload P here there some = let no : is_some {T = List ℕ} None ≡ true = some in absurd cc

near_push : (read : ℕ) (held : List Arrival) (id : ℕ) (payload : List ℕ) → AreNear read held → read ≤ id → id < read + 12 → AreNear read (held ++ (id, payload) ∷ [])
near_push read held id payload near le lt = λ k some.
    some_of (payload_of held k) (eqb id k) payload ((read ≤ k) × (k < read + 12)) (near k)
    (λ same. let e : id ≡ k = eqb-true id k same in (omega (arith, e), omega (arith, e)))
    (subst IsSome (payload_of-append held ((id, payload) ∷ []) k) some)

-- what has no payload has none with a packet less
none_less : (held : List Arrival) (place k : ℕ) → payload_of held k ≡ None → payload_of (remove held place) k ≡ None
none_less [] zero k none = none
none_less [] (suc place) k none = none
none_less (x ∷ held) zero k none = (apart_when (eqb x.0 k) x.1 (payload_of held k) none).1
none_less (x ∷ held) (suc place) k none =
    let parts = apart_when (eqb x.0 k) x.1 (payload_of held k) none in rw parts.0 (none_less held place k parts.1)

pub once_less : (held : List Arrival) (place : ℕ) → AreOnce held → AreOnce (remove held place)
once_less [] zero once = tt
once_less [] (suc place) once = tt
once_less (x ∷ held) zero once = once.1
once_less (x ∷ held) (suc place) once = (none_less held place x.0 once.0, once_less held place once.1)

there_is : (held : List Arrival) (place : ℕ) (d : Arrival) → place < length held → IsSome (payload_of held (get_or held place d).0)
there_is [] place d within = absurd (omega arith)
there_is (x ∷ held) zero d within = let same : eqb x.0 x.0 ≡ true = grind arith in rw same refl
there_is (x ∷ held) (suc place) d within = some_when (eqb x.0 (get_or held place d).0) (there_is held place d (omega arith))
  where
    some_when : (b : Bool) → IsSome (payload_of held (get_or held place d).0) → IsSome (cond b (Some x.1) (payload_of held (get_or held place d).0))
    some_when true rest = refl
    some_when false rest = rest

-- the id that is taken out has no payload then
taken_out : (held : List Arrival) (place : ℕ) (d : Arrival) → AreOnce held → place < length held → payload_of (remove held place) (get_or held place d).0 ≡ None
taken_out [] place d once within = absurd (omega arith)
taken_out (x ∷ held) zero d once within = once.0
taken_out (x ∷ held) (suc place) d once within =
    let k = (get_or held place d).0 in
    let other : eqb x.0 k ≡ false =
    ne_eqb x.0 k (λ same. let none : payload_of held k ≡ None = ap (λ (i : ℕ). payload_of held i) (sym same) ∙ once.0 in
    let some : IsSome (payload_of held k) = there_is held place d (omega arith) in let no : is_some {T = List ℕ} None ≡ true = ap is_some (sym none) ∙ some in absurd cc) in
    rw other (taken_out held place d once.1 (omega arith))

pub none_is_left : (held : List Arrival) (id place : ℕ) → AreOnce held → IsPlace held id place → payload_of (remove held place) id ≡ None
none_is_left held id place once here =
    let d : Arrival = (0, []) in
    ap (λ (k : ℕ). payload_of (remove held place) k) (sym (here.is_id d)) ∙ taken_out held place d once here.within

-- ids among n numbers that come once are at most n
at_most : (n low : ℕ) (held : List Arrival) → AreOnce held → ((id : ℕ) → IsSome (payload_of held id) → (low ≤ id) × (id < low + n)) → length held ≤ n
at_most zero low [] once within = omega arith
at_most zero low (x ∷ held) once within =
    let same : eqb x.0 x.0 ≡ true = grind arith in let k = within x.0 (rw same refl) in absurd (omega (arith, k.0, k.1))
at_most (suc n) low held once within =
    at_most_when (position (λ (a : Arrival). eqb a.0 (low + n)) held) n low held once within (place_found held (low + n)) (λ held once within. at_most n low held once within)
  where
    at_most_when : (o : Option ℕ) (n low : ℕ) (held : List Arrival) → AreOnce held → ((id : ℕ) → IsSome (payload_of held id) → (low ≤ id) × (id < low + suc n)) →
        MatchOption o (payload_of held (low + n) ≡ None) (IsPlace held (low + n)) →
        ((held : List Arrival) → AreOnce held → ((id : ℕ) → IsSome (payload_of held id) → (low ≤ id) × (id < low + n)) → length held ≤ n) → length held ≤ suc n
    at_most_when None n low held once within none fewer =
        let rest = fewer held once (λ id some. let k = within id some in
        let ne : id ≢ low + n = λ same. let no : is_some {T = List ℕ} None ≡ true = ap is_some (sym (ap (λ (i : ℕ). payload_of held i) same ∙ none)) ∙ some in absurd cc in
        (k.0, omega (arith, k.0, k.1, ne))) in
        omega (arith, rest)
    at_most_when (Some place) n low held once within here fewer =
        let rest = fewer (remove held place) (once_less held place once) (λ id some.
        let ne : id ≢ low + n = λ same. let no : is_some {T = List ℕ} None ≡ true = ap is_some (sym (ap (λ (i : ℕ). payload_of (remove held place) i) same ∙ none_is_left held (low + n) place once here)) ∙ some in absurd cc in
        let k = within id (subst IsSome (payload_of-remove held (low + n) place id here ne) some) in
        (k.0, omega (arith, k.0, k.1, ne))) in
        omega (arith, rest, length-remove held place here.within)

-- so no more than 12 payloads are held
pub few_held : (read : ℕ) (held : List Arrival) → AreOnce held → AreNear read held → length held ≤ 12
few_held read held once near = at_most 12 read held once near

-- after the payload of the least id was taken out
pub near_next : (read : ℕ) (held left : List Arrival) → AreNear read held → ((other : ℕ) → other ≢ read → payload_of left other ≡ payload_of held other) → payload_of left read ≡ None → AreNear (read + 1) left
near_next read held left near others none = λ id some.
    let ne : id ≢ read = λ same. let no : is_some {T = List ℕ} None ≡ true = ap is_some (sym (ap (λ (i : ℕ). payload_of left i) same ∙ none)) ∙ some in absurd cc in
    let k = near id (subst IsSome (others id ne) some) in
    (omega (arith, k.0, ne), omega (arith, k.1))

new_so : (ahead below : Bool) (o : Option (List ℕ)) → New ≡ cond ahead Ahead (cond (below || is_some o) Repeat New) → (ahead ≡ false) × (below ≡ false) × (o ≡ None)
new_so true below o is = absurd cc
new_so false true o is = absurd cc
new_so false false (Some p) is = absurd cc
new_so false false None is = (refl, refl, refl)

-- what is new is near, and is not held
record IsNew (r : Receiving) (id : ℕ) : Type 0 where
  above : r.read ≤ id
  near : id < r.read + 12
  none : payload_of r.taken id ≡ None

unheld_when_new : (r : Receiving) (id : ℕ) → New ≡ got r id → IsNew r id
unheld_when_new r id is =
    let k = new_so (leb (r.read + 12) id) (ltb id r.read) (payload_of r.taken id) is in
    record { above = grind (arith, k.1); near = grind (arith, k.0); none = k.2 }

-- a new payload is held once
pub once_with : (r : Receiving) (id : ℕ) (payload : List ℕ) → New ≡ got r id → AreOnce r.taken → AreOnce (r.taken ++ (id, payload) ∷ [])
once_with r id payload is once = once_push r.taken (id, payload) once (unheld_when_new r id is).none

-- its id is near
pub near_with : (r : Receiving) (id : ℕ) (payload : List ℕ) → New ≡ got r id → AreNear r.read r.taken → AreNear r.read (r.taken ++ (id, payload) ∷ [])
near_with r id payload is near = let new = unheld_when_new r id is in near_push r.read r.taken id payload near new.above new.near

-- so there is a place for it
pub few_with : (r : Receiving) (id : ℕ) → New ≡ got r id → AreOnce r.taken → AreNear r.read r.taken → length r.taken < 12
few_with r id is once near =
    let few = few_held r.read (r.taken ++ (id, []) ∷ []) (once_with r id [] is once) (near_with r id [] is near) in omega (arith, few, length-append r.taken ((id, []) ∷ []))
