-- Reading all that is in order, and whole runs.
use Rattle.std.proofs.Common.{◌≡◌, ◌<◌, ◌≤◌, ℕ, suc, ◌+◌, Bool, true, false, cond, ltb, leb, List, [], ◌∷◌, ◌++◌, length, drop, Option, Some, None, refl, sym, ap, subst, ◌∙◌, arith, add-one, inl, inr}
use Rattle.std.specs.Prelude.{is_some, IsSome, ◌||◌}
use Rattle.std.specs.List.{concat}
use Rattle.std.proofs.lemmas.Bool.{cases_lt, lt-leb, le-leb, lt-ltb, le-ltb}
use Rattle.reliable_recv.specs.declared.receiving.Got.{Got}
use Rattle.reliable_recv.specs.declared.receiving.Got.TheVariants.{New, Repeat, Ahead}
use Rattle.reliable_recv.specs.Receiving.{Arrival, Receiving, begun, payload_of, got, taken_as, put_into, next_payload, read_as, after_next, after_acks, in_order, payloads, text, taken_after, all_taken, text_of}
use Rattle.reliable_recv.specs.Sides.{IsKeptOf}
use Rattle.reliable_recv.specs.Runs.{IsRead, carried, text_read, all_read, reached}
use Rattle.reliable_recv.proofs.Payloads.{payload_stays}
use Rattle.reliable_recv.proofs.Standing.{next_is, read_some}
use Rattle.reliable_recv.proofs.InOrder.{AreHeld, held_at_most, in_order-append, in_order_held, payloads_again, payloads_are, length-in_order, text-push}

-- a history of which so many payloads were read
abbrev pub read_to : ℕ → Receiving → Receiving
read_to n h = record h { read = n }

-- the payloads that were read had been taken
held_below : (side h : Receiving) → IsKeptOf side h → AreHeld h.taken 0 h.read
held_below side h s = λ k le lt. s.were_taken k (omega arith)

same_read : (side h : Receiving) → IsKeptOf side h → side.read ≡ h.read
same_read side h s = s.read

-- at the beginning nothing more was read
pub stands_at_first : (side h : Receiving) → IsKeptOf side h → IsKeptOf side (read_to side.read h)
stands_at_first side h s = subst (λ (n : ℕ). IsKeptOf side (read_to n h)) (sym (same_read side h s)) s

pub text_at_first : (side h : Receiving) (bytes : List ℕ) → IsKeptOf side h → bytes ≡ text_read h → bytes ≡ text_read (read_to side.read h)
text_at_first side h bytes s is = subst (λ (n : ℕ). bytes ≡ text_read (read_to n h)) (sym (same_read side h s)) is

next_read : (h : Receiving) (payload : List ℕ) → next_payload h ≡ Some payload → after_next h ≡ read_to (h.read + 1) h
unfolding after_next
next_read h payload some = rw some refl

-- one payload more was read
pub stands_more : (side new h : Receiving) (payload : List ℕ) → next_payload side ≡ Some payload → IsKeptOf side (read_to side.read h) →
    ((g : Receiving) → IsKeptOf side g → IsKeptOf new (after_next g)) → new.read ≡ (after_next side).read → IsKeptOf new (read_to new.read h)
stands_more side new h payload some s next count =
    let g = read_to side.read h in
    let here : next_payload g ≡ Some payload = sym (next_is side g s) ∙ some in
    let one : new.read ≡ side.read + 1 = count ∙ sym (read_some side payload some) in
    subst (λ (n : ℕ). IsKeptOf new (read_to n h)) (sym one) (subst (λ (t : Receiving). IsKeptOf new t) (next_read g payload here) (next g s))

pub text_more : (side new h : Receiving) (payload : List ℕ) → next_payload side ≡ Some payload → IsKeptOf side (read_to side.read h) →
    new.read ≡ (after_next side).read → text_read (read_to side.read h) ++ carried side.read payload ≡ text_read (read_to new.read h)
unfolding text_read
text_more side new h payload some s count =
    let g = read_to side.read h in
    let here : payload_of h.taken side.read ≡ Some payload = sym (next_is side g s) ∙ some in
    let one : new.read ≡ suc side.read = count ∙ sym (read_some side payload some) ∙ add-one side.read in
    sym (ap (λ (n : ℕ). concat (drop 1 (in_order n h.taken 0))) one ∙ text-push side.read h.taken payload (held_below side g s) here)

-- where nothing is left, all was read
pub all_was_read : (side h : Receiving) → next_payload side ≡ None → IsKeptOf side (read_to side.read h) → all_read h ≡ read_to side.read h
unfolding all_read
all_was_read side h none s =
    let g = read_to side.read h in
    let here : payload_of h.taken side.read ≡ None = sym (next_is side g s) ∙ none in
    let held = held_below side g s in
    ap (λ (n : ℕ). read_to n h) (ap length (payloads_are side.read h.taken held here) ∙ length-in_order side.read h.taken 0 held)

-- ---- a packet, and its acknowledgement

pub none_waits : (r s : Receiving) (id : ℕ) (payload : List ℕ) → r.waiting ≡ [] → s.waiting ≡ (put_into r id payload).waiting → (after_acks s 8).waiting ≡ []
unfolding put_into after_acks
none_waits r s id payload none is = rw is (none_so (got r id))
  where
    none_so : (g : Got) → drop 8 (taken_as g r id payload).waiting ≡ []
    none_so Ahead = rw none refl
    none_so Repeat = rw none refl
    none_so New = rw none refl

taken_when : (ahead near below : Bool) (o : Option (List ℕ)) (taken : List Arrival) (a : Arrival) (n : ℕ) → near ≡ cond ahead false true →
    (after_acks (taken_as (cond ahead Ahead (cond (below || is_some o) Repeat New)) (record { taken = taken; read = n; waiting = [] }) a.0 a.1) 8)
    ≡ record { taken = cond near (taken ++ a ∷ []) taken; read = n; waiting = [] }
unfolding after_acks
taken_when true near below o taken a n is = rw is refl
taken_when false near true o taken a n is = rw is refl
taken_when false near false None taken a n is = rw is refl
taken_when false near false (Some p) taken a n is = rw is refl

near_is : (n id : ℕ) → ltb id (n + 12) ≡ cond (leb (n + 12) id) false true
near_is n id = elim (cases_lt id (n + 12)) [
  | inl lt ↦ let a : ltb id (n + 12) ≡ true = lt-ltb id (n + 12) lt in let b : leb (n + 12) id ≡ false = lt-leb (n + 12) id lt in rw (a, b) refl
  | inr ge ↦ let a : ltb id (n + 12) ≡ false = le-ltb id (n + 12) ge in let b : leb (n + 12) id ≡ true = le-leb (n + 12) id ge in rw (a, b) refl
]

-- what is taken of a packet does not hang on what was read before
taken_next : (taken : List Arrival) (a : Arrival) → after_acks (put_into (reached taken) a.0 a.1) 8 ≡ record { taken = taken_after taken a; read = length (payloads taken); waiting = [] }
unfolding put_into reached
taken_next taken a =
    let n = length (payloads taken) in
    taken_when (leb (n + 12) a.0) (ltb a.0 (n + 12)) (ltb a.0 n) (payload_of taken a.0) taken a n (near_is n a.0)

pub reached_next : (taken : List Arrival) (a : Arrival) → all_read (after_acks (put_into (reached taken) a.0 a.1) 8) ≡ reached (taken_after taken a)
unfolding all_read reached
reached_next taken a = ap all_read (taken_next taken a)

grown_text : (near : Bool) (taken : List Arrival) (a : Arrival) (n : ℕ) → AreHeld taken 0 n → in_order n (cond near (taken ++ a ∷ []) taken) 0 ≡ in_order n taken 0
grown_text true taken a n held = in_order-append n taken (a ∷ []) 0 held
grown_text false taken a n held = refl

-- a packet more leaves the text that was read
pub text_stays : (side : Receiving) (taken : List Arrival) (a : Arrival) → IsKeptOf side (reached taken) → text taken ≡ text_read (after_acks (put_into (reached taken) a.0 a.1) 8)
unfolding text text_read reached
text_stays side taken a s =
    let n = length (payloads taken) in
    let held : AreHeld taken 0 n = held_below side (reached taken) s in
    sym (ap (λ (r : Receiving). concat (drop 1 (in_order r.read r.taken 0))) (taken_next taken a)
    ∙ ap (λ (t : List (List ℕ)). concat (drop 1 t)) (grown_text (ltb a.0 (n + 12)) taken a n held ∙ payloads_again taken))

pub text_reached : (taken : List Arrival) → text_read (reached taken) ≡ text taken
unfolding text text_read reached
text_reached taken = ap (λ (t : List (List ℕ)). concat (drop 1 t)) (payloads_again taken)

pub all_taken-push : (arrivals taken : List Arrival) (a : Arrival) → all_taken taken (arrivals ++ a ∷ []) ≡ taken_after (all_taken taken arrivals) a
unfolding all_taken
all_taken-push [] taken a = refl
all_taken-push (x ∷ arrivals) taken a = all_taken-push arrivals (taken_after taken x) a

pub text_of-push : (arrivals : List Arrival) (a : Arrival) → text_of (arrivals ++ a ∷ []) ≡ text (taken_after (all_taken [] arrivals) a)
unfolding text_of
text_of-push arrivals a = ap text (all_taken-push arrivals [] a)

pub text_of_is : (arrivals : List Arrival) → text_of arrivals ≡ text (all_taken [] arrivals)
unfolding text_of
text_of_is arrivals = refl

pub reached_none : begun ≡ reached (all_taken [] [])
unfolding reached all_taken in_order
reached_none = refl

pub text_of_none : text_of [] ≡ []
unfolding text_of text all_taken in_order
text_of_none = refl

-- ---- reading without a side

held_by : (r : Receiving) → IsRead r → AreHeld r.taken 0 r.read
held_by r read = λ k le lt. read k (omega arith)

read_on_as : (o : Option (List ℕ)) (r : Receiving) → next_payload r ≡ o → IsRead r → IsRead (read_as o r)
read_on_as None r is read = read
read_on_as (Some payload) r is read = λ id below. elim (cases_lt id r.read) [
  | inl lt ↦ read id lt
  | inr ge ↦ let e : id ≡ r.read = omega arith in rw e (rw is refl)
]

pub read_on : (r : Receiving) → IsRead r → IsRead (after_next r)
unfolding after_next
read_on r read = read_on_as (next_payload r) r refl read

pub read_ends : (r : Receiving) → IsRead r → next_payload r ≡ None → all_read r ≡ r
unfolding all_read
read_ends r read none =
    ap (λ (n : ℕ). read_to n r) (ap length (payloads_are r.read r.taken (held_by r read) none) ∙ length-in_order r.read r.taken 0 (held_by r read))

full_when : (o : Option (List ℕ)) (r : Receiving) → next_payload r ≡ o → IsRead r → length r.taken ≤ r.read → all_read r ≡ r
full_when None r is read all = read_ends r read is
full_when (Some payload) r is read all =
    let more : AreHeld r.taken 0 (r.read + 1) = λ k le lt. elim (cases_lt k r.read) [ inl below ↦ read k below | inr ge ↦ let e : k ≡ r.read = omega arith in rw e (rw is refl) ] in
    absurd (omega (arith, held_at_most (r.read + 1) r.taken more))

pub read_full : (r : Receiving) → IsRead r → length r.taken ≤ r.read → all_read r ≡ r
read_full r read all = full_when (next_payload r) r refl read all

all_as : (o : Option (List ℕ)) (r : Receiving) → all_read (read_as o r) ≡ all_read r
unfolding all_read
all_as None r = refl
all_as (Some payload) r = refl

pub read_whole : (r : Receiving) → all_read (after_next r) ≡ all_read r
unfolding after_next
read_whole r = all_as (next_payload r) r

pub read_text : (r : Receiving) (payload : List ℕ) → IsRead r → next_payload r ≡ Some payload → text_read (after_next r) ≡ text_read r ++ carried r.read payload
unfolding text_read
read_text r payload read some =
    ap (λ (g : Receiving). concat (drop 1 (in_order g.read g.taken 0))) (next_read r payload some ∙ ap (λ (n : ℕ). read_to n r) (add-one r.read))
    ∙ text-push r.read r.taken payload (held_by r read) some

pub reached_read : (taken : List Arrival) → IsRead (reached taken)
unfolding reached
reached_read taken = λ id below. in_order_held (length taken) taken 0 id (omega arith) (omega (arith, below))

same_taken : (near : Bool) (taken : List Arrival) (a : Arrival) (n : ℕ) → ((id : ℕ) → id < n → IsSome (payload_of taken id)) → (id : ℕ) → id < n → IsSome (payload_of (cond near (taken ++ a ∷ []) taken) id)
same_taken true taken a n read id below = payload_stays taken (a ∷ []) id (read id below)
same_taken false taken a n read id below = read id below

-- before what a packet brings is read
pub packet_read : (taken : List Arrival) (a : Arrival) → IsRead (after_acks (put_into (reached taken) a.0 a.1) 8)
unfolding reached
packet_read taken a =
    subst IsRead (sym (taken_next taken a)) (same_taken (ltb a.0 (length (payloads taken) + 12)) taken a (length (payloads taken)) (reached_read taken))

pub packet_text : (taken : List Arrival) (a : Arrival) → text_read (after_acks (put_into (reached taken) a.0 a.1) 8) ≡ text taken
unfolding text text_read reached
packet_text taken a =
    let n = length (payloads taken) in
    ap (λ (r : Receiving). concat (drop 1 (in_order r.read r.taken 0))) (taken_next taken a)
    ∙ ap (λ (t : List (List ℕ)). concat (drop 1 t)) (grown_text (ltb a.0 (n + 12)) taken a n (held_by (reached taken) (reached_read taken)) ∙ payloads_again taken)

pub reached_begun : begun ≡ reached []
unfolding reached in_order
reached_begun = refl
