-- What a side keeps answers as everything that was taken does.
use Rattle.std.proofs.Common.{◌≡◌, ◌≢◌, ℕ, ◌+◌, ◌<◌, ◌≤◌, min, Bool, true, false, cond, eqb, ltb, leb, List, [], ◌∷◌, ◌++◌, Option, Some, None, refl, sym, ap, subst, ◌∙◌, arith, inl, inr}
use Rattle.std.specs.Prelude.{is_some, IsSome, ◌||◌, drop}
use Rattle.std.specs.List.{list_any}
use Rattle.std.proofs.lemmas.Bool.{cases_lt, le-ltb, lt-ltb, lt-leb}
use Rattle.reliable_recv.specs.declared.receiving.Got.{Got}
use Rattle.reliable_recv.specs.declared.receiving.Got.TheVariants.{New, Repeat, Ahead}
use Rattle.reliable_recv.specs.Receiving.{Arrival, Receiving, begun, payload_of, got, taken_as, put_into, next_payload, read_as, after_next, acks_of, after_acks}
use Rattle.reliable_recv.specs.Sides.{IsKeptOf}
use Rattle.reliable_recv.proofs.Payloads.{any_held, payload_again, payload_stays, payload_behind}

got_when : (ahead below : Bool) (x y : Option (List ℕ)) → (below ≡ false → x ≡ y) →
    cond ahead Ahead (cond (below || is_some x) Repeat New) ≡ cond ahead Ahead (cond (below || is_some y) Repeat New)
got_when true below x y same = refl
got_when false true x y same = refl
got_when false false x y same = rw (same refl) refl

-- what comes of a packet is the same
pub got_is : (side h : Receiving) (id : ℕ) → IsKeptOf side h → got side id ≡ got h id
got_is side h id s =
    rw s.read (got_when (leb (h.read + 12) id) (ltb id h.read) (payload_of side.taken id) (payload_of h.taken id)
    (λ not_below. let le : h.read ≤ id = grind (arith, not_below) in s.unread id le))

-- what is kept after a packet of which this came
abbrev pub kept_after : Got → Receiving → ℕ → List ℕ → Receiving
kept_after Ahead side id payload = side
kept_after Repeat side id payload = record side { waiting = side.waiting ++ id ∷ [] }
kept_after New side id payload = record side { taken = side.taken ++ (id, payload) ∷ []; waiting = side.waiting ++ id ∷ [] }

repeat_when : (ahead below : Bool) (x : Option (List ℕ)) → Repeat ≡ cond ahead Ahead (cond (below || is_some x) Repeat New) → below ≡ false → IsSome x
repeat_when true below x is not_below = absurd cc
repeat_when false true x is not_below = absurd cc
repeat_when false false (Some p) is not_below = refl
repeat_when false false None is not_below = absurd cc

-- the packet of a repeated id that is not read yet is held
repeated : (h : Receiving) (id : ℕ) → Repeat ≡ got h id → h.read ≤ id → IsSome (payload_of h.taken id)
repeated h id is le = repeat_when (leb (h.read + 12) id) (ltb id h.read) (payload_of h.taken id) is (le-ltb id h.read le)

stands_as : (g : Got) (side h : Receiving) (id : ℕ) (payload : List ℕ) → g ≡ got h id → IsKeptOf side h → IsKeptOf (kept_after g side id payload) (taken_as g h id payload)
stands_as Ahead side h id payload is s = s
stands_as Repeat side h id payload is s = record {
  read = s.read;
  waiting = ap (λ (t : List ℕ). t ++ id ∷ []) s.waiting;
  unread = λ k le. s.unread k le ∙ sym (payload_again h.taken id k payload (λ same. subst (λ (k : ℕ). IsSome (payload_of h.taken k)) same (repeated h id is (subst (λ (n : ℕ). h.read ≤ n) (sym same) le))));
  were_taken = λ k below. payload_stays h.taken ((id, payload) ∷ []) k (s.were_taken k below);
}
stands_as New side h id payload is s = record {
  read = s.read;
  waiting = ap (λ (t : List ℕ). t ++ id ∷ []) s.waiting;
  unread = λ k le. payload_behind side.taken h.taken ((id, payload) ∷ []) k (s.unread k le);
  were_taken = λ k below. payload_stays h.taken ((id, payload) ∷ []) k (s.were_taken k below);
}

-- after a packet it stands for the history with it
pub stands_put : (g : Got) (side h : Receiving) (id : ℕ) (payload : List ℕ) → g ≡ got side id → IsKeptOf side h → IsKeptOf (kept_after g side id payload) (put_into h id payload)
unfolding put_into
stands_put g side h id payload is s =
    let same : g ≡ got h id = is ∙ got_is side h id s in
    subst (λ (o : Got). IsKeptOf (kept_after g side id payload) (taken_as o h id payload)) same (stands_as g side h id payload same s)

-- the payload that is read next is the same
pub next_is : (side h : Receiving) → IsKeptOf side h → next_payload side ≡ next_payload h
next_is side h s = let le : h.read ≤ h.read = omega arith in ap (λ (k : ℕ). payload_of side.taken k) s.read ∙ s.unread h.read le

-- where none is there, nothing changes
pub stands_none : (side h : Receiving) → next_payload side ≡ None → IsKeptOf side h → IsKeptOf side (after_next h)
unfolding after_next
stands_none side h none s = let e : next_payload h ≡ None = sym (next_is side h s) ∙ none in rw e s

read_more : (side h : Receiving) (taken : List Arrival) (payload : List ℕ) → next_payload h ≡ Some payload → IsKeptOf side h →
    ((other : ℕ) → other ≢ side.read → payload_of taken other ≡ payload_of side.taken other) →
    IsKeptOf (record { taken = taken; read = side.read + 1; waiting = side.waiting }) (record h { read = h.read + 1 })
read_more side h taken payload some s others = record {
  read = ap (λ (k : ℕ). k + 1) s.read;
  waiting = s.waiting;
  unread = λ k le. let ne : k ≢ side.read = omega (arith, s.read) in let le' : h.read ≤ k = omega arith in others k ne ∙ s.unread k le';
  were_taken = λ k below. elim (cases_lt k h.read) [
    | inl lt ↦ s.were_taken k lt
    | inr ge ↦ let e : k ≡ h.read = omega arith in rw e (rw some refl)
  ];
}

-- after it was read, the side that took it out stands for the history
pub stands_next : (side h : Receiving) (taken : List Arrival) (payload : List ℕ) → next_payload side ≡ Some payload → IsKeptOf side h →
    ((other : ℕ) → other ≢ side.read → payload_of taken other ≡ payload_of side.taken other) →
    IsKeptOf (record { taken = taken; read = side.read + 1; waiting = side.waiting }) (after_next h)
unfolding after_next
stands_next side h taken payload some s others =
    let e : next_payload h ≡ Some payload = sym (next_is side h s) ∙ some in
    subst (λ (o : Option (List ℕ)). IsKeptOf (record { taken = taken; read = side.read + 1; waiting = side.waiting }) (read_as o h)) (sym e) (read_more side h taken payload e s others)

-- the ids that are taken to be acknowledged are the same
pub acks_is : (side h : Receiving) (most : ℕ) → IsKeptOf side h → acks_of side most ≡ acks_of h most
acks_is side h most s = rw s.waiting refl

pub stands_acks : (side h : Receiving) (most : ℕ) → IsKeptOf side h → IsKeptOf (after_acks side most) (after_acks h most)
unfolding after_acks
stands_acks side h most s = record { read = s.read; waiting = ap (λ (t : List ℕ). drop (min most 8) t) s.waiting; unread = s.unread; were_taken = s.were_taken }

pub stands_begun : IsKeptOf begun begun
stands_begun = record { read = refl; waiting = refl; unread = λ k le. refl; were_taken = λ k below. absurd (omega arith) }

-- ---- what comes of a packet, by the tests of the code

-- some packet that is kept has the id
abbrev pub AnyHas : List Arrival → ℕ → Bool
AnyHas held id = list_any (λ (a : Arrival). eqb a.0 id) held

pub repeat_below : (r : Receiving) (id : ℕ) → id < r.read + 12 → id < r.read → Repeat ≡ got r id
repeat_below r id near below =
    let ahead : leb (r.read + 12) id ≡ false = lt-leb (r.read + 12) id near in let lt : ltb id r.read ≡ true = lt-ltb id r.read below in rw (ahead, lt) refl

pub repeat_held : (r : Receiving) (id : ℕ) → id < r.read + 12 → r.read ≤ id → AnyHas r.taken id ≡ true → Repeat ≡ got r id
repeat_held r id near le has =
    let ahead : leb (r.read + 12) id ≡ false = lt-leb (r.read + 12) id near in
    let lt : ltb id r.read ≡ false = le-ltb id r.read le in
    let held : is_some (payload_of r.taken id) ≡ true = sym (any_held r.taken id) ∙ has in
    rw (ahead, lt, held) refl

pub new_when : (r : Receiving) (id : ℕ) → id < r.read + 12 → r.read ≤ id → AnyHas r.taken id ≡ false → New ≡ got r id
new_when r id near le has =
    let ahead : leb (r.read + 12) id ≡ false = lt-leb (r.read + 12) id near in
    let lt : ltb id r.read ≡ false = le-ltb id r.read le in
    let held : is_some (payload_of r.taken id) ≡ false = sym (any_held r.taken id) ∙ has in
    rw (ahead, lt, held) refl

-- ---- what a side answers without a history

waiting_as : (g : Got) (r : Receiving) (id : ℕ) (payload : List ℕ) → (kept_after g r id payload).waiting ≡ (taken_as g r id payload).waiting
waiting_as Ahead r id payload = refl
waiting_as Repeat r id payload = refl
waiting_as New r id payload = refl

pub waiting_put : (g : Got) (r : Receiving) (id : ℕ) (payload : List ℕ) → g ≡ got r id → (kept_after g r id payload).waiting ≡ (put_into r id payload).waiting
unfolding put_into
waiting_put g r id payload is = waiting_as g r id payload ∙ ap (λ (o : Got). (taken_as o r id payload).waiting) is

pub read_none : (r : Receiving) → next_payload r ≡ None → r.read ≡ (after_next r).read
unfolding after_next
read_none r none = rw none refl

pub read_some : (r : Receiving) (payload : List ℕ) → next_payload r ≡ Some payload → r.read + 1 ≡ (after_next r).read
unfolding after_next
read_some r payload some = rw some refl

pub acks_left : (r : Receiving) (most : ℕ) → record r { waiting = drop (min most 8) r.waiting } ≡ after_acks r most
unfolding after_acks
acks_left r most = refl
