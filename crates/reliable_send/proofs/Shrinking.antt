-- Sending the first of the pieces that are ready or due leaves the others.
use Rattle.std.proofs.Common.{◌≡◌, ℕ, zero, suc, ◌+◌, ◌-◌, ◌≤◌, Bool, true, false, cond, eqb, ltb, List, [], ◌∷◌, length, refl, ap, ◌∙◌, arith}
use Rattle.std.proofs.Math.Nat.{mul-le-mul_left}
use Rattle.std.proofs.lemmas.Nat.{pow_pos}
use Rattle.std.specs.Prelude.{not, ◌&&◌, ◌||◌}
use Rattle.reliable_send.specs.Sending.{Offered, Sending, Numbered, was_sent, first_unacknowledged, those, may_be_sent, ready, interval, is_over, is_due, due, send, sent}

-- a piece that was sent once more
abbrev pub again : ℕ → Offered → Offered
again now q = record q { sendings = now ∷ q.sendings }

-- a test of a piece with its id
abbrev pub Test : Type 0
Test = ℕ → Offered → Bool

those_from_when : (b : Bool) (id : ℕ) (bytes : List ℕ) (later : List Numbered) (p : Numbered) (rest : List Numbered) → (later ≡ p ∷ rest → id + 1 ≤ p.0) →
    cond b ((id, bytes) ∷ later) later ≡ p ∷ rest → id ≤ p.0
those_from_when true id bytes later p rest above e =
    let head : (id, bytes) ≡ p = cc in
    let same : id ≡ p.0 = ap (λ (a : Numbered). a.0) head in omega arith
those_from_when false id bytes later p rest above e = let k = above e in omega arith

-- no id is below the first
pub those_from : (f : Test) (id : ℕ) (qs : List Offered) (p : Numbered) (rest : List Numbered) → those f id qs ≡ p ∷ rest → id ≤ p.0
those_from f id [] p rest e = absurd cc
those_from f id (q ∷ qs) p rest e = those_from_when (f id q) id q.bytes (those f (id + 1) qs) p rest (λ k. those_from f (id + 1) qs p rest k) e

-- tests that agree find the same
pub those_same : (f g : Test) (id : ℕ) (qs : List Offered) → ((k : ℕ) (q : Offered) → g k q ≡ f k q) → those g id qs ≡ those f id qs
those_same f g id [] same = refl
those_same f g id (q ∷ qs) same = rw (same id q, those_same f g (id + 1) qs same) refl

those_shrink_when : (b : Bool) (f g : Test) (id now : ℕ) (q : Offered) (qs : List Offered) (p : Numbered) (rest : List Numbered) → f id q ≡ b →
    ((k : ℕ) (q : Offered) → g k q ≡ f k q) → ((k : ℕ) (q : Offered) → f k q ≡ true → g k (again now q) ≡ false) →
    (those f (id + 1) qs ≡ p ∷ rest → those g (id + 1) (send (p.0 - (id + 1)) now qs) ≡ rest) →
    cond b ((id, q.bytes) ∷ those f (id + 1) qs) (those f (id + 1) qs) ≡ p ∷ rest → those g id (send (p.0 - id) now (q ∷ qs)) ≡ rest
those_shrink_when true f g id now q qs p rest is same off later e =
    let head : (id, q.bytes) ≡ p = cc in
    let tail : those f (id + 1) qs ≡ rest = cc in
    let here : p.0 - id ≡ 0 = let k : id ≡ p.0 = ap (λ (a : Numbered). a.0) head in omega arith in
    rw (here, off id q is) (those_same f g (id + 1) qs same ∙ tail)
those_shrink_when false f g id now q qs p rest is same off later e =
    let above = those_from f (id + 1) qs p rest e in
    let there : p.0 - id ≡ suc (p.0 - (id + 1)) = omega arith in
    rw (there, same id q, is) (later e)

-- the first is found no more once it was sent
pub those_shrink : (f g : Test) (id now : ℕ) (qs : List Offered) (p : Numbered) (rest : List Numbered) →
    ((k : ℕ) (q : Offered) → g k q ≡ f k q) → ((k : ℕ) (q : Offered) → f k q ≡ true → g k (again now q) ≡ false) →
    those f id qs ≡ p ∷ rest → those g id (send (p.0 - id) now qs) ≡ rest
those_shrink f g id now [] p rest same off e = absurd cc
those_shrink f g id now (q ∷ qs) p rest same off e =
    those_shrink_when (f id q) f g id now q qs p rest refl same off (λ k. those_shrink f g (id + 1) now qs p rest same off k) e

those_keep_when : (b : Bool) (f g t : Test) (id now : ℕ) (q : Offered) (qs : List Offered) (p : Numbered) (rest : List Numbered) → t id q ≡ b →
    ((k : ℕ) (q : Offered) → g k q ≡ f k q) → ((k : ℕ) (q : Offered) → t k q ≡ true → (f k q ≡ false) × (f k (again now q) ≡ false)) →
    (those t (id + 1) qs ≡ p ∷ rest → those g (id + 1) (send (p.0 - (id + 1)) now qs) ≡ those f (id + 1) qs) →
    cond b ((id, q.bytes) ∷ those t (id + 1) qs) (those t (id + 1) qs) ≡ p ∷ rest → those g id (send (p.0 - id) now (q ∷ qs)) ≡ those f id (q ∷ qs)
those_keep_when true f g t id now q qs p rest is same off later e =
    let head : (id, q.bytes) ≡ p = cc in
    let here : p.0 - id ≡ 0 = let k : id ≡ p.0 = ap (λ (a : Numbered). a.0) head in omega arith in
    let o = off id q is in
    rw (here, same id (again now q), o.1, o.0) (those_same f g (id + 1) qs same)
those_keep_when false f g t id now q qs p rest is same off later e =
    let above = those_from t (id + 1) qs p rest e in
    let there : p.0 - id ≡ suc (p.0 - (id + 1)) = omega arith in
    rw (there, same id q, later e) refl

-- sending the first that passes a test changes nothing of those that pass another
pub those_keep : (f g t : Test) (id now : ℕ) (qs : List Offered) (p : Numbered) (rest : List Numbered) →
    ((k : ℕ) (q : Offered) → g k q ≡ f k q) → ((k : ℕ) (q : Offered) → t k q ≡ true → (f k q ≡ false) × (f k (again now q) ≡ false)) →
    those t id qs ≡ p ∷ rest → those g id (send (p.0 - id) now qs) ≡ those f id qs
those_keep f g t id now [] p rest same off e = absurd cc
those_keep f g t id now (q ∷ qs) p rest same off e =
    those_keep_when (t id q) f g t id now q qs p rest refl same off (λ k. those_keep f g t (id + 1) now qs p rest same off k) e

-- a sending acknowledges nothing
pub first-send : (id now : ℕ) (ps : List Offered) → first_unacknowledged (send id now ps) ≡ first_unacknowledged ps
first-send id now [] = refl
first-send zero now (p ∷ ps) = refl
first-send (suc id) now (p ∷ ps) = rw (first-send id now ps) refl

-- the test of what is ready, after a sending
same_ready : (h : Sending) (id now k : ℕ) (q : Offered) → may_be_sent (sent h id now) k q ≡ may_be_sent h k q
unfolding sent
same_ready h id now k q = ap (λ n. not (was_sent q) && (eqb k 0 || h.started) && ltb k (n + 6)) (first-send id now h.pieces)

pub sent_again : (now : ℕ) (q : Offered) → was_sent (again now q) ≡ true
sent_again now q = grind arith

sent_off : (started : Bool) (limit k : ℕ) (q : Offered) → was_sent q ≡ true → not (was_sent q) && (eqb k 0 || started) && ltb k limit ≡ false
sent_off started limit k q e = rw e refl

from_start : (k : ℕ) → k - 0 ≡ k
from_start k = omega arith

pub ready_after : (h : Sending) (p : Numbered) (rest : List Numbered) (now : ℕ) → ready h ≡ p ∷ rest → ready (sent h p.0 now) ≡ rest
unfolding ready sent
ready_after h p rest now e =
    let shrunk : those (may_be_sent (sent h p.0 now)) 0 (send (p.0 - 0) now h.pieces) ≡ rest =
    those_shrink (may_be_sent h) (may_be_sent (sent h p.0 now)) 0 now h.pieces p rest (same_ready h p.0 now)
    (λ k q _. same_ready h p.0 now k (again now q) ∙ sent_off h.started (first_unacknowledged h.pieces + 6) k (again now q) (sent_again now q)) e in
    rw (from_start p.0) at shrunk

-- ---- what is due

some_interval : (timeout count : ℕ) → 1 ≤ timeout → 1 ≤ interval timeout count
some_interval timeout count some =
    let k = pow_pos (count - 1) in
    let m = mul-le-mul_left timeout k in omega (arith, m)

over_after : (timeout now : ℕ) (q : Offered) → 1 ≤ timeout → is_over timeout (again now q).sendings now ≡ false
over_after timeout now q some = let k = some_interval timeout (suc (length q.sendings)) some in grind arith

and_off : (a b : Bool) → b ≡ false → a && b ≡ false
and_off true b e = e
and_off false b e = refl

pub due_after : (h : Sending) (p : Numbered) (rest : List Numbered) (now : ℕ) → 1 ≤ h.timeout → due h now ≡ p ∷ rest → due (sent h p.0 now) now ≡ rest
unfolding due sent
due_after h p rest now some e =
    let shrunk : those (is_due h now) 0 (send (p.0 - 0) now h.pieces) ≡ rest =
    those_shrink (is_due h now) (is_due h now) 0 now h.pieces p rest (λ k q. refl)
    (λ k q _. and_off (not q.acknowledged) (is_over h.timeout (again now q).sendings now) (over_after h.timeout now q some)) e in
    rw (from_start p.0) at shrunk

over_sent : (timeout now : ℕ) (sendings : List ℕ) → is_over timeout sendings now ≡ true → not (eqb (length sendings) 0) ≡ true
over_sent timeout now [] e = absurd cc
over_sent timeout now (last ∷ earlier) e = grind arith

due_sent : (a b c : Bool) → a && b ≡ true → (b ≡ true → c ≡ true) → c ≡ true
due_sent true b c e k = k e
due_sent false b c e k = absurd cc

pub ready_after_due : (h : Sending) (p : Numbered) (rest : List Numbered) (now : ℕ) → due h now ≡ p ∷ rest → ready (sent h p.0 now) ≡ ready h
unfolding ready due sent
ready_after_due h p rest now e =
    let kept : those (may_be_sent (sent h p.0 now)) 0 (send (p.0 - 0) now h.pieces) ≡ those (may_be_sent h) 0 h.pieces =
    those_keep (may_be_sent h) (may_be_sent (sent h p.0 now)) (is_due h now) 0 now h.pieces p rest (same_ready h p.0 now)
    (λ k q is. (
      sent_off h.started (first_unacknowledged h.pieces + 6) k q (due_sent (not q.acknowledged) (is_over h.timeout q.sendings now) (was_sent q) is (over_sent h.timeout now q.sendings)),
      sent_off h.started (first_unacknowledged h.pieces + 6) k (again now q) (sent_again now q),
    )) e in
    rw (from_start p.0) at kept
