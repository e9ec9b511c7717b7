-- What is said of all pieces, by those from the first on that is not acknowledged.
use Rattle.std.proofs.Common.{◌≡◌, ℕ, zero, suc, ◌+◌, ◌-◌, ◌*◌, ◌^◌, ◌<◌, ◌≤◌, Bool, true, false, cond, eqb, ltb, List, [], ◌∷◌, ◌++◌, length, take, drop, map, refl, sym, ap, ◌∙◌, arith}
use Rattle.std.proofs.lemmas.List.{append-nil, drop-drop, length-take}
use Rattle.std.proofs.Math.Nat.{pow-suc, mul_assoc}
use Rattle.std.specs.Prelude.{not, ◌&&◌, ◌||◌, is_none}
use Rattle.vpn_base.specs.declared.names.Moment.{Moment}
use Rattle.reliable_send.specs.declared.pieces.KeptPiece.{KeptPiece}
use Rattle.reliable_send.specs.declared.pieces.Wanted.{Wanted}
use Rattle.reliable_send.specs.declared.pieces.Wanted.TheVariants.{Unsent, Due}
use Rattle.reliable_send.specs.Sending.{Offered, Sending, Numbered, acknowledge, unacknowledged, unsent, was_sent, first_unacknowledged, those, may_be_sent, ready, interval, is_over, is_due, due, send}
use Rattle.reliable_send.specs.Sides.{AreAckedSent, AreUnsent, in_flight, interval_behind, last_of, seen}
use Rattle.reliable_send.specs.internal.Sound.{waiting}
use Rattle.reliable_send.specs.internal.Walks.{alter, count_one, fits, found, has_passed, leading, mark, next_interval}
use Rattle.reliable_send.proofs.Shrinking.{Test, sent_again}
use Rattle.reliable_send.proofs.Cutting.{fresh}

-- ---- which pieces go out

those_skip_when : (b : Bool) (f : Test) (id n : ℕ) (p : Offered) (ps : List Offered) → (b ≡ true → f id p ≡ false) →
    those f (id + 1) ps ≡ those f (id + 1 + n) (drop n ps) → those f id (p ∷ ps) ≡ those f (id + cond b (suc n) 0) (drop (cond b (suc n) 0) (p ∷ ps))
those_skip_when true f id n p ps off rest =
    let there : id + suc n ≡ id + 1 + n = omega arith in rw (off refl, there) rest
those_skip_when false f id n p ps off rest = let here : id + 0 ≡ id = omega arith in rw here refl

-- acknowledged pieces in front do not go out
those_skip : (f : Test) (id : ℕ) (ps : List Offered) → ((k : ℕ) (q : Offered) → q.acknowledged ≡ true → was_sent q ≡ true → f k q ≡ false) → AreAckedSent ps →
    those f id ps ≡ those f (id + first_unacknowledged ps) (drop (first_unacknowledged ps) ps)
those_skip f id [] off acked = refl
those_skip f id (p ∷ ps) off acked =
    those_skip_when p.acknowledged f id (first_unacknowledged ps) p ps (λ e. off id p e (acked.0 e)) (those_skip f (id + 1) ps off acked.1)

those_split_when : (b : Bool) (x : Numbered) (xs ys zs : List Numbered) → xs ≡ ys ++ zs → cond b (x ∷ xs) xs ≡ cond b (x ∷ ys) ys ++ zs
those_split_when true x xs ys zs e = ap (λ (r : List Numbered). x ∷ r) e
those_split_when false x xs ys zs e = e

-- those of two parts
those_split : (f : Test) (id n : ℕ) (ps : List Offered) → those f id ps ≡ those f id (take n ps) ++ those f (id + n) (drop n ps)
those_split f id zero ps = let here : id + 0 ≡ id = omega arith in rw here refl
those_split f id (suc n) [] = refl
those_split f id (suc n) (p ∷ ps) =
    let there : id + suc n ≡ id + 1 + n = omega arith in
    rw there (those_split_when (f id p) (id, p.bytes) (those f (id + 1) ps) (those f (id + 1) (take n ps)) (those f (id + 1 + n) (drop n ps)) (those_split f (id + 1) n ps))

-- unsent pieces that are too far ahead do not go out
those_beyond : (f : Test) (limit id : ℕ) (ps : List Offered) → limit ≤ id → ((k : ℕ) (q : Offered) → limit ≤ k → was_sent q ≡ false → f k q ≡ false) → AreUnsent ps → those f id ps ≡ []
those_beyond f limit id [] above off unsent' = refl
those_beyond f limit id (p ∷ ps) above off unsent' = rw (off id p above unsent'.0) (those_beyond f limit (id + 1) ps (omega arith) off unsent'.1)

-- the others are found by what is kept of them
those_seen : (f : Test) (w : Wanted) (t limit id : ℕ) (ps : List Offered) → id + length ps ≤ limit → ((k : ℕ) (q : Offered) → k < limit → f k q ≡ fits w k (seen t q)) →
    those f id ps ≡ found w id (map (seen t) ps)
those_seen f w t limit id [] below same = refl
those_seen f w t limit id (p ∷ ps) below same =
    rw (same id p (omega arith), those_seen f w t limit (id + 1) ps (omega arith) same) refl

-- so only a window matters
window_only : (f : Test) (ps : List Offered) →
    ((k : ℕ) (q : Offered) → q.acknowledged ≡ true → was_sent q ≡ true → f k q ≡ false) →
    ((k : ℕ) (q : Offered) → first_unacknowledged ps + 6 ≤ k → was_sent q ≡ false → f k q ≡ false) →
    AreAckedSent ps → AreUnsent (drop (first_unacknowledged ps + 6) ps) → those f 0 ps ≡ those f (first_unacknowledged ps) (take 6 (drop (first_unacknowledged ps) ps))
window_only f ps front beyond acked far =
    let n = first_unacknowledged ps in
    let start : 0 + n ≡ n = omega arith in
    let skip : those f 0 ps ≡ those f n (drop n ps) = those_skip f 0 ps front acked ∙ ap (λ k. those f k (drop n ps)) start in
    let none : those f (n + 6) (drop 6 (drop n ps)) ≡ [] =
    ap (those f (n + 6)) (drop-drop 6 n ps) ∙ those_beyond f (n + 6) (n + 6) (drop (n + 6) ps) (omega arith) beyond far in
    skip ∙ those_split f n 6 (drop n ps) ∙ ap (λ (r : List Numbered). those f n (take 6 (drop n ps)) ++ r) none ∙ append-nil (those f n (take 6 (drop n ps)))

-- and what is kept of it
window_is : (f : Test) (w : Wanted) (t : ℕ) (ps : List Offered) →
    ((k : ℕ) (q : Offered) → q.acknowledged ≡ true → was_sent q ≡ true → f k q ≡ false) →
    ((k : ℕ) (q : Offered) → first_unacknowledged ps + 6 ≤ k → was_sent q ≡ false → f k q ≡ false) →
    ((k : ℕ) (q : Offered) → k < first_unacknowledged ps + 6 → f k q ≡ fits w k (seen t q)) →
    AreAckedSent ps → AreUnsent (drop (first_unacknowledged ps + 6) ps) →
    found w (first_unacknowledged ps) (map (seen t) (take 6 (drop (first_unacknowledged ps) ps))) ≡ those f 0 ps
window_is f w t ps front beyond same acked far =
    let n = first_unacknowledged ps in
    let few = length-take 6 (drop n ps) in
    sym (window_only f ps front beyond acked far ∙ those_seen f w t (n + 6) n (take 6 (drop n ps)) (omega (arith, few)) same)

those_few_when : (b : Bool) (x : Numbered) (xs : List Numbered) (n : ℕ) → length xs ≤ n → length (cond b (x ∷ xs) xs) ≤ suc n
those_few_when true x xs n few = omega arith
those_few_when false x xs n few = omega arith

those_few : (f : Test) (id : ℕ) (ps : List Offered) → length (those f id ps) ≤ length ps
those_few f id [] = omega arith
those_few f id (p ∷ ps) = those_few_when (f id p) (id, p.bytes) (those f (id + 1) ps) (length ps) (those_few f (id + 1) ps)

-- a window has at most 6
window_few : (f : Test) (ps : List Offered) →
    ((k : ℕ) (q : Offered) → q.acknowledged ≡ true → was_sent q ≡ true → f k q ≡ false) →
    ((k : ℕ) (q : Offered) → first_unacknowledged ps + 6 ≤ k → was_sent q ≡ false → f k q ≡ false) →
    AreAckedSent ps → AreUnsent (drop (first_unacknowledged ps + 6) ps) → length (those f 0 ps) ≤ 6
window_few f ps front beyond acked far =
    let n = first_unacknowledged ps in
    let whole = ap length (window_only f ps front beyond acked far) in
    let few = those_few f n (take 6 (drop n ps)) in
    let most = length-take 6 (drop n ps) in omega (arith, whole, few, most)

not_sent : (b a c : Bool) → b ≡ true → not b && a && c ≡ false
not_sent b a c e = rw e refl

too_far : (a c : Bool) → c ≡ false → a && c ≡ false
too_far true c e = e
too_far false c e = refl

near : (a b c d : Bool) → a ≡ d → c ≡ true → a && b && c ≡ d && b
near true true c true e n = n
near true false c true e n = refl
near false b c false e n = refl
near true b c false e n = absurd cc
near false b c true e n = absurd cc

unsent_seen : (sendings : List ℕ) → not (not (eqb (length sendings) 0)) ≡ is_none (last_of sendings)
unsent_seen [] = refl
unsent_seen (last ∷ earlier) = grind arith

ready_front : (h : Sending) (k : ℕ) (q : Offered) → q.acknowledged ≡ true → was_sent q ≡ true → may_be_sent h k q ≡ false
ready_front h k q _ sent' = not_sent (was_sent q) (eqb k 0 || h.started) (ltb k (first_unacknowledged h.pieces + 6)) sent'

ready_beyond : (h : Sending) (k : ℕ) (q : Offered) → first_unacknowledged h.pieces + 6 ≤ k → was_sent q ≡ false → may_be_sent h k q ≡ false
ready_beyond h k q above _ = too_far (not (was_sent q) && (eqb k 0 || h.started)) (ltb k (first_unacknowledged h.pieces + 6)) (grind arith)

-- what may be sent is found among what is kept
pub ready_found : (h : Sending) → AreAckedSent h.pieces → AreUnsent (drop (first_unacknowledged h.pieces + 6) h.pieces) →
    found (Unsent h.started) (first_unacknowledged h.pieces) (map (seen h.timeout) (take 6 (drop (first_unacknowledged h.pieces) h.pieces))) ≡ ready h
unfolding ready
ready_found h acked far =
    let n = first_unacknowledged h.pieces in
    window_is (may_be_sent h) (Unsent h.started) h.timeout h.pieces (ready_front h) (ready_beyond h)
    (λ k q below. near (not (was_sent q)) (eqb k 0 || h.started) (ltb k (n + 6)) (is_none (last_of q.sendings)) (unsent_seen q.sendings) (grind arith))
    acked far

pub few_ready : (h : Sending) → AreAckedSent h.pieces → AreUnsent (drop (first_unacknowledged h.pieces + 6) h.pieces) → length (ready h) ≤ 6
unfolding ready
few_ready h acked far = window_few (may_be_sent h) h.pieces (ready_front h) (ready_beyond h) acked far

acked_off : (a b : Bool) → a ≡ true → not a && b ≡ false
acked_off a b e = rw e refl

unsent_over : (t now : ℕ) (sendings : List ℕ) → not (eqb (length sendings) 0) ≡ false → is_over t sendings now ≡ false
unsent_over t now [] e = refl
unsent_over t now (last ∷ earlier) e = absurd (let k : eqb (length (last ∷ earlier)) 0 ≡ false = grind arith in cc)

over_seen : (t : ℕ) (now : Moment) (sendings : List ℕ) → is_over t sendings now.0 ≡ has_passed (last_of sendings) (interval_behind t sendings) now
over_seen t now [] = refl
over_seen t now (last ∷ earlier) = refl

due_front : (h : Sending) (now k : ℕ) (q : Offered) → q.acknowledged ≡ true → was_sent q ≡ true → is_due h now k q ≡ false
due_front h now k q acked' _ = acked_off q.acknowledged (is_over h.timeout q.sendings now) acked'

due_beyond : (h : Sending) (now k : ℕ) (q : Offered) → first_unacknowledged h.pieces + 6 ≤ k → was_sent q ≡ false → is_due h now k q ≡ false
due_beyond h now k q _ unsent' = too_far (not q.acknowledged) (is_over h.timeout q.sendings now) (unsent_over h.timeout now q.sendings unsent')

-- what is due is found among what is kept
pub due_found : (h : Sending) (now : Moment) → AreAckedSent h.pieces → AreUnsent (drop (first_unacknowledged h.pieces + 6) h.pieces) →
    found (Due now) (first_unacknowledged h.pieces) (map (seen h.timeout) (take 6 (drop (first_unacknowledged h.pieces) h.pieces))) ≡ due h now.0
unfolding due
due_found h now acked far =
    window_is (is_due h now.0) (Due now) h.timeout h.pieces (due_front h now.0) (due_beyond h now.0)
    (λ k q _. ap (λ b. not q.acknowledged && b) (over_seen h.timeout now q.sendings))
    acked far

pub few_due : (h : Sending) (now : ℕ) → AreAckedSent h.pieces → AreUnsent (drop (first_unacknowledged h.pieces + 6) h.pieces) → length (due h now) ≤ 6
unfolding due
few_due h now acked far = window_few (is_due h now) h.pieces (due_front h now) (due_beyond h now) acked far

flight_front : (a b : Bool) → a ≡ true → b && not a ≡ false
flight_front a true e = rw e refl
flight_front a false e = refl

flight_beyond : (a b : Bool) → b ≡ false → b && a ≡ false
flight_beyond a b e = rw e refl

pub few_in_flight : (h : Sending) → AreAckedSent h.pieces → AreUnsent (drop (first_unacknowledged h.pieces + 6) h.pieces) → length (in_flight h) ≤ 6
unfolding in_flight
few_in_flight h acked far =
    window_few (λ k q. was_sent q && not q.acknowledged) h.pieces
    (λ k q acked' _. flight_front q.acknowledged (was_sent q) acked')
    (λ k q _ unsent'. flight_beyond (not q.acknowledged) (was_sent q) unsent')
    acked far

-- ---- acknowledging

pub leading-seen : (t : ℕ) (ps : List Offered) → leading (map (seen t) ps) ≡ first_unacknowledged ps
leading-seen t [] = refl
leading-seen t (p ∷ ps) = rw (leading-seen t ps) refl

mark_seen : (t : ℕ) (bytes sendings : List ℕ) (a : Bool) →
    seen t (cond (not (eqb (length sendings) 0)) (record { bytes = bytes; sendings = sendings; acknowledged = true }) (record { bytes = bytes; sendings = sendings; acknowledged = a }))
    ≡ mark (seen t (record { bytes = bytes; sendings = sendings; acknowledged = a }))
mark_seen t bytes [] a = refl
mark_seen t bytes (last ∷ earlier) a = let e : eqb (suc (length earlier)) 0 ≡ false = grind arith in rw e refl

pub acknowledge_seen : (t k : ℕ) (ps : List Offered) → map (seen t) (acknowledge k ps) ≡ alter mark k (map (seen t) ps)
acknowledge_seen t k [] = refl
acknowledge_seen t zero (p ∷ ps) = ap (λ (q : KeptPiece). q ∷ map (seen t) ps) (mark_seen t p.bytes p.sendings p.acknowledged)
acknowledge_seen t (suc k) (p ∷ ps) = ap (λ (r : List KeptPiece). seen t p ∷ r) (acknowledge_seen t k ps)

first_ack_when : (b : Bool) (k n : ℕ) (p : Offered) (ps : List Offered) → p.acknowledged ≡ b →
    first_unacknowledged (acknowledge (n + k) ps) ≡ n + first_unacknowledged (acknowledge k (drop n ps)) →
    first_unacknowledged (acknowledge (cond b (suc n) 0 + k) (p ∷ ps)) ≡ cond b (suc n) 0 + first_unacknowledged (acknowledge k (drop (cond b (suc n) 0) (p ∷ ps)))
first_ack_when true k n p ps is rest =
    let there : suc n + k ≡ suc (n + k) = omega arith in
    let more : suc n + first_unacknowledged (acknowledge k (drop n ps)) ≡ suc (n + first_unacknowledged (acknowledge k (drop n ps))) = omega arith in
    rw (there, is, more) (ap suc rest)
first_ack_when false k n p ps is rest =
    let here : 0 + k ≡ k = omega arith in
    let same : 0 + first_unacknowledged (acknowledge k (p ∷ ps)) ≡ first_unacknowledged (acknowledge k (p ∷ ps)) = omega arith in
    rw (here, same) refl

-- the first that is not acknowledged, after one from the first on was acknowledged
first_ack : (k : ℕ) (ps : List Offered) →
    first_unacknowledged (acknowledge (first_unacknowledged ps + k) ps) ≡ first_unacknowledged ps + first_unacknowledged (acknowledge k (drop (first_unacknowledged ps) ps))
first_ack k [] = refl
first_ack k (p ∷ ps) = first_ack_when p.acknowledged k (first_unacknowledged ps) p ps refl (first_ack k ps)

-- what is acknowledged from a place on
drop-acknowledge : (n k : ℕ) (ps : List Offered) → drop n (acknowledge (n + k) ps) ≡ acknowledge k (drop n ps)
drop-acknowledge zero k ps = let here : 0 + k ≡ k = omega arith in rw here refl
drop-acknowledge (suc n) k [] = refl
drop-acknowledge (suc n) k (p ∷ ps) = let there : suc n + k ≡ suc (n + k) = omega arith in rw there (drop-acknowledge n k ps)

-- both at an id from the first on
pub first_acked : (id : ℕ) (ps : List Offered) → first_unacknowledged ps ≤ id →
    first_unacknowledged (acknowledge id ps) ≡ first_unacknowledged ps + first_unacknowledged (acknowledge (id - first_unacknowledged ps) (drop (first_unacknowledged ps) ps))
first_acked id ps from =
    let e = first_ack (id - first_unacknowledged ps) ps in
    let there : first_unacknowledged ps + (id - first_unacknowledged ps) ≡ id = omega arith in
    ap (λ k. first_unacknowledged (acknowledge k ps)) (sym there) ∙ e

pub drop_acked : (n id : ℕ) (ps : List Offered) → n ≤ id → drop n (acknowledge id ps) ≡ acknowledge (id - n) (drop n ps)
drop_acked n id ps from =
    let there : n + (id - n) ≡ id = omega arith in
    ap (λ k. drop n (acknowledge k ps)) (sym there) ∙ drop-acknowledge n (id - n) ps

still_acked : (b : Bool) (p : Offered) → p.acknowledged ≡ true → cond b (record p { acknowledged = true }) p ≡ p
still_acked true p e = ap (λ a. record p { acknowledged = a }) (sym e)
still_acked false p e = refl

ack_before_when : (b : Bool) (id n : ℕ) (p : Offered) (ps : List Offered) → p.acknowledged ≡ b → ((k : ℕ) → k < n → acknowledge k ps ≡ ps) → id < cond b (suc n) 0 → acknowledge id (p ∷ ps) ≡ p ∷ ps
ack_before_when true zero n p ps is rest below = ap (λ (q : Offered). q ∷ ps) (still_acked (was_sent p) p is)
ack_before_when true (suc id) n p ps is rest below = ap (λ (r : List Offered). p ∷ r) (rest id (omega arith))
ack_before_when false id n p ps is rest below = absurd (omega arith)

-- one in front of the first is acknowledged already
pub ack_before : (ps : List Offered) (id : ℕ) → id < first_unacknowledged ps → acknowledge id ps ≡ ps
ack_before [] id below = absurd (omega arith)
ack_before (p ∷ ps) id below = ack_before_when p.acknowledged id (first_unacknowledged ps) p ps refl (λ k b. ack_before ps k b) below

acked_if : (b : Bool) (p : Offered) → was_sent p ≡ b → (p.acknowledged ≡ true → was_sent p ≡ true) → (cond b (record p { acknowledged = true }) p).acknowledged ≡ true → was_sent (cond b (record p { acknowledged = true }) p) ≡ true
acked_if true p is before e = is
acked_if false p is before e = before e

pub acked_sent : (id : ℕ) (ps : List Offered) → AreAckedSent ps → AreAckedSent (acknowledge id ps)
acked_sent id [] all = tt
acked_sent zero (p ∷ ps) all = (acked_if (was_sent p) p refl all.0, all.1)
acked_sent (suc id) (p ∷ ps) all = (all.0, acked_sent id ps all.1)

-- an acknowledgement leaves unsent pieces as they are
unsent_acked : (id : ℕ) (ps : List Offered) → AreUnsent ps → AreUnsent (acknowledge id ps)
unsent_acked id [] none = tt
unsent_acked zero (p ∷ ps) none = rw (none.0) none
unsent_acked (suc id) (p ∷ ps) none = (none.0, unsent_acked id ps none.1)

pub unsent_beyond_acked : (n id : ℕ) (ps : List Offered) → AreUnsent (drop n ps) → AreUnsent (drop n (acknowledge id ps))
unsent_beyond_acked zero id ps none = unsent_acked id ps none
unsent_beyond_acked (suc n) id [] none = tt
unsent_beyond_acked (suc n) zero (p ∷ ps) none = none
unsent_beyond_acked (suc n) (suc id) (p ∷ ps) none = unsent_beyond_acked n id ps none

unsent_drop : (n : ℕ) (ps : List Offered) → AreUnsent ps → AreUnsent (drop n ps)
unsent_drop zero ps none = none
unsent_drop (suc n) [] none = tt
unsent_drop (suc n) (p ∷ ps) none = unsent_drop n ps none.1

pub unsent_further : (m n : ℕ) (ps : List Offered) → m ≤ n → AreUnsent (drop m ps) → AreUnsent (drop n ps)
unsent_further m n ps further none =
    let e : m + (n - m) ≡ n = omega arith in
    let far = unsent_drop (n - m) (drop m ps) none in
    let same = drop-drop (n - m) m ps in rw (same, e) at far

-- ---- sending

drop-send : (n k now : ℕ) (ps : List Offered) → drop n (send (n + k) now ps) ≡ send k now (drop n ps)
drop-send zero k now ps = let here : 0 + k ≡ k = omega arith in rw here refl
drop-send (suc n) k now [] = refl
drop-send (suc n) k now (p ∷ ps) = let there : suc n + k ≡ suc (n + k) = omega arith in rw there (drop-send n k now ps)

pub drop_sent : (n id now : ℕ) (ps : List Offered) → n ≤ id → drop n (send id now ps) ≡ send (id - n) now (drop n ps)
drop_sent n id now ps from =
    let there : n + (id - n) ≡ id = omega arith in
    ap (λ k. drop n (send k now ps)) (sym there) ∙ drop-send n (id - n) now ps

pub drop-send_past : (n id now : ℕ) (ps : List Offered) → id < n → drop n (send id now ps) ≡ drop n ps
drop-send_past zero id now ps below = absurd (omega arith)
drop-send_past (suc n) id now [] below = refl
drop-send_past (suc n) zero now (p ∷ ps) below = refl
drop-send_past (suc n) (suc id) now (p ∷ ps) below = drop-send_past n id now ps (omega arith)

pub sent_acked_sent : (id now : ℕ) (ps : List Offered) → AreAckedSent ps → AreAckedSent (send id now ps)
sent_acked_sent id now [] all = tt
sent_acked_sent zero now (p ∷ ps) all = (λ _. sent_again now p, all.1)
sent_acked_sent (suc id) now (p ∷ ps) all = (all.0, sent_acked_sent id now ps all.1)

-- the interval doubles with each further sending
next_is : (t : ℕ) (sendings : List ℕ) → t ≤ 60 → interval t (suc (length sendings)) ≡ next_interval t (last_of sendings) (interval_behind t sendings)
next_is t [] most = omega arith
next_is t (last ∷ earlier) most =
    let n = length earlier in
    let a : suc (suc n) - 1 ≡ suc n = omega arith in
    let b : suc n - 1 ≡ n = omega arith in
    let c : t * 2 ^ suc n ≡ t * 2 ^ n * 2 = ap (λ x. t * x) (pow-suc 2 n) ∙ sym (mul_assoc t (2 ^ n) 2) in
    rw (a, b) (omega (arith, c))

pub send_seen : (t k : ℕ) (now : Moment) (ps : List Offered) → t ≤ 60 → map (seen t) (send k now.0 ps) ≡ alter (count_one t now) k (map (seen t) ps)
send_seen t k now [] most = refl
send_seen t zero now (p ∷ ps) most = let e = next_is t p.sendings most in rw e refl
send_seen t (suc k) now (p ∷ ps) most = ap (λ (r : List KeptPiece). seen t p ∷ r) (send_seen t k now ps most)

-- ---- offering

first_append_when : (b : Bool) (n m : ℕ) → n ≡ m → cond b (suc n) 0 ≡ cond b (suc m) 0
first_append_when true n m e = ap suc e
first_append_when false n m e = refl

pub first_append : (ps : List Offered) (cs : List (List ℕ)) → first_unacknowledged (ps ++ map unsent cs) ≡ first_unacknowledged ps
first_append [] [] = refl
first_append [] (c ∷ cs) = refl
first_append (p ∷ ps) cs = rw (first_append ps cs) refl

first_le_when : (b : Bool) (n m : ℕ) → n ≤ m → cond b (suc n) 0 ≤ suc m
first_le_when true n m e = omega arith
first_le_when false n m e = omega arith

pub first_le : (ps : List Offered) → first_unacknowledged ps ≤ length ps
first_le [] = omega arith
first_le (p ∷ ps) = first_le_when p.acknowledged (first_unacknowledged ps) (length ps) (first_le ps)

pub acked_sent_append : (ps : List Offered) (cs : List (List ℕ)) → AreAckedSent ps → AreAckedSent (ps ++ map unsent cs)
acked_sent_append [] [] all = tt
acked_sent_append [] (c ∷ cs) all = (λ e. absurd cc, acked_sent_append [] cs tt)
acked_sent_append (p ∷ ps) cs all = (all.0, acked_sent_append ps cs all.1)

unsent_new : (cs : List (List ℕ)) → AreUnsent (map unsent cs)
unsent_new [] = tt
unsent_new (c ∷ cs) = (refl, unsent_new cs)

pub unsent_append : (n : ℕ) (ps : List Offered) (cs : List (List ℕ)) → AreUnsent (drop n ps) → AreUnsent (drop n (ps ++ map unsent cs))
unsent_append n [] cs none = unsent_drop n (map unsent cs) (unsent_new cs)
unsent_append zero (p ∷ ps) cs none = (none.0, unsent_append zero ps cs none.1)
unsent_append (suc n) (p ∷ ps) cs none = unsent_append n ps cs none

pub new_seen : (t : ℕ) (cs : List (List ℕ)) → map (seen t) (map unsent cs) ≡ map fresh cs
new_seen t [] = refl
new_seen t (c ∷ cs) = ap (λ (r : List KeptPiece). fresh c ∷ r) (new_seen t cs)

waiting_all : (t : ℕ) (ps : List Offered) → unacknowledged ps ≡ waiting (map (seen t) ps)
waiting_all t [] = refl
waiting_all t (p ∷ ps) = ap (λ n. cond p.acknowledged 0 (length p.bytes) + n) (waiting_all t ps)

waiting_when : (b : Bool) (t n : ℕ) (p : Offered) (ps : List Offered) → p.acknowledged ≡ b →
    unacknowledged ps ≡ waiting (map (seen t) (drop n ps)) → unacknowledged (p ∷ ps) ≡ waiting (map (seen t) (drop (cond b (suc n) 0) (p ∷ ps)))
waiting_when true t n p ps is rest = rw is (omega arith)
waiting_when false t n p ps is rest = waiting_all t (p ∷ ps)

-- as many bytes wait among all as among those that are kept
pub waiting_seen : (t : ℕ) (ps : List Offered) → unacknowledged ps ≡ waiting (map (seen t) (drop (first_unacknowledged ps) ps))
waiting_seen t [] = refl
waiting_seen t (p ∷ ps) = waiting_when p.acknowledged t (first_unacknowledged ps) p ps refl (waiting_seen t ps)
