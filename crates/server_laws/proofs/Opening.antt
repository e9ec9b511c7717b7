-- What it tells that a client's session accepts a data packet, and when it does.
use Rattle.std.proofs.Common.{◌≡◌, ◌<◌, ℕ, zero, suc, ◌+◌, ◌*◌, ◌-◌, ◌==◌, not, Bool, true, false, cond, List, [], ◌∷◌, take, Option, Some, None, refl, sym, ap, ◌∙◌, subst, inl, inr, arith, nat_le, leb-true, leb-false, Result, Ok, Err, is_ok}
use Rattle.std.specs.Prelude.{◌⊎◌, slice_get, if◌then◌else◌, find}
use Rattle.std.proofs.lemmas.Bool.{and_parts, cases_order, eq-eqb, eqb-true, false≢true, ne_eqb, not-true}
use Rattle.vpn_base.specs.declared.names.Freshness.{Freshness}
use Rattle.vpn_base.specs.declared.names.Freshness.TheVariants.{Fresh, Zero, Old, Seen, Late}
use Rattle.vpn_base.specs.declared.names.Moment.{Moment}
use Rattle.vpn_base.specs.declared.names.Timers.{Timers}
use Rattle.packet_ids.specs.Freshness.{History, freshness, greatest_id, is_overtaken, was_accepted}
use Rattle.peer_table.specs.Places.{last_place, later}
use Rattle.peer_table.specs.KeySessions.{Keys, Session, began_before, has_keys, in_transition, keyed_before, keys_of, kid_of, newest_usable, retiring, session_at, usable, usable_of, usable_with, with_kid}
use Rattle.peer_table.specs.Orderly.{IsOrderly, all_before_have_keys}
use Rattle.peer_table.specs.Peer.{Peer, answered, other}
use Rattle.peer_table.specs.DataPackets.{data_came, data_kid, opened_as, opened_by, opened_in, opened_judged, opened_under, with_received}
use Rattle.server_laws.specs.Accepted.{IsLast, IsLastWithKeys, IsOneBefore, IsOneOf, IsUsable}
use Rattle.server_table.proofs.Places.{none_some, some_same}

err_ok : {X Y : Type 0} {e : Y} {x : X} → Err e ≡ Ok x → ⊥
err_ok {X = X} {Y = Y} same = false≢true (ap (λ (r : Result X Y). is_ok r) same)

ok_of : {X Y : Type 0} → X → Result X Y → X
ok_of x (Ok y) = y
ok_of x (Err e) = x

ok_same : {X Y : Type 0} {a b : X} → (let r : Result X Y = Ok a in r) ≡ Ok b → a ≡ b
unfolding ok_of
ok_same {X = X} {Y = Y} {a = a} same = ap (λ (r : Result X Y). ok_of a r) same

-- ---- the session with a key id

found_one : (test : ℕ → Bool) (numbers : List ℕ) (n : ℕ) → find test numbers ≡ Some n → IsOneOf numbers n × (test n ≡ true)
found_one test [] n e = absurd (none_some e)
found_one test (m ∷ numbers) n e = step (test m) refl e (λ rest. found_one test numbers n rest)
  where
    step : (b : Bool) → test m ≡ b → cond b (Some m) (find test numbers) ≡ Some n → (find test numbers ≡ Some n → IsOneOf numbers n × (test n ≡ true)) →
        ((n ≡ m) ⊎ IsOneOf numbers n) × (test n ≡ true)
    step true is e ih = (inl (sym (some_same e)), subst (λ (k : ℕ). test k ≡ true) (some_same e) is)
    step false is e ih = let r = ih e in (inr r.0, r.1)

-- what is found of the usable sessions
pub usable_is : (timers : Timers) (m : ℕ) (ss : List Session) (kid k : ℕ) → usable_with timers m ss kid ≡ Some k → IsOneOf (usable timers m ss) k × (kid_of k ≡ kid)
unfolding usable_with
usable_is timers m ss kid k e =
    let f = found_one (λ n. kid_of n == kid) (usable timers m ss) k e in (f.0, eqb-true (kid_of k) kid f.1)

-- ---- two usable sessions have two key ids

keyed_upto : (n : ℕ) (ss : List Session) (s : Session) → all_before_have_keys ss ≡ true → slice_get ss (suc n) ≡ Some s → last_place has_keys (take (suc n) ss) ≡ Some n
keyed_upto n [] s all there = absurd (none_some there)
keyed_upto n (x ∷ []) s all there = absurd (none_some there)
keyed_upto zero (x ∷ y ∷ ss) s all there = ap (λ (b : Bool). later b None) (and_parts (has_keys x) (all_before_have_keys (y ∷ ss)) all).0
keyed_upto (suc n) (x ∷ y ∷ ss) s all there =
    ap (λ (o : Option ℕ). later (has_keys x) o) (keyed_upto n (y ∷ ss) s (and_parts (has_keys x) (all_before_have_keys (y ∷ ss)) all).1 there)

-- where there is no last place, none has keys
none_step : (x : Session) (b : Bool) (o : Option ℕ) → has_keys x ≡ b → later b o ≡ None → (has_keys x ≡ false) × (o ≡ None)
none_step x b (Some m) is e = absurd (none_some (sym e))
none_step x true None is e = absurd (none_some (sym e))
none_step x false None is e = (is, refl)

none_keyed : (ss : List Session) → last_place has_keys ss ≡ None → (j : ℕ) (y : Session) → slice_get ss j ≡ Some y → has_keys y ≡ false
none_keyed [] e j y there = absurd (none_some there)
none_keyed (x ∷ ss) e zero y there = ap has_keys (sym (some_same there)) ∙ (none_step x (has_keys x) (last_place has_keys ss) refl e).0
none_keyed (x ∷ ss) e (suc j) y there = none_keyed ss (none_step x (has_keys x) (last_place has_keys ss) refl e).1 j y there

-- behind the first session
behind_first : (x : Session) (ss : List Session) (m : ℕ) → IsLastWithKeys ss m → IsLastWithKeys (x ∷ ss) (suc m)
behind_first x ss m l = record { session = l.session; there = l.there; keyed = l.keyed; none_later = later_than }
  where
    later_than : (j : ℕ) (y : Session) → suc m < j → slice_get (x ∷ ss) j ≡ Some y → has_keys y ≡ false
    later_than zero y lt there = absurd (let none : ⊥ = omega (arith, lt) in none)
    later_than (suc j) y lt there = l.none_later j y (omega (arith, lt)) there

first_alone : (x : Session) (ss : List Session) → has_keys x ≡ true → last_place has_keys ss ≡ None → IsLastWithKeys (x ∷ ss) 0
first_alone x ss is none = record { session = x; there = refl; keyed = is; none_later = later_than }
  where
    later_than : (j : ℕ) (y : Session) → 0 < j → slice_get (x ∷ ss) j ≡ Some y → has_keys y ≡ false
    later_than zero y lt there = absurd (let none : ⊥ = omega (arith, lt) in none)
    later_than (suc j) y lt there = none_keyed ss none j y there

last_step : (x : Session) (ss : List Session) (b : Bool) (o : Option ℕ) (n : ℕ) → has_keys x ≡ b → last_place has_keys ss ≡ o → later b o ≡ Some n →
    ((m : ℕ) → o ≡ Some m → IsLastWithKeys ss m) → IsLastWithKeys (x ∷ ss) n
last_step x ss b (Some m) n is at e ih = subst (λ (k : ℕ). IsLastWithKeys (x ∷ ss) k) (some_same e) (behind_first x ss m (ih m refl))
last_step x ss true None n is at e ih = subst (λ (k : ℕ). IsLastWithKeys (x ∷ ss) k) (some_same e) (first_alone x ss is at)
last_step x ss false None n is at e ih = absurd (none_some e)

pub last_is : (ss : List Session) (n : ℕ) → last_place has_keys ss ≡ Some n → IsLastWithKeys ss n
last_is [] n e = absurd (none_some e)
last_is (x ∷ ss) n e = last_step x ss (has_keys x) (last_place has_keys ss) n refl refl e (λ m there. last_is ss m there)

-- and only that is the last place
pub last_from : (ss : List Session) (n : ℕ) → IsLastWithKeys ss n → last_place has_keys ss ≡ Some n
last_from ss n l = go (last_place has_keys ss) refl
  where
    by_order : (m : ℕ) → IsLastWithKeys ss m → (m ≡ n) ⊎ ((m < n) ⊎ (n < m)) → Some m ≡ Some n
    by_order m k (inl same) = ap (λ (i : ℕ). Some i) same
    by_order m k (inr (inl lt)) = absurd (false≢true (sym (k.none_later n l.session lt l.there) ∙ l.keyed))
    by_order m k (inr (inr lt)) = absurd (false≢true (sym (l.none_later m k.session lt k.there) ∙ k.keyed))

    go : (o : Option ℕ) → last_place has_keys ss ≡ o → o ≡ Some n
    go None e = absurd (false≢true (sym (none_keyed ss e n l.session l.there) ∙ l.keyed))
    go (Some m) e = by_order m (last_is ss m e) (cases_order m n)

before_next : (ss : List Session) (last older : ℕ) (s : Session) → all_before_have_keys ss ≡ true → slice_get ss last ≡ Some s →
    last_place has_keys (take last ss) ≡ Some older → last ≡ suc older
before_next ss zero older s all there e = absurd (none_some e)
before_next ss (suc n) older s all there e = ap suc (some_same (sym (keyed_upto n ss s all there) ∙ e))

two_kids : (n : ℕ) → kid_of (suc n) ≡ kid_of n → ⊥
two_kids zero e = omega (arith, e)
two_kids (suc n) e = omega (arith, e)

-- by which sessions are usable
one_found : (last : Option ℕ) (older : Option ℕ) (still : Bool) (kid k : ℕ) → ((l o : ℕ) → last ≡ Some l → older ≡ Some o → l ≡ suc o) →
    IsOneOf (usable_of last older still) k → kid_of k ≡ kid → with_kid kid (usable_of last older still) ≡ Some k
one_found None older still kid k next one is = elim one [ ]
one_found (Some l) (Some o) true kid k next (inl e) is =
    ap (λ (b : Bool). cond b (Some l) (find (λ n. kid_of n == kid) (o ∷ []))) (eq-eqb (kid_of l) kid (ap kid_of (sym e) ∙ is)) ∙ ap (λ (n : ℕ). Some n) (sym e)
one_found (Some l) (Some o) true kid k next (inr (inl e)) is =
    ap (λ (b : Bool). cond b (Some l) (find (λ n. kid_of n == kid) (o ∷ [])))
    (ne_eqb (kid_of l) kid (λ same. two_kids o (ap kid_of (sym (next l o refl refl)) ∙ same ∙ sym is ∙ ap kid_of e)))
    ∙ ap (λ (b : Bool). cond b (Some o) None) (eq-eqb (kid_of o) kid (ap kid_of (sym e) ∙ is)) ∙ ap (λ (n : ℕ). Some n) (sym e)
one_found (Some l) (Some o) true kid k next (inr (inr e)) is = elim e [ ]
one_found (Some l) (Some o) false kid k next (inl e) is =
    ap (λ (b : Bool). cond b (Some l) None) (eq-eqb (kid_of l) kid (ap kid_of (sym e) ∙ is)) ∙ ap (λ (n : ℕ). Some n) (sym e)
one_found (Some l) (Some o) false kid k next (inr e) is = elim e [ ]
one_found (Some l) None still kid k next (inl e) is =
    ap (λ (b : Bool). cond b (Some l) None) (eq-eqb (kid_of l) kid (ap kid_of (sym e) ∙ is)) ∙ ap (λ (n : ℕ). Some n) (sym e)
one_found (Some l) None still kid k next (inr e) is = elim e [ ]

next_of : (ss : List Session) (newest : Option ℕ) → IsOrderly ss → newest_usable ss ≡ newest → (l o : ℕ) → newest ≡ Some l → keyed_before ss newest ≡ Some o → l ≡ suc o
unfolding newest_usable
next_of ss None orderly is l o e older = absurd (none_some e)
next_of ss (Some n) orderly is l o e older =
    let at = last_is ss n is in sym (some_same e) ∙ before_next ss n o at.session orderly.keyed at.there older

-- the usable session with this key id is the one that is found
pub usable_found : (timers : Timers) (m : ℕ) (ss : List Session) (kid k : ℕ) → IsOrderly ss → IsOneOf (usable timers m ss) k → kid_of k ≡ kid →
    usable_with timers m ss kid ≡ Some k
unfolding usable_with usable retiring
usable_found timers m ss kid k orderly one is =
    one_found (newest_usable ss) (keyed_before ss (newest_usable ss)) (in_transition timers m ss) kid k (next_of ss (newest_usable ss) orderly refl) one is

-- ---- which sessions are usable, in plain words

window_open : (timers : Timers) (m l : ℕ) (ss : List Session) (s : Session) → newest_usable ss ≡ Some l → slice_get ss l ≡ Some s →
    in_transition timers m ss ≡ not (nat_le (s.began + 1000 * timers.tran) m)
unfolding in_transition
window_open timers m l ss s newest there =
    ap (λ (o : Option ℕ). not (began_before timers.tran m (session_at ss o))) newest ∙ ap (λ (o : Option Session). not (began_before timers.tran m o)) there

in_window : (a m : ℕ) → not (nat_le a m) ≡ true → m < a
in_window a m e = leb-false a m (not-true (nat_le a m) e)

window_from : (a m : ℕ) → m < a → not (nat_le a m) ≡ true
window_from a m lt = ap not (below (nat_le a m) refl)
  where
    below : (b : Bool) → nat_le a m ≡ b → nat_le a m ≡ false
    below true e = absurd (let le = leb-true a m e in let none : ⊥ = omega (arith, le, lt) in none)
    below false e = e

plain_by : (timers : Timers) (m : ℕ) (ss : List Session) (last older : Option ℕ) (still : Bool) (k : ℕ) → newest_usable ss ≡ last → keyed_before ss last ≡ older →
    in_transition timers m ss ≡ still → IsOneOf (usable_of last older still) k → IsUsable timers m ss k
unfolding newest_usable
plain_by timers m ss None older still k newest before window one = elim one [ ]
plain_by timers m ss (Some l) (Some o) true k newest before window (inl e) = IsLast (subst (IsLastWithKeys ss) (sym e) (last_is ss l newest))
plain_by timers m ss (Some l) (Some o) true k newest before window (inr (inl e)) =
    let last = last_is ss l newest in
    IsOneBefore l last (subst (IsLastWithKeys (take l ss)) (sym e) (last_is (take l ss) o before))
    (in_window (last.session.began + 1000 * timers.tran) m (sym (window_open timers m l ss last.session newest last.there) ∙ window))
plain_by timers m ss (Some l) (Some o) true k newest before window (inr (inr e)) = elim e [ ]
plain_by timers m ss (Some l) (Some o) false k newest before window (inl e) = IsLast (subst (IsLastWithKeys ss) (sym e) (last_is ss l newest))
plain_by timers m ss (Some l) (Some o) false k newest before window (inr e) = elim e [ ]
plain_by timers m ss (Some l) None still k newest before window (inl e) = IsLast (subst (IsLastWithKeys ss) (sym e) (last_is ss l newest))
plain_by timers m ss (Some l) None still k newest before window (inr e) = elim e [ ]

-- what may be used is the last with keys, or the one before it within the window
pub usable_plain : (timers : Timers) (m : ℕ) (ss : List Session) (k : ℕ) → IsOneOf (usable timers m ss) k → IsUsable timers m ss k
unfolding usable retiring
usable_plain timers m ss k one = plain_by timers m ss (newest_usable ss) (keyed_before ss (newest_usable ss)) (in_transition timers m ss) k refl refl refl one

first_one : (l k : ℕ) (older : Option ℕ) (still : Bool) → k ≡ l → IsOneOf (usable_of (Some l) older still) k
first_one l k None still e = inl e
first_one l k (Some o) true e = inl e
first_one l k (Some o) false e = inl e

-- and each such session may be used
pub usable_from : (timers : Timers) (m : ℕ) (ss : List Session) (k : ℕ) → IsUsable timers m ss k → IsOneOf (usable timers m ss) k
unfolding usable retiring newest_usable
usable_from timers m ss k (IsLast last) =
    subst (λ (newest : Option ℕ). IsOneOf (usable_of newest (keyed_before ss newest) (in_transition timers m ss)) k) (sym (last_from ss k last))
    (first_one k k (keyed_before ss (Some k)) (in_transition timers m ss) refl)
usable_from timers m ss k (IsOneBefore l last before lt) =
    let newest : newest_usable ss ≡ Some l = last_from ss l last in
    let window : in_transition timers m ss ≡ true
    = window_open timers m l ss last.session newest last.there ∙ window_from (last.session.began + 1000 * timers.tran) m lt in
    subst (λ (newest : Option ℕ). IsOneOf (usable_of newest (keyed_before ss newest) (in_transition timers m ss)) k) (sym newest)
    (subst (λ (older : Option ℕ). IsOneOf (usable_of (Some l) older (in_transition timers m ss)) k) (sym (last_from (take l ss) k before))
    (subst (λ (still : Bool). IsOneOf (usable_of (Some l) (Some k) still) k) (sym window) (inr (inl refl))))

-- ---- what a fresh packet tells

fresh_only : Freshness → Bool
fresh_only Fresh = true
fresh_only _ = false

judged_fresh : (a b c d : Bool) → (if a then Zero else if b then Old else if c then Seen else if d then Late else Fresh) ≡ Fresh → c ≡ false
unfolding fresh_only
judged_fresh true b c d e = absurd (false≢true (ap fresh_only e))
judged_fresh false true c d e = absurd (false≢true (ap fresh_only e))
judged_fresh false false true d e = absurd (false≢true (ap fresh_only e))
judged_fresh false false false d e = refl

-- a fresh id was not accepted
pub fresh_is_new : (h : History) (id : ℕ) (m : Moment) → freshness h id m ≡ Fresh → was_accepted h.accepted id ≡ false
unfolding freshness
fresh_is_new h id m e =
    judged_fresh (id == 0) (nat_le h.width (greatest_id h.accepted - id)) (was_accepted h.accepted id) (is_overtaken h.seconds h.accepted id m) e

-- ---- what an answer tells

pub record OpenedAs (p : Peer) (m : Moment) (datagram inner : List ℕ) : Type 0 where
  pub number : ℕ
  pub session : Session
  pub found : usable_with p.timers m.0 p.sessions (data_kid datagram) ≡ Some number
  pub there : slice_get p.sessions number ≡ Some session
  pub keys : Keys
  pub has : keys_of session.stage ≡ Some keys
  pub id : ℕ
  pub opens : opened_under (other p.role) keys (kid_of number) datagram ≡ Some (id, inner)
  pub fresh : freshness session.received id m ≡ Fresh

judged_tells : (p : Peer) (m : Moment) (datagram inner : List ℕ) (n : ℕ) (s : Session) (k : Keys) (o : ℕ × List ℕ) (f : Freshness) →
    usable_with p.timers m.0 p.sessions (data_kid datagram) ≡ Some n → slice_get p.sessions n ≡ Some s → keys_of s.stage ≡ Some k →
    opened_under (other p.role) k (kid_of n) datagram ≡ Some o → freshness s.received o.0 m ≡ f → (opened_judged p n s m o.0 o.1 f).answer ≡ Ok inner →
    OpenedAs p m datagram inner
judged_tells p m datagram inner n s k o Fresh found there has opens fresh e = record {
  number = n;
  session = s;
  found = found;
  there = there;
  keys = k;
  has = has;
  id = o.0;
  opens = opens ∙ ap (λ (packet : List ℕ). Some (o.0, packet)) (ok_same e);
  fresh = fresh;
}
judged_tells p m datagram inner n s k o Zero found there has opens fresh e = absurd (err_ok e)
judged_tells p m datagram inner n s k o Old found there has opens fresh e = absurd (err_ok e)
judged_tells p m datagram inner n s k o Seen found there has opens fresh e = absurd (err_ok e)
judged_tells p m datagram inner n s k o Late found there has opens fresh e = absurd (err_ok e)

as_tells : (p : Peer) (m : Moment) (datagram inner : List ℕ) (n : ℕ) (s : Session) (k : Keys) (o : Option (ℕ × List ℕ)) →
    usable_with p.timers m.0 p.sessions (data_kid datagram) ≡ Some n → slice_get p.sessions n ≡ Some s → keys_of s.stage ≡ Some k →
    opened_under (other p.role) k (kid_of n) datagram ≡ o → (opened_as p n s m o).answer ≡ Ok inner → OpenedAs p m datagram inner
as_tells p m datagram inner n s k None found there has opens e = absurd (err_ok e)
as_tells p m datagram inner n s k (Some o) found there has opens e =
    judged_tells p m datagram inner n s k o (freshness s.received o.0 m) found there has opens refl e

by_tells : (p : Peer) (m : Moment) (datagram inner : List ℕ) (n : ℕ) (s : Session) (k : Option Keys) →
    usable_with p.timers m.0 p.sessions (data_kid datagram) ≡ Some n → slice_get p.sessions n ≡ Some s → keys_of s.stage ≡ k →
    (opened_by p datagram n s m k).answer ≡ Ok inner → OpenedAs p m datagram inner
by_tells p m datagram inner n s None found there has e = absurd (err_ok e)
by_tells p m datagram inner n s (Some k) found there has e =
    as_tells p m datagram inner n s k (opened_under (other p.role) k (kid_of n) datagram) found there has refl e

in_tells : (p : Peer) (m : Moment) (datagram inner : List ℕ) (n : Option ℕ) (s : Option Session) →
    usable_with p.timers m.0 p.sessions (data_kid datagram) ≡ n → session_at p.sessions n ≡ s → (opened_in p datagram m n s).answer ≡ Ok inner → OpenedAs p m datagram inner
in_tells p m datagram inner None s found there e = absurd (err_ok e)
in_tells p m datagram inner (Some n) None found there e = absurd (err_ok e)
in_tells p m datagram inner (Some n) (Some s) found there e = by_tells p m datagram inner n s (keys_of s.stage) found there refl e

-- the session accepts a packet only so
pub answer_tells : (p : Peer) (m : Moment) (datagram inner : List ℕ) → (data_came datagram m p).answer ≡ Ok inner → OpenedAs p m datagram inner
unfolding data_came
answer_tells p m datagram inner e =
    in_tells p m datagram inner (usable_with p.timers m.0 p.sessions (data_kid datagram)) (session_at p.sessions (usable_with p.timers m.0 p.sessions (data_kid datagram))) refl refl e

-- and it accepts each such packet
pub opened_answers : (p : Peer) (m : Moment) (datagram inner : List ℕ) (o : OpenedAs p m datagram inner) →
    data_came datagram m p ≡ answered (with_received o.number o.id m p) (Ok inner)
unfolding data_came
opened_answers p m datagram inner o =
    ap (λ (n : Option ℕ). opened_in p datagram m n (session_at p.sessions n)) o.found
    ∙ ap (λ (s : Option Session). opened_in p datagram m (Some o.number) s) o.there
    ∙ ap (λ (k : Option Keys). opened_by p datagram o.number o.session m k) o.has
    ∙ ap (λ (r : Option (ℕ × List ℕ)). opened_as p o.number o.session m r) o.opens
    ∙ ap (λ (f : Freshness). opened_judged p o.number o.session m o.id inner f) o.fresh
