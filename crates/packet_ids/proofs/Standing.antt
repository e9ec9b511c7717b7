-- What a window keeps decides as everything that was accepted does.
use Rattle.std.proofs.Common.{◌≡◌, ◌≢◌, ℕ, ◌+◌, ◌-◌, ◌*◌, ◌%◌, ◌<◌, ◌≤◌, max, Bool, true, false, cond, eqb, leb, [], ◌∷◌, ◌++◌, length, get_or, set, replicate, refl, sym, ap, subst, ◌∙◌, ⊎_elim, arith, inl, inr}
use Rattle.std.specs.Prelude.{◌==◌, ◌&&◌, nat_lt}
use Rattle.std.proofs.lemmas.Bool.{cases_eq}
use Rattle.std.proofs.lemmas.List.{get_or-replicate, get_or-set_same, get_or-set_other}
use Rattle.std.proofs.lemmas.List.Elements.{All-get_or}
use Rattle.vpn_base.specs.declared.names.Moment.{Moment}
use Rattle.vpn_base.specs.declared.names.Freshness.TheVariants.{Fresh, Zero, Old, Seen, Late}
use Rattle.packet_ids.specs.declared.places.Place.{Place}
use Rattle.packet_ids.specs.Freshness.{Accepted, History, begun, recorded, greatest_id, was_accepted, overtakes, is_overtaken, freshness}
use Rattle.packet_ids.specs.Window.{Kept, HasEntry, Stands, answer, unused, place_of, has_id, has_old, has_overtaking}
use Rattle.packet_ids.specs.internal.Sound.{IsSound}
use Rattle.packet_ids.proofs.Entries.{any_passes, passes_any, at_most_greatest, same_test, greatest-push, has_push, has_last, before_push}
use Rattle.packet_ids.proofs.Ring.{found_in, in_range, same_of_near}

-- only where the id is neither 0 nor old do the accepted ids decide
same_when : (zero old seen seen' late late' : Bool) → (zero ≡ false → old ≡ false → (seen ≡ seen') × (late ≡ late')) →
    cond zero Zero (cond old Old (cond seen Seen (cond late Late Fresh))) ≡ cond zero Zero (cond old Old (cond seen' Seen (cond late' Late Fresh)))
same_when true old seen seen' late late' same = refl
same_when false true seen seen' late late' same = refl
same_when false false seen seen' late late' same = let s = same refl refl in rw (s.0, s.1) refl

both : (a b : Bool) → a ≡ true → b ≡ true → (a && b) ≡ true
both true b p q = q
both false b p q = absurd cc

each : (a b : Bool) → (a && b) ≡ true → (a ≡ true) × (b ≡ true)
each true b h = (refl, h)
each false b h = absurd cc

-- whether a place has an id under a stamp
abbrev is_place : Place → ℕ → ℕ → Bool
is_place p stamp id = (p.stamp == stamp) && (p.id == id)

place_has : (p : Place) (stamp id : ℕ) (moment : Moment) → p ≡ record { stamp = stamp; id = id; moment = moment } → is_place p stamp id ≡ true
place_has p stamp id moment is =
    let one : p.stamp ≡ stamp = ap (λ (q : Place). q.stamp) is in
    let other : p.id ≡ id = ap (λ (q : Place). q.id) is in
    both (p.stamp == stamp) (p.id == id) (grind (arith, one)) (grind (arith, other))

has_place : (p : Place) (stamp id : ℕ) → is_place p stamp id ≡ true → (p.stamp ≡ stamp) × (p.id ≡ id)
has_place p stamp id h = let e = each (p.stamp == stamp) (p.id == id) h in (grind (arith, e.0), grind (arith, e.1))

-- the seen ids
seen_alike : (w : Kept) (h : History) (id : ℕ) → Stands w h → id ≢ 0 → w.greatest - id < w.width → has_id w id ≡ was_accepted h.accepted id
unfolding Stands
seen_alike w h id s some close =
    same_test (has_id w id) (was_accepted h.accepted id)
    (λ has. passes_any (λ e. e.0 == id) h.accepted (id, (place_of w id).moment) (s.only id some has) (grind arith))
    (λ was.
    let p = any_passes (λ e. e.0 == id) h.accepted was in
    let is : p.entry.0 ≡ id = grind (arith, p.passes) in
    let near = s.near p.entry p.there (omega (arith, is, s.greatest, s.width, close)) in
    subst (λ (i : ℕ). has_id w i ≡ true) is (place_has (place_of w p.entry.0) w.stamp p.entry.0 p.entry.1 near))

old_there : (w : Kept) (now : Moment) (e : Accepted) → place_of w e.0 ≡ record { stamp = w.stamp; id = e.0; moment = e.1 } →
    nat_lt (e.1.0 + 1000 * w.seconds) now.0 ≡ true → has_old w now e.0 ≡ true
old_there w now e is old =
    both (has_id w e.0) (nat_lt ((place_of w e.0).moment.0 + 1000 * w.seconds) now.0) (place_has (place_of w e.0) w.stamp e.0 e.1 is)
    (ap (λ (p : Place). nat_lt (p.moment.0 + 1000 * w.seconds) now.0) is ∙ old)

-- the ids that were overtaken
late_alike : (w : Kept) (h : History) (id : ℕ) (now : Moment) → Stands w h → w.greatest - id < w.width → has_overtaking w id now ≡ is_overtaken h.seconds h.accepted id now
unfolding Stands
late_alike w h id now s close =
    same_test (has_overtaking w id now) (is_overtaken h.seconds h.accepted id now)
    (λ has.
    let r = found_in (has_old w now) (id + 1) (w.greatest - id) has in
    let old = each (has_id w r.number) (nat_lt ((place_of w r.number).moment.0 + 1000 * w.seconds) now.0) r.passes in
    let there = s.only r.number (omega (arith, r.low)) old.0 in
    passes_any (overtakes h.seconds id now) h.accepted (r.number, (place_of w r.number).moment) there
    (both (nat_lt id r.number) (nat_lt ((place_of w r.number).moment.0 + 1000 * h.seconds) now.0) (grind (arith, r.low))
    (subst (λ (t : ℕ). nat_lt ((place_of w r.number).moment.0 + 1000 * t) now.0 ≡ true) s.seconds old.1)))
    (λ was.
    let p = any_passes (overtakes h.seconds id now) h.accepted was in
    let e = each (nat_lt id p.entry.0) (nat_lt (p.entry.1.0 + 1000 * h.seconds) now.0) p.passes in
    let above : id < p.entry.0 = grind (arith, e.0) in
    let most = at_most_greatest h.accepted p.entry p.there in
    let near = s.near p.entry p.there (omega (arith, above, s.greatest, s.width, close)) in
    let old = subst (λ (t : ℕ). nat_lt (p.entry.1.0 + 1000 * t) now.0 ≡ true) (sym s.seconds) e.1 in
    in_range (has_old w now) (id + 1) (w.greatest - id) p.entry.0 (omega (arith, above)) (omega (arith, above, most, s.greatest)) (old_there w now p.entry near old))

pub answer_is : (w : Kept) (h : History) (id : ℕ) (now : Moment) → Stands w h → answer w id now ≡ freshness h id now
unfolding Stands answer freshness
answer_is w h id now s =
    rw (← s.width, ← s.greatest)
    (same_when (eqb id 0) (leb w.width (w.greatest - id)) (has_id w id) (was_accepted h.accepted id) (has_overtaking w id now) (is_overtaken h.seconds h.accepted id now)
    (λ some recent.
    let close : w.greatest - id < w.width = grind (arith, recent) in
    (seen_alike w h id s (grind (arith, some)) close, late_alike w h id now s close)))

pub stands_begun : (width seconds : ℕ) → 0 < width →
    Stands (record { width = width; seconds = seconds; stamp = 0; greatest = 0; places = replicate width unused }) (begun width seconds)
unfolding Stands
stands_begun width seconds some = record {
  some = some;
  width = refl;
  seconds = refl;
  greatest = refl;
  near = λ e there close. absurd there;
  only = λ id not_zero has.
      let within : id % width < width = omega arith in
      let none : get_or (replicate width unused) (id % width) unused ≡ unused = get_or-replicate width (id % width) unused unused within in
      let is = has_place (get_or (replicate width unused) (id % width) unused) 0 id has in
      absurd (not_zero (sym is.1 ∙ ap (λ (p : Place). p.id) none));
}

-- what is kept once a later stamp counts
abbrev pub begun_anew : Kept → ℕ → Kept
begun_anew w stamp = record { width = w.width; seconds = w.seconds; stamp = stamp; greatest = 0; places = w.places }

-- no place has a later stamp
pub none_of_later : (w : Kept) (stamp id : ℕ) → IsSound w.width w.stamp w.places → w.stamp < stamp → has_id (begun_anew w stamp) id ≡ true → ⊥
none_of_later w stamp id sound later has =
    let some = sound.some in
    let within : id % w.width < length w.places = omega (arith, sound.full, some) in
    let early = All-get_or (λ place. place.stamp ≤ w.stamp) w.places (id % w.width) unused within sound.stamped in
    let is = has_place (get_or w.places (id % w.width) unused) stamp id has in
    omega (arith, is.0, early, later)

pub stands_anew : (w : Kept) (stamp : ℕ) (h : History) → IsSound w.width w.stamp w.places → w.stamp < stamp → Stands w h → Stands (begun_anew w stamp) (begun h.width h.seconds)
unfolding Stands
stands_anew w stamp h sound later s = record {
  some = s.some;
  width = s.width;
  seconds = s.seconds;
  greatest = refl;
  near = λ e there close. absurd there;
  only = λ id not_zero has. absurd (none_of_later w stamp id sound later has);
}

not_true : (b : Bool) → (b ≡ true → ⊥) → b ≡ false
not_true true never = absurd (never refl)
not_true false never = refl

-- every id but 0 is fresh then
pub fresh_anew : (w : Kept) (stamp id : ℕ) (now : Moment) → IsSound w.width w.stamp w.places → w.stamp < stamp → id ≢ 0 → answer (begun_anew w stamp) id now ≡ Fresh
unfolding answer
fresh_anew w stamp id now sound later not_zero =
    let zero : eqb id 0 ≡ false = grind arith in
    let some = sound.some in
    let old : leb w.width (0 - id) ≡ false = grind (arith, some) in
    let unseen : has_id (begun_anew w stamp) id ≡ false = not_true (has_id (begun_anew w stamp) id) (none_of_later w stamp id sound later) in
    let none : 0 - id ≡ 0 = omega arith in
    rw (zero, old, unseen, none) refl

-- what a fresh answer says of the id
pub record IsFresh (w : Kept) (id : ℕ) : Type 0 where
  pub not_zero : id ≢ 0
  pub close : w.greatest - id < w.width
  pub unseen : has_id w id ≡ false

-- a fresh answer says no to the first three questions
pub fresh_when : (zero old seen late : Bool) → cond zero Zero (cond old Old (cond seen Seen (cond late Late Fresh))) ≡ Fresh → (zero ≡ false) × (old ≡ false) × (seen ≡ false)
fresh_when true old seen late h = absurd cc
fresh_when false true seen late h = absurd cc
fresh_when false false true late h = absurd cc
fresh_when false false false late h = (refl, refl, refl)

pub fresh_is : (w : Kept) (id : ℕ) (now : Moment) → answer w id now ≡ Fresh → IsFresh w id
unfolding answer
fresh_is w id now h =
    let f = fresh_when (eqb id 0) (leb w.width (w.greatest - id)) (has_id w id) (has_overtaking w id now) h in
    record { not_zero = grind (arith, f.0); close = grind (arith, f.1); unseen = f.2 }

same_entry : (a b : ℕ) (m n : Moment) → a ≡ b → m ≡ n → let e : Accepted = (a, m) in let f : Accepted = (b, n) in e ≡ f
same_entry a b m n p q = rw (p, q) refl

-- what is kept after an id was accepted
abbrev pub kept_after : Kept → ℕ → Moment → Kept
kept_after w id now = record {
  width = w.width;
  seconds = w.seconds;
  stamp = w.stamp;
  greatest = max w.greatest id;
  places = set w.places (id % w.width) (record { stamp = w.stamp; id = id; moment = now });
}

-- an entry near the new greatest id has another place than the new id
place_kept : (w : Kept) (id : ℕ) (now : Moment) (e : Accepted) → IsFresh w id → e.0 ≤ max w.greatest id → max w.greatest id - e.0 < w.width →
    place_of w e.0 ≡ record { stamp = w.stamp; id = e.0; moment = e.1 } →
    place_of (kept_after w id now) e.0 ≡ record { stamp = w.stamp; id = e.0; moment = e.1 }
place_kept w id now e fresh most close is =
    let new : Place = record { stamp = w.stamp; id = id; moment = now } in
    let other : e.0 % w.width ≢ id % w.width = λ same.
    let one : e.0 ≡ id = same_of_near w.width e.0 id (omega (arith, fresh.close)) same (omega (arith, fresh.close, most)) (omega (arith, close)) in
    let has : has_id w id ≡ true = subst (λ (i : ℕ). has_id w i ≡ true) one (place_has (place_of w e.0) w.stamp e.0 e.1 is) in
    cc (fresh.unseen, has) in
    get_or-set_other w.places (id % w.width) (e.0 % w.width) new unused other ∙ is

pub stands_after : (w : Kept) (h : History) (id : ℕ) (now : Moment) → length w.places ≡ w.width → IsFresh w id → Stands w h → Stands (kept_after w id now) (recorded h id now)
unfolding Stands
stands_after w h id now full fresh s =
    let e' : Accepted = (id, now) in
    let top = max w.greatest id in
    let new : Place = record { stamp = w.stamp; id = id; moment = now } in
    let is : top ≡ greatest_id (h.accepted ++ e' ∷ []) = rw s.greatest (sym (greatest-push h.accepted e')) in
    let within : id % w.width < length w.places = omega (arith, full, fresh.close) in
    let here : place_of (kept_after w id now) id ≡ new = get_or-set_same w.places (id % w.width) new unused within in
    record {
      some = s.some;
      width = s.width;
      seconds = s.seconds;
      greatest = is;
      near = λ e there close. elim (before_push h.accepted e' e there) [
        | inl k ↦
            let most = at_most_greatest h.accepted e k in
            place_kept w id now e fresh (omega (arith, most, s.greatest)) (omega (arith, is, close, s.width))
            (s.near e k (omega (arith, is, close, s.greatest)))
        | inr same ↦ subst (λ (a : Accepted). place_of (kept_after w id now) a.0 ≡ record { stamp = w.stamp; id = a.0; moment = a.1 }) same here
      ];
      only = λ i not_zero has. ⊎_elim
          (λ same.
          let it : place_of (kept_after w id now) i ≡ new = ap (λ (k : ℕ). get_or (set w.places (id % w.width) new) k unused) same ∙ here in
          let number : id ≡ i = sym (ap (λ (p : Place). p.id) it) ∙ (has_place (place_of (kept_after w id now) i) w.stamp i has).1 in
          let moment : now ≡ (place_of (kept_after w id now) i).moment = sym (ap (λ (p : Place). p.moment) it) in
          has_last h.accepted e' (i, (place_of (kept_after w id now) i).moment)
          (same_entry id i now (place_of (kept_after w id now) i).moment number moment))
          (λ other.
          let it : place_of (kept_after w id now) i ≡ place_of w i = get_or-set_other w.places (id % w.width) (i % w.width) new unused other in
          let was = s.only i not_zero (subst (λ (p : Place). is_place p w.stamp i ≡ true) it has) in
          subst (λ (p : Place). HasEntry (h.accepted ++ e' ∷ []) (i, p.moment)) (sym it) (has_push h.accepted e' (i, (place_of w i).moment) was))
          (cases_eq (i % w.width) (id % w.width));
    }

pub greatest_is : (w : Kept) (h : History) → Stands w h → w.greatest ≡ greatest_id h.accepted
unfolding Stands
greatest_is w h s = s.greatest

pub some_of : (w : Kept) (h : History) → Stands w h → 0 < h.width
unfolding Stands
some_of w h s = s.some
