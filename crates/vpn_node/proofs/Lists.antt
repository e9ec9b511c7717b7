-- Lists with one more element at their end.
use Rattle.std.proofs.Common.{◌≡◌, ℕ, zero, suc, ◌+◌, Bool, true, false, List, [], ◌∷◌, ◌++◌, take, refl, ap, sym, ◌∙◌, arith, slice_get, ◌||◌, ◌&&◌, not, IsTrue, Some, unwrap_or}
use Rattle.std.specs.List.{list_any}
use Rattle.std.proofs.lemmas.List.Folds.{list_any-append}
use Rattle.std.proofs.lemmas.Option.{none-some}
use Rattle.std.proofs.lemmas.Bool.{false≢true}
use Rattle.vpn_links.specs.Actions.{Action, stops}
use Rattle.vpn_links.specs.Faults.{LinkCall}
use Rattle.vpn_links.specs.Rounds.{Given, Round, gave}
use Rattle.vpn_links.specs.declared.events.Event.{Event}
use Rattle.vpn_links.specs.declared.links.LinkFault.{LinkFault}
use Rattle.vpn_node.specs.Running.{OnlyWireLost, OnlyWiresLost, capped, cut_last, goes_on, is_not_learned, last_of, lost_by, lost_of, not_learned, one_if, stops_last, stops_only_last}

-- ---- of any list

-- the first elements, up to the one at a place and with it
pub take_one : {A : Type 0} (xs : List A) (i : ℕ) (x : A) → slice_get xs i ≡ Some x → take (suc i) xs ≡ take i xs ++ x ∷ []
take_one [] i x at = absurd (none-some x at)
take_one (y ∷ xs) zero x at = ap (λ z. z ∷ []) (ap (λ o. unwrap_or o x) at)
take_one (y ∷ xs) (suc i) x at = ap (λ l. y ∷ l) (take_one xs i x at)

-- the same with one more for the place
pub take_next : {A : Type 0} (xs : List A) (i : ℕ) (x : A) → Some x ≡ slice_get xs i → take (i + 1) xs ≡ take i xs ++ x ∷ []
take_next xs i x at =
    let next : i + 1 ≡ suc i = omega arith in
    ap (λ n. take n xs) next ∙ take_one xs i x (sym at)

or_false : (a b : Bool) → (a || (b || false)) ≡ (a || b)
or_false true b = refl
or_false false true = refl
or_false false false = refl

-- a test of one more element
pub any_one : {A : Type 0} (p : A → Bool) (xs : List A) (x : A) → list_any p (xs ++ x ∷ []) ≡ (list_any p xs || p x)
any_one p xs x = list_any-append p xs (x ∷ []) ∙ or_false (list_any p xs) (p x)

-- ---- of effects

-- one more effect, for the hosts that were not learned
pub not_learned_one : (actions : List Action) (a : Action) → not_learned (actions ++ a ∷ []) ≡ not_learned actions + one_if (is_not_learned a)
not_learned_one [] a = omega arith
not_learned_one (b ∷ actions) a = omega (arith, not_learned_one actions a)

-- one more effect was given, and maybe lost
pub lost_one : (given : List Given) (g : Given) → lost_of (given ++ g ∷ []) ≡ lost_of given + one_if g.is_lost
lost_one [] g = omega arith
lost_one (h ∷ given) g = omega (arith, lost_one given g)

pub wires_one : (may : LinkCall → LinkFault → Type 0) (given : List Given) (g : Given) → OnlyWireLost may given → OnlyWireLost may (g ∷ []) → OnlyWireLost may (given ++ g ∷ [])
wires_one may [] g all one = one
wires_one may (h ∷ given) g all one = (all.0, wires_one may given g all.1 one)

-- an effect stands behind those of the last event
pub gave_behind : (rounds : List Round) (event : Event) (given : List Given) (g : Given) →
    gave (rounds ++ record { event = event; effects = given } ∷ []) g ≡ rounds ++ record { event = event; effects = given ++ g ∷ [] } ∷ []
gave_behind [] event given g = refl
gave_behind (r ∷ []) event given g = refl
gave_behind (r ∷ s ∷ rounds) event given g = ap (λ l. r ∷ l) (gave_behind (s ∷ rounds) event given g)

-- ---- of rounds

-- one more round
pub lost_round : (rounds : List Round) (r : Round) → lost_by (rounds ++ r ∷ []) ≡ lost_by rounds + lost_of r.effects
lost_round [] r = omega arith
lost_round (s ∷ rounds) r = omega (arith, lost_round rounds r)

pub wires_round : (may : LinkCall → LinkFault → Type 0) (rounds : List Round) (r : Round) → OnlyWiresLost may rounds → OnlyWireLost may r.effects → OnlyWiresLost may (rounds ++ r ∷ [])
wires_round may [] r all one = (one, tt)
wires_round may (s ∷ rounds) r all one = (all.0, wires_round may rounds r all.1 one)

-- ---- of what events do

or_of : (a b : Bool) → not (a || b) ≡ true → (not a ≡ true) × (not b ≡ true)
or_of true b is = absurd (false≢true is)
or_of false b is = (refl, is)

and_of : (a b : Bool) → not a ≡ true → b ≡ true → (not a && b) ≡ true
and_of true b first rest = absurd (false≢true first)
and_of false b first rest = rest

-- the program goes on after one more event that does not end it
pub onward_one : (outs : List (List Action)) (o : List Action) → IsTrue (goes_on outs) → stops o ≡ false → IsTrue (goes_on (outs ++ o ∷ []))
onward_one outs o onward is = ap not (any_one stops outs o) ∙ (ap (λ b. not (list_any stops outs || b)) is ∙ (ap not (or_right (list_any stops outs)) ∙ onward))
  where
    or_right : (a : Bool) → (a || false) ≡ a
    or_right true = refl
    or_right false = refl

-- it ends at the last event if it does at that one
pub ends_last : (outs : List (List Action)) (o : List Action) → IsTrue (goes_on outs) → stops o ≡ true → IsTrue (stops_last (outs ++ o ∷ []))
ends_last [] o onward is = is
ends_last (p ∷ []) o onward is = and_of (stops p) (stops o) (or_of (stops p) false onward).0 is
ends_last (p ∷ q ∷ outs) o onward is =
    let parts = or_of (stops p) (list_any stops (q ∷ outs)) onward in
    and_of (stops p) (stops_last (q ∷ outs ++ o ∷ [])) parts.0 (ends_last (q ∷ outs) o parts.1 is)

-- and at none before, whatever the last one does
pub ends_only_last : (outs : List (List Action)) (o : List Action) → IsTrue (goes_on outs) → IsTrue (stops_only_last (outs ++ o ∷ []))
ends_only_last [] o onward = refl
ends_only_last (p ∷ []) o onward = and_of (stops p) true (or_of (stops p) false onward).0 refl
ends_only_last (p ∷ q ∷ outs) o onward =
    let parts = or_of (stops p) (list_any stops (q ∷ outs)) onward in
    and_of (stops p) (stops_only_last (q ∷ outs ++ o ∷ [])) parts.0 (ends_only_last (q ∷ outs) o parts.1)

-- the last event's effects
pub last_behind : (outs : List (List Action)) (o : List Action) → last_of (outs ++ o ∷ []) ≡ o
last_behind [] o = refl
last_behind (p ∷ []) o = refl
last_behind (p ∷ q ∷ outs) o = last_behind (q ∷ outs) o

-- the first of them
pub cut_behind : (n : ℕ) (outs : List (List Action)) (o : List Action) → cut_last n (outs ++ o ∷ []) ≡ outs ++ take n o ∷ []
cut_behind n [] o = refl
cut_behind n (p ∷ []) o = refl
cut_behind n (p ∷ q ∷ outs) o = ap (λ l. p ∷ l) (cut_behind n (q ∷ outs) o)

-- ---- of counts

-- a count that goes on
pub capped_on : (before more sum : ℕ) → sum ≡ capped before → capped (sum + more) ≡ capped (before + more)
capped_on before more sum is = omega (arith, is)
