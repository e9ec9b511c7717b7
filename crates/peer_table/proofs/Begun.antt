-- A session that begins keeps the sessions of a client orderly.
use Rattle.std.proofs.Common.{◌≡◌, ℕ, zero, suc, ◌-◌, Bool, true, false, List, [], ◌∷◌, ◌++◌, length, Option, Some, None, refl, sym, ap, subst, arith, length-append}
use Rattle.std.proofs.lemmas.Bool.{false≢true}
use Rattle.std.specs.Prelude.{slice_get}
use Rattle.peer_table.specs.KeySessions.{Session, has_keys, newest}
use Rattle.peer_table.specs.ControlPackets.{is_finished_as, newest_is_finished}
use Rattle.peer_table.specs.Exchange.{is_open_keyed}
use Rattle.peer_table.specs.Orderly.{IsOrderly, all_before_have_keys, how_many, more_if}
use Rattle.peer_table.proofs.Order.{both, pair}

-- whether the last session has keys
abbrev pub last_has_keys : List Session → Bool
last_has_keys [] = false
last_has_keys (s ∷ []) = has_keys s
last_has_keys (s ∷ t ∷ ss) = last_has_keys (t ∷ ss)

last_at : (ss : List Session) (s : Session) → slice_get ss (length ss - 1) ≡ Some s → has_keys s ≡ true → last_has_keys ss ≡ true
last_at [] s is keys = absurd (none_some is)
  where
    none_some : {X : Type 0} {x : X} → None ≡ Some x → ⊥
    none_some e = grind arith
last_at (t ∷ []) s is keys = grind arith
last_at (t ∷ u ∷ ss) s is keys =
    let e : length (t ∷ u ∷ ss) - 1 ≡ suc (length (u ∷ ss) - 1) = omega arith in
    last_at (u ∷ ss) s (subst (λ (n : ℕ). slice_get (t ∷ u ∷ ss) n ≡ Some s) e is) keys

finished_last : (established : Bool) (ss : List Session) → (n : ℕ) (o : Option Session) → n ≡ length ss - 1 → o ≡ slice_get ss n →
    is_finished_as established n o ≡ true → last_has_keys ss ≡ true
finished_last established ss n None en eo is = absurd (false≢true is)
finished_last established ss zero (Some s) en eo is = last_at ss s (subst (λ (n : ℕ). slice_get ss n ≡ Some s) en (sym eo)) (both is).0
finished_last established ss (suc n) (Some s) en eo is = last_at ss s (subst (λ (n : ℕ). slice_get ss n ≡ Some s) en (sym eo)) is

-- where the newest session is finished, it has keys
pub newest_has_keys : (established : Bool) (ss : List Session) → newest_is_finished established ss ≡ true → last_has_keys ss ≡ true
unfolding newest_is_finished
newest_has_keys established ss is = finished_last established ss (newest ss) (slice_get ss (newest ss)) refl refl is

appended_keyed : (ss : List Session) (x : Session) → last_has_keys ss ≡ true → all_before_have_keys ss ≡ true → all_before_have_keys (ss ++ x ∷ []) ≡ true
appended_keyed [] x last k = refl
appended_keyed (s ∷ []) x last k = pair last refl
appended_keyed (s ∷ t ∷ ss) x last k = pair (both k).0 (appended_keyed (t ∷ ss) x last (both k).1)

not_more : (b : Bool) (n : ℕ) → b ≡ false → more_if b n ≡ n
not_more b n e = rw e refl

appended_few : (ss : List Session) (x : Session) → is_open_keyed x ≡ false → how_many is_open_keyed (ss ++ x ∷ []) ≡ how_many is_open_keyed ss
appended_few [] x none = not_more (is_open_keyed x) 0 none
appended_few (s ∷ ss) x none = ap (more_if (is_open_keyed s)) (appended_few ss x none)

-- one that has no keys stands behind one that has
pub appended_orderly : (ss : List Session) (x : Session) → last_has_keys ss ≡ true → is_open_keyed x ≡ false → IsOrderly ss → IsOrderly (ss ++ x ∷ [])
appended_orderly ss x last none o = record {
  begun = omega (arith, length-append ss (x ∷ []), o.begun);
  keyed = appended_keyed ss x last o.keyed;
  few = omega (arith, appended_few ss x none, o.few);
}
