-- What effects put and open, one after the other.
use Rattle.std.proofs.Common.{◌≡◌, ◌≤◌, ◌<◌, ℕ, suc, ◌==◌, Bool, true, false, List, [], ◌∷◌, ◌++◌, Option, Some, None, refl, sym, ap, ◌∙◌, arith, nat_lt, is_some}
use Rattle.std.specs.Prelude.{◌&&◌, unwrap_or}
use Rattle.std.proofs.lemmas.Bool.{and_parts, and_from, eqb-true, false≢true, ltb-true}
use Rattle.std.proofs.lemmas.List.Concat.{flat_map-append}
use Rattle.vpn_links.specs.Actions.{Action, Wire, EngineOpen, EnginePut, EngineWrite, EngineClose, Device, Configure, Ask, Say, Report, Stop}
use Rattle.control_laws.specs.Puts.{only_if, opened_after, put_by, put_if, put_on}

-- what two Somes hold
pub some_same : {X : Type 0} {a b : X} → Some a ≡ Some b → a ≡ b
some_same {X = X} {a = a} {b = b} e = ap (λ (o : Option X). unwrap_or o a) e

-- nothing is no Some
pub none_some : {X : Type 0} {a : X} → None ≡ Some a → ⊥
none_some {X = X} e = false≢true (ap (λ (o : Option X). is_some o) e)

-- whether an effect neither opens a connection nor puts text on one
abbrev pub is_quiet : Action → Bool
is_quiet (EngineOpen conn role) = false
is_quiet (EnginePut conn bytes) = false
is_quiet action = true

-- the same for all of these
abbrev pub are_quiet : List Action → Bool
are_quiet [] = true
are_quiet (action ∷ actions) = is_quiet action && are_quiet actions

-- an effect opens, puts, or does neither
pub data View (action : Action) : Type 0 where
  Opening : (conn : ℕ) → ((actions : List Action) (count : ℕ) → opened_after (action ∷ actions) count ≡ only_if (conn == count) (opened_after actions (suc count))) →
      ((on : ℕ) → put_by on action ≡ []) → View action
  Putting : (conn : ℕ) (bytes : List ℕ) → ((actions : List Action) (count : ℕ) → opened_after (action ∷ actions) count ≡ only_if (nat_lt conn count) (opened_after actions count)) →
      ((on : ℕ) → put_by on action ≡ put_if (conn == on) bytes) → View action
  Quiet : ((actions : List Action) (count : ℕ) → opened_after (action ∷ actions) count ≡ opened_after actions count) →
      ((on : ℕ) → put_by on action ≡ []) → View action

pub view : (action : Action) → View action
view (EngineOpen conn role) = Opening conn.0 (λ actions count. refl) (λ on. refl)
view (EnginePut conn bytes) = Putting conn.0 bytes (λ actions count. refl) (λ on. refl)
view (Wire to bytes) = Quiet (λ actions count. refl) (λ on. refl)
view (EngineWrite conn bytes) = Quiet (λ actions count. refl) (λ on. refl)
view (EngineClose conn) = Quiet (λ actions count. refl) (λ on. refl)
view (Device bytes) = Quiet (λ actions count. refl) (λ on. refl)
view (Configure address len gateway routes rest) = Quiet (λ actions count. refl) (λ on. refl)
view (Ask cid name) = Quiet (λ actions count. refl) (λ on. refl)
view (Say bytes) = Quiet (λ actions count. refl) (λ on. refl)
view (Report note) = Quiet (λ actions count. refl) (λ on. refl)
view Stop = Quiet (λ actions count. refl) (λ on. refl)

-- ---- one after the other

pub put_append : (on : ℕ) (xs ys : List Action) → put_on on (xs ++ ys) ≡ put_on on xs ++ put_on on ys
put_append on xs ys = flat_map-append (put_by on) xs ys

-- where a count is there only if something holds, it holds
only_some : (b : Bool) (o : Option ℕ) (m : ℕ) → only_if b o ≡ Some m → (b ≡ true) × (o ≡ Some m)
only_some true o m e = (refl, e)
only_some false o m e = absurd (none_some e)

pub opened_append : (xs ys : List Action) (n m : ℕ) → opened_after xs n ≡ Some m → opened_after (xs ++ ys) n ≡ opened_after ys m
opened_append [] ys n m e = ap (opened_after ys) (some_same e)
opened_append (x ∷ xs) ys n m e = go (λ i rest. opened_append xs ys i m rest) (view x)
  where
    only_true : (b : Bool) (o : Option ℕ) → b ≡ true → only_if b o ≡ o
    only_true true o is = refl
    only_true false o is = absurd (false≢true is)

    go : ((i : ℕ) → opened_after xs i ≡ Some m → opened_after (xs ++ ys) i ≡ opened_after ys m) → View x → opened_after (x ∷ (xs ++ ys)) n ≡ opened_after ys m
    go behind (Opening conn opens puts) =
        let p = only_some (conn == n) (opened_after xs (suc n)) m (sym (opens xs n) ∙ e) in
        opens (xs ++ ys) n ∙ only_true (conn == n) (opened_after (xs ++ ys) (suc n)) p.0 ∙ behind (suc n) p.1
    go behind (Putting conn bytes opens puts) =
        let p = only_some (nat_lt conn n) (opened_after xs n) m (sym (opens xs n) ∙ e) in
        opens (xs ++ ys) n ∙ only_true (nat_lt conn n) (opened_after (xs ++ ys) n) p.0 ∙ behind n p.1
    go behind (Quiet opens puts) = opens (xs ++ ys) n ∙ behind n (sym (opens xs n) ∙ e)

-- nothing is put on a connection that was not opened
pub record IsWithin (xs : List Action) (n m : ℕ) : Type 0 where
  pub more : n ≤ m
  pub beyond : (on : ℕ) → m ≤ on → put_on on xs ≡ []

other_put : (conn on : ℕ) (bytes : List ℕ) → conn < on → put_if (conn == on) bytes ≡ []
other_put conn on bytes less = go (conn == on) refl
  where
    go : (b : Bool) → (conn == on) ≡ b → put_if b bytes ≡ []
    go true e = let same = eqb-true conn on e in absurd (omega (arith, same, less))
    go false e = refl

pub within : (xs : List Action) (n m : ℕ) → opened_after xs n ≡ Some m → IsWithin xs n m
within [] n m e = let same = some_same e in record { more = omega (arith, same); beyond = λ on past. refl }
within (x ∷ xs) n m e = go (λ i rest. within xs i m rest) (view x)
  where
    put_then : (on : ℕ) → put_by on x ≡ [] → put_on on xs ≡ [] → put_on on (x ∷ xs) ≡ []
    put_then on first rest = ap (λ bytes. bytes ++ put_on on xs) first ∙ rest

    go : ((i : ℕ) → opened_after xs i ≡ Some m → IsWithin xs i m) → View x → IsWithin (x ∷ xs) n m
    go behind (Opening conn opens puts) =
        let p = only_some (conn == n) (opened_after xs (suc n)) m (sym (opens xs n) ∙ e) in
        let w = behind (suc n) p.1 in
        let more = w.more in
        record { more = omega (arith, more); beyond = λ on past. put_then on (puts on) (w.beyond on past) }
    go behind (Putting conn bytes opens puts) =
        let p = only_some (nat_lt conn n) (opened_after xs n) m (sym (opens xs n) ∙ e) in
        let w = behind n p.1 in
        let more = w.more in
        let less = ltb-true conn n p.0 in
        record { more = more; beyond = λ on past. put_then on (puts on ∙ other_put conn on bytes (omega (arith, less, more, past))) (w.beyond on past) }
    go behind (Quiet opens puts) =
        let w = behind n (sym (opens xs n) ∙ e) in
        record { more = w.more; beyond = λ on past. put_then on (puts on) (w.beyond on past) }

-- ---- effects that are quiet

quiet_one : (x : Action) → is_quiet x ≡ true → ((actions : List Action) (count : ℕ) → opened_after (x ∷ actions) count ≡ opened_after actions count) × ((on : ℕ) → put_by on x ≡ [])
quiet_one (EngineOpen conn role) is = absurd (false≢true is)
quiet_one (EnginePut conn bytes) is = absurd (false≢true is)
quiet_one (Wire to bytes) is = (λ actions count. refl, λ on. refl)
quiet_one (EngineWrite conn bytes) is = (λ actions count. refl, λ on. refl)
quiet_one (EngineClose conn) is = (λ actions count. refl, λ on. refl)
quiet_one (Device bytes) is = (λ actions count. refl, λ on. refl)
quiet_one (Configure address len gateway routes rest) is = (λ actions count. refl, λ on. refl)
quiet_one (Ask cid name) is = (λ actions count. refl, λ on. refl)
quiet_one (Say bytes) is = (λ actions count. refl, λ on. refl)
quiet_one (Report note) is = (λ actions count. refl, λ on. refl)
quiet_one Stop is = (λ actions count. refl, λ on. refl)

pub quiet_put : (xs : List Action) → are_quiet xs ≡ true → (on : ℕ) → put_on on xs ≡ []
quiet_put [] is on = refl
quiet_put (x ∷ xs) is on =
    let p = and_parts (is_quiet x) (are_quiet xs) is in
    ap (λ bytes. bytes ++ put_on on xs) ((quiet_one x p.0).1 on) ∙ quiet_put xs p.1 on

pub quiet_opened : (xs : List Action) → are_quiet xs ≡ true → (count : ℕ) → opened_after xs count ≡ Some count
quiet_opened [] is count = refl
quiet_opened (x ∷ xs) is count =
    let p = and_parts (is_quiet x) (are_quiet xs) is in
    (quiet_one x p.0).0 xs count ∙ quiet_opened xs p.1 count

pub quiet_append : (xs ys : List Action) → are_quiet xs ≡ true → are_quiet ys ≡ true → are_quiet (xs ++ ys) ≡ true
quiet_append [] ys x y = y
quiet_append (a ∷ xs) ys x y =
    let p = and_parts (is_quiet a) (are_quiet xs) x in
    and_from (is_quiet a) (are_quiet (xs ++ ys)) p.0 (quiet_append xs ys p.1 y)
