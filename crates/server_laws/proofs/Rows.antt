-- The rows of the route table stay those of the established clients, in order of establishing; and learned hosts stay their owners'.
use Rattle.std.proofs.Common.{◌≡◌, ◌≤◌, ℕ, zero, suc, ◌==◌, not, cond, Bool, true, false, List, [], ◌∷◌, ◌++◌, filter, length, take, Option, Some, None, is_some, refl, sym, ap, ap₂, ◌∙◌, subst, inl, inr, append_assoc, append-nil, arith, le_trans, le_of_eq}
use Rattle.std.specs.Prelude.{◌⊎◌, slice_get}
use Rattle.std.specs.List.{AllByRecursion}
use Rattle.std.proofs.lemmas.Bool.{eq-eqb, eqb-false, eqb-true, false≢true}
use Rattle.vpn_base.specs.declared.address.Ip4.{Ip4}
use Rattle.vpn_base.specs.declared.names.Cid.{Cid}
use Rattle.vpn_base.specs.Network.{Network}
use Rattle.route_table.specs.Owner.{Row, is_owned_by, owner, without}
use Rattle.route_table.specs.Learned.{Host, kept_hosts, learnt, most_hosts, other_hosts, rows_of}
use Rattle.peer_table.specs.Places.{changed_at}
use Rattle.server_table.specs.Table.{Client, Established}
use Rattle.server_table.specs.Lookups.{cid}
use Rattle.server_table.specs.Endings.{gone}
use Rattle.server_table.specs.Establishing.{networks_of, with_address}
use Rattle.server_table.specs.Sound.{IsEstablishedAt}
use Rattle.server_laws.specs.Accepted.{IsOneOf}
use Rattle.server_laws.specs.WellKept.{AreDistinct, AreInTime, AreOfOwners, AreThoseEstablished, rows_at, rows_for, rows_with, since_at, since_of}
use Rattle.server_table.proofs.Places.{WasChanged, get_appended, get_changed, get_other, got_appended, got_changed, some_same, went_changed}

-- ---- what is read of the client at a place

pub at_changed : {X Y : Type 0} (F : Option Y → X) (n : ℕ) (f : Y → Y) (clients : List Y) (m : ℕ) →
    ((y : Y) → slice_get clients n ≡ Some y → m ≡ n → F (Some (f y)) ≡ F (Some y)) → F (slice_get (changed_at n f clients) m) ≡ F (slice_get clients m)
at_changed F n f [] m same = refl
at_changed F zero f (x ∷ clients) zero same = same x refl refl
at_changed F zero f (x ∷ clients) (suc m) same = refl
at_changed F (suc n) f (x ∷ clients) zero same = refl
at_changed F (suc n) f (x ∷ clients) (suc m) same = at_changed F n f clients m (λ y there is. same y there (ap suc is))

pub at_appended : {X : Type 0} (F : Option Client → X) (clients : List Client) (x : Client) (m : ℕ) → F (Some x) ≡ F None →
    F (slice_get (clients ++ x ∷ []) m) ≡ F (slice_get clients m)
at_appended F [] x zero same = same
at_appended F [] x (suc m) same = refl
at_appended F (y ∷ clients) x zero same = refl
at_appended F (y ∷ clients) x (suc m) same = at_appended F clients x m same

-- ---- numbers

all_to : {P Q : ℕ → Type 0} (numbers : List ℕ) → ((m : ℕ) → P m → Q m) → AllByRecursion P numbers → AllByRecursion Q numbers
all_to [] to all = tt
all_to (m ∷ numbers) to all = (to m all.0, all_to numbers to all.1)

-- all numbers but one
abbrev others : ℕ → List ℕ → List ℕ
others n numbers = filter (λ (m : ℕ). not (m == n)) numbers

others_step : (Q : ℕ → Type 0) (n m : ℕ) (rest : List ℕ) (b : Bool) → (m == n) ≡ b → ((m ≡ n → ⊥) → Q m) → AllByRecursion Q rest →
    AllByRecursion Q (cond (not b) (m ∷ rest) rest)
others_step Q n m rest true is to all = all
others_step Q n m rest false is to all = (to (eqb-false m n is), all)

all_others : {P Q : ℕ → Type 0} (n : ℕ) (numbers : List ℕ) → ((m : ℕ) → (m ≡ n → ⊥) → P m → Q m) → AllByRecursion P numbers → AllByRecursion Q (others n numbers)
all_others n [] to all = tt
all_others {Q = Q} n (m ∷ numbers) to all = others_step Q n m (others n numbers) (m == n) refl (λ apart. to m apart all.0) (all_others n numbers to all.1)

one_step : (n m k : ℕ) (rest : List ℕ) (b : Bool) → (m == n) ≡ b → (k ≡ n → ⊥) → (k ≡ m) ⊎ IsOneOf rest k → IsOneOf (cond (not b) (m ∷ rest) rest) k
one_step n m k rest true is apart (inl e) = absurd (apart (e ∙ eqb-true m n is))
one_step n m k rest true is apart (inr e) = e
one_step n m k rest false is apart e = e

one_of_others : (n k : ℕ) (numbers : List ℕ) → (k ≡ n → ⊥) → IsOneOf numbers k → IsOneOf (others n numbers) k
one_of_others n k [] apart is = is
one_of_others n k (m ∷ numbers) apart (inl e) = one_step n m k (others n numbers) (m == n) refl apart (inl e)
one_of_others n k (m ∷ numbers) apart (inr e) = one_step n m k (others n numbers) (m == n) refl apart (inr (one_of_others n k numbers apart e))

distinct_step : (n m : ℕ) (rest : List ℕ) (b : Bool) → (m == n) ≡ b → AllByRecursion (λ k. k ≡ m → ⊥) rest → AreDistinct rest → AreDistinct (cond (not b) (m ∷ rest) rest)
distinct_step n m rest true is apart all = all
distinct_step n m rest false is apart all = (apart, all)

distinct_others : (n : ℕ) (numbers : List ℕ) → AreDistinct numbers → AreDistinct (others n numbers)
distinct_others n [] all = tt
distinct_others n (m ∷ numbers) all =
    distinct_step n m (others n numbers) (m == n) refl (all_others n numbers (λ k apart e. e) all.0) (distinct_others n numbers all.1)

time_step : (later : List Client) (n m : ℕ) (rest : List ℕ) (b : Bool) → (m == n) ≡ b →
    ((m ≡ n → ⊥) → AllByRecursion (λ k. since_at (slice_get later m) ≤ since_at (slice_get later k)) rest) → AreInTime later rest →
    AreInTime later (cond (not b) (m ∷ rest) rest)
time_step later n m rest true is first all = all
time_step later n m rest false is first all = (first (eqb-false m n is), all)

time_others : (clients later : List Client) (n : ℕ) (numbers : List ℕ) → ((m : ℕ) → (m ≡ n → ⊥) → since_at (slice_get later m) ≡ since_at (slice_get clients m)) →
    AreInTime clients numbers → AreInTime later (others n numbers)
time_others clients later n [] same all = tt
time_others clients later n (m ∷ numbers) same all =
    time_step later n m (others n numbers) (m == n) refl
    (λ apart. all_others n numbers (λ k other le. let a = same m apart in let b = same k other in omega (arith, a, b, le)) all.0)
    (time_others clients later n numbers same all.1)

time_same : (clients later : List Client) (numbers : List ℕ) → ((m : ℕ) → IsOneOf numbers m → since_at (slice_get later m) ≡ since_at (slice_get clients m)) →
    AreInTime clients numbers → AreInTime later numbers
time_same clients later [] same all = tt
time_same clients later (n ∷ numbers) same all =
    (each numbers (λ m one. same m (inr one)) all.0, time_same clients later numbers (λ m one. same m (inr one)) all.1)
  where
    each : (ms : List ℕ) → ((m : ℕ) → IsOneOf ms m → since_at (slice_get later m) ≡ since_at (slice_get clients m)) →
        AllByRecursion (λ m. since_at (slice_get clients n) ≤ since_at (slice_get clients m)) ms → AllByRecursion (λ m. since_at (slice_get later n) ≤ since_at (slice_get later m)) ms
    each [] to le = tt
    each (m ∷ ms) to le =
        let a = same n (inl refl) in
        let b = to m (inl refl) in
        let first = le.0 in
        (omega (arith, a, b, first), each ms (λ k one. to k (inr one)) le.1)

-- ---- the same rows

-- what the rows are read of stays
pub record ReadsSame (clients later : List Client) : Type 0 where
  pub rows : (m : ℕ) → rows_at m (slice_get later m) ≡ rows_at m (slice_get clients m)
  pub since : (m : ℕ) → since_at (slice_get later m) ≡ since_at (slice_get clients m)
  pub forward : (m : ℕ) → IsEstablishedAt clients m → IsEstablishedAt later m
  pub back : (m : ℕ) → IsEstablishedAt later m → IsEstablishedAt clients m

rows_same : (clients later : List Client) (numbers : List ℕ) → ((m : ℕ) → rows_at m (slice_get later m) ≡ rows_at m (slice_get clients m)) →
    rows_for later numbers ≡ rows_for clients numbers
rows_same clients later [] same = refl
rows_same clients later (n ∷ numbers) same = ap₂ (λ (xs ys : List Row). xs ++ ys) (same n) (rows_same clients later numbers same)

pub reads_same : (clients later : List Client) (moment : ℕ) (rows : List Row) → ReadsSame clients later → AreThoseEstablished clients moment rows →
    AreThoseEstablished later moment rows
reads_same clients later moment rows same is = record {
  order = is.order;
  established = all_to is.order same.forward is.established;
  all = λ m e. is.all m (same.back m e);
  distinct = is.distinct;
  in_time = time_same clients later is.order (λ m one. same.since m) is.in_time;
  until = all_to is.order (λ m le. let e = same.since m in omega (arith, e, le)) is.until;
  are_theirs = is.are_theirs ∙ sym (rows_same clients later is.order same.rows);
}

-- a later moment does as well
pub until_later : (clients : List Client) (moment later : ℕ) (rows : List Row) → moment ≤ later → AreThoseEstablished clients moment rows → AreThoseEstablished clients later rows
until_later clients moment later rows le is = record {
  order = is.order;
  established = is.established;
  all = is.all;
  distinct = is.distinct;
  in_time = is.in_time;
  until = all_to is.order (λ m e. le_trans e le) is.until;
  are_theirs = is.are_theirs;
}

-- a client that changes and stays established or not
pub record StaysAt (n : ℕ) (y z : Client) : Type 0 where
  pub here : z.is_here ≡ y.is_here
  pub established : z.established ≡ y.established
  pub rows : rows_at n (Some z) ≡ rows_at n (Some y)

changed_back : (n : ℕ) (f : Client → Client) (clients : List Client) → ((y : Client) → slice_get clients n ≡ Some y → StaysAt n y (f y)) →
    (m : ℕ) → IsEstablishedAt (changed_at n f clients) m → IsEstablishedAt clients m
changed_back n f clients stays m e = go (got_changed n m f clients e.client e.there)
  where
    go : WasChanged n m f clients e.client ⊎ (slice_get clients m ≡ Some e.client) → IsEstablishedAt clients m
    go (inl w) =
        let s = stays w.item (subst (λ (k : ℕ). slice_get clients k ≡ Some w.item) w.place w.there) in
        record {
          client = w.item;
          there = w.there;
          here = sym s.here ∙ ap (λ (y : Client). y.is_here) (sym w.changed) ∙ e.here;
          established = ap (λ (o : Option Established). is_some o) (sym s.established) ∙ ap (λ (y : Client). is_some y.established) (sym w.changed) ∙ e.established;
        }
    go (inr there) = record { client = e.client; there = there; here = e.here; established = e.established }

changed_forward : (n : ℕ) (f : Client → Client) (clients : List Client) → ((y : Client) → slice_get clients n ≡ Some y → StaysAt n y (f y)) →
    (m : ℕ) → IsEstablishedAt clients m → IsEstablishedAt (changed_at n f clients) m
changed_forward n f clients stays m e = go (went_changed n m f clients e.client e.there)
  where
    go : ((m ≡ n) × (slice_get (changed_at n f clients) m ≡ Some (f e.client))) ⊎ (slice_get (changed_at n f clients) m ≡ Some e.client) →
        IsEstablishedAt (changed_at n f clients) m
    go (inl w) =
        let s = stays e.client (subst (λ (k : ℕ). slice_get clients k ≡ Some e.client) w.0 e.there) in
        record { client = f e.client; there = w.1; here = s.here ∙ e.here; established = ap (λ (o : Option Established). is_some o) s.established ∙ e.established }
    go (inr there) = record { client = e.client; there = there; here = e.here; established = e.established }

pub changed_reads : (n : ℕ) (f : Client → Client) (clients : List Client) → ((y : Client) → slice_get clients n ≡ Some y → StaysAt n y (f y)) →
    ReadsSame clients (changed_at n f clients)
changed_reads n f clients stays = record {
  rows = λ m. at_changed (rows_at m) n f clients m (λ y there is. subst (λ (k : ℕ). rows_at k (Some (f y)) ≡ rows_at k (Some y)) (sym is) (stays y there).rows);
  since = λ m. at_changed since_at n f clients m (λ y there is. ap (λ (o : Option Established). since_of o) (stays y there).established);
  forward = changed_forward n f clients stays;
  back = changed_back n f clients stays;
}

pub appended_reads : (clients : List Client) (x : Client) → x.established ≡ None → ReadsSame clients (clients ++ x ∷ [])
appended_reads clients x none = record {
  rows = λ m. at_appended (rows_at m) clients x m (ap (λ (o : Option Established). rows_with m x o) none);
  since = λ m. at_appended since_at clients x m (ap (λ (o : Option Established). since_of o) none);
  forward = λ m e. record { client = e.client; there = get_appended clients x m e.client e.there; here = e.here; established = e.established };
  back = back;
}
  where
    back : (m : ℕ) → IsEstablishedAt (clients ++ x ∷ []) m → IsEstablishedAt clients m
    back m e = go (got_appended clients x m e.client e.there)
      where
        go : ((m ≡ length clients) × (e.client ≡ x)) ⊎ (slice_get clients m ≡ Some e.client) → IsEstablishedAt clients m
        go (inl w) = absurd (false≢true (sym (ap (λ (y : Client). is_some y.established) w.1 ∙ ap (λ (o : Option Established). is_some o) none) ∙ e.established))
        go (inr there) = record { client = e.client; there = there; here = e.here; established = e.established }

-- ---- a client ends

append_step : (row : Row) (all xs ys : List Row) (b : Bool) → all ≡ xs ++ ys → cond (not b) (row ∷ all) all ≡ cond (not b) (row ∷ xs) xs ++ ys
append_step row all xs ys true e = e
append_step row all xs ys false e = ap (λ (rows : List Row). row ∷ rows) e

pub without_append : (xs ys : List Row) (id : Cid) → without (xs ++ ys) id ≡ without xs id ++ without ys id
without_append [] ys id = refl
without_append (row ∷ xs) ys id = append_step row (without (xs ++ ys) id) (without xs id) (without ys id) (row.1.0 == id.0) (without_append xs ys id)

without_own : (n : ℕ) (networks : List Network) → without (rows_of (cid n) networks) (cid n) ≡ []
without_own n [] = refl
without_own n (network ∷ networks) =
    ap (λ (b : Bool). cond (not b) ((network, cid n) ∷ without (rows_of (cid n) networks) (cid n)) (without (rows_of (cid n) networks) (cid n))) (eq-eqb n n refl)
    ∙ without_own n networks

without_other : (n m : ℕ) (networks : List Network) → (m == n) ≡ false → without (rows_of (cid m) networks) (cid n) ≡ rows_of (cid m) networks
without_other n m [] apart = refl
without_other n m (network ∷ networks) apart =
    ap (λ (b : Bool). cond (not b) ((network, cid m) ∷ without (rows_of (cid m) networks) (cid n)) (without (rows_of (cid m) networks) (cid n))) apart
    ∙ ap (λ (rows : List Row). (network, cid m) ∷ rows) (without_other n m networks apart)

own_with : (n : ℕ) (x : Client) (o : Option Established) → without (rows_with n x o) (cid n) ≡ []
own_with n x None = refl
own_with n x (Some e) = without_own n (networks_of x e.address)

own_at : (n : ℕ) (o : Option Client) → without (rows_at n o) (cid n) ≡ []
own_at n None = refl
own_at n (Some x) = own_with n x x.established

other_with : (n m : ℕ) (x : Client) (o : Option Established) → (m == n) ≡ false → without (rows_with m x o) (cid n) ≡ rows_with m x o
other_with n m x None apart = refl
other_with n m x (Some e) apart = without_other n m (networks_of x e.address) apart

other_at : (n m : ℕ) (o : Option Client) → (m == n) ≡ false → without (rows_at m o) (cid n) ≡ rows_at m o
other_at n m None apart = refl
other_at n m (Some x) apart = other_with n m x x.established apart

ended_step : (clients : List Client) (n m : ℕ) (rest : List ℕ) (b : Bool) → (m == n) ≡ b →
    without (rows_at m (slice_get clients m)) (cid n) ++ rows_for (changed_at n gone clients) rest ≡ rows_for (changed_at n gone clients) (cond (not b) (m ∷ rest) rest)
ended_step clients n m rest true is =
    ap (λ (rows : List Row). rows ++ rows_for (changed_at n gone clients) rest)
    (subst (λ (k : ℕ). without (rows_at m (slice_get clients m)) (cid k) ≡ []) (eqb-true m n is) (own_at m (slice_get clients m)))
ended_step clients n m rest false is =
    ap (λ (rows : List Row). rows ++ rows_for (changed_at n gone clients) rest)
    (other_at n m (slice_get clients m) is ∙ sym (ap (rows_at m) (get_other n m gone clients (eqb-false m n is))))

ended_rows : (clients : List Client) (n : ℕ) (numbers : List ℕ) → without (rows_for clients numbers) (cid n) ≡ rows_for (changed_at n gone clients) (others n numbers)
ended_rows clients n [] = refl
ended_rows clients n (m ∷ numbers) =
    without_append (rows_at m (slice_get clients m)) (rows_for clients numbers) (cid n)
    ∙ ap (λ (rows : List Row). without (rows_at m (slice_get clients m)) (cid n) ++ rows) (ended_rows clients n numbers)
    ∙ ended_step clients n m (others n numbers) (m == n) refl

-- who is established once a client has ended is another one, and was
record WasOther (clients : List Client) (n m : ℕ) : Type 0 where
  apart : m ≡ n → ⊥
  was : IsEstablishedAt clients m

was_other : (clients : List Client) (n m : ℕ) → IsEstablishedAt (changed_at n gone clients) m → WasOther clients n m
was_other clients n m e = go (got_changed n m gone clients e.client e.there)
  where
    not_here : (y : Client) → e.client ≡ gone y → ⊥
    not_here y same = false≢true (sym (ap (λ (z : Client). z.is_here) same) ∙ e.here)

    apart : m ≡ n → ⊥
    apart same = at (got_changed n m gone clients e.client e.there)
      where
        at : WasChanged n m gone clients e.client ⊎ (slice_get clients m ≡ Some e.client) → ⊥
        at (inl w) = not_here w.item w.changed
        at (inr there) = not_here e.client (some_same (sym e.there ∙ subst (λ (k : ℕ). slice_get (changed_at n gone clients) k ≡ Some (gone e.client)) (sym same)
            (get_changed n gone clients e.client (subst (λ (k : ℕ). slice_get clients k ≡ Some e.client) same there))))

    go : WasChanged n m gone clients e.client ⊎ (slice_get clients m ≡ Some e.client) → WasOther clients n m
    go (inl w) = absurd (not_here w.item w.changed)
    go (inr there) = record { apart = apart; was = record { client = e.client; there = there; here = e.here; established = e.established } }

pub ended_those : (clients : List Client) (n moment : ℕ) (rows : List Row) → AreThoseEstablished clients moment rows →
    AreThoseEstablished (changed_at n gone clients) moment (without rows (cid n))
ended_those clients n moment rows is =
    let since : (m : ℕ) → (m ≡ n → ⊥) → since_at (slice_get (changed_at n gone clients) m) ≡ since_at (slice_get clients m)
    = λ m apart. ap since_at (get_other n m gone clients apart) in
    record {
      order = others n is.order;
      established = all_others n is.order
          (λ m apart e. record { client = e.client; there = get_other n m gone clients apart ∙ e.there; here = e.here; established = e.established }) is.established;
      all = λ m e. let w = was_other clients n m e in one_of_others n m is.order w.apart (is.all m w.was);
      distinct = distinct_others n is.order is.distinct;
      in_time = time_others clients (changed_at n gone clients) n is.order since is.in_time;
      until = all_others n is.order (λ m apart le. let e = since m apart in omega (arith, e, le)) is.until;
      are_theirs = ap (λ (rows : List Row). without rows (cid n)) is.are_theirs ∙ ended_rows clients n is.order;
    }

-- ---- a client is established

one_appended : (numbers : List ℕ) (n : ℕ) → IsOneOf (numbers ++ n ∷ []) n
one_appended [] n = inl refl
one_appended (m ∷ numbers) n = inr (one_appended numbers n)

one_still : (numbers : List ℕ) (n m : ℕ) → IsOneOf numbers m → IsOneOf (numbers ++ n ∷ []) m
one_still [] n m one = elim one [ ]
one_still (k ∷ numbers) n m (inl e) = inl e
one_still (k ∷ numbers) n m (inr e) = inr (one_still numbers n m e)

all_appended : (P : ℕ → Type 0) (numbers : List ℕ) (n : ℕ) → AllByRecursion P numbers → P n → AllByRecursion P (numbers ++ n ∷ [])
all_appended P [] n all is = (is, tt)
all_appended P (m ∷ numbers) n all is = (all.0, all_appended P numbers n all.1 is)

all_one : (P : ℕ → Type 0) (numbers : List ℕ) (m : ℕ) → AllByRecursion P numbers → IsOneOf numbers m → P m
all_one P [] m all one = elim one [ ]
all_one P (k ∷ numbers) m all (inl e) = subst P (sym e) all.0
all_one P (k ∷ numbers) m all (inr e) = all_one P numbers m all.1 e

distinct_appended : (numbers : List ℕ) (n : ℕ) → AllByRecursion (λ m. m ≡ n → ⊥) numbers → AreDistinct numbers → AreDistinct (numbers ++ n ∷ [])
distinct_appended [] n apart all = (tt, tt)
distinct_appended (m ∷ numbers) n apart all = (all_appended (λ k. k ≡ m → ⊥) numbers n all.0 (λ e. apart.0 (sym e)), distinct_appended numbers n apart.1 all.1)

time_appended : (clients : List Client) (numbers : List ℕ) (n : ℕ) → AllByRecursion (λ m. since_at (slice_get clients m) ≤ since_at (slice_get clients n)) numbers →
    AreInTime clients numbers → AreInTime clients (numbers ++ n ∷ [])
time_appended clients [] n until all = (tt, tt)
time_appended clients (m ∷ numbers) n until all = (all_appended (λ k. since_at (slice_get clients m) ≤ since_at (slice_get clients k)) numbers n all.0 until.0, time_appended clients numbers n until.1 all.1)

rows_appended : (clients : List Client) (numbers : List ℕ) (n : ℕ) → rows_for clients (numbers ++ n ∷ []) ≡ rows_for clients numbers ++ rows_at n (slice_get clients n)
rows_appended clients [] n = append-nil (rows_at n (slice_get clients n))
rows_appended clients (m ∷ numbers) n =
    ap (λ (rows : List Row). rows_at m (slice_get clients m) ++ rows) (rows_appended clients numbers n)
    ∙ sym (append_assoc (rows_at m (slice_get clients m)) (rows_for clients numbers) (rows_at n (slice_get clients n)))

rows_of_those : (clients later : List Client) (numbers : List ℕ) → ((m : ℕ) → IsOneOf numbers m → slice_get later m ≡ slice_get clients m) →
    rows_for later numbers ≡ rows_for clients numbers
rows_of_those clients later [] same = refl
rows_of_those clients later (n ∷ numbers) same =
    ap₂ (λ (xs ys : List Row). xs ++ ys) (ap (rows_at n) (same n (inl refl))) (rows_of_those clients later numbers (λ m one. same m (inr one)))

-- a number of the order is another one than that of a client that is not established
apart_from : (clients : List Client) (n m : ℕ) (x : Client) → slice_get clients n ≡ Some x → x.established ≡ None → IsEstablishedAt clients m → m ≡ n → ⊥
apart_from clients n m x there none e same =
    let at : e.client ≡ x = some_same (sym e.there ∙ subst (λ (k : ℕ). slice_get clients k ≡ Some x) (sym same) there) in
    false≢true (sym (ap (λ (y : Client). is_some y.established) at ∙ ap (λ (o : Option Established). is_some o) none) ∙ e.established)

until_same : (clients later : List Client) (moment bound : ℕ) (numbers : List ℕ) → moment ≤ bound →
    ((m : ℕ) → IsOneOf numbers m → since_at (slice_get later m) ≡ since_at (slice_get clients m)) →
    AllByRecursion (λ m. since_at (slice_get clients m) ≤ moment) numbers → AllByRecursion (λ m. since_at (slice_get later m) ≤ bound) numbers
until_same clients later moment bound [] le same all = tt
until_same clients later moment bound (n ∷ numbers) le same all =
    let e = same n (inl refl) in
    let first = all.0 in
    (omega (arith, e, first, le), until_same clients later moment bound numbers le (λ m one. same m (inr one)) all.1)

established_all : (clients : List Client) (n : ℕ) (f : Client → Client) (order : List ℕ) → ((m : ℕ) → IsEstablishedAt clients m → IsOneOf order m) →
    (m : ℕ) → IsEstablishedAt (changed_at n f clients) m → IsOneOf (order ++ n ∷ []) m
established_all clients n f order all m e = go (got_changed n m f clients e.client e.there)
  where
    go : WasChanged n m f clients e.client ⊎ (slice_get clients m ≡ Some e.client) → IsOneOf (order ++ n ∷ []) m
    go (inl w) = subst (λ (k : ℕ). IsOneOf (order ++ n ∷ []) k) (sym w.place) (one_appended order n)
    go (inr there) = one_still order n m (all m (record { client = e.client; there = there; here = e.here; established = e.established }))

pub established_those : (clients : List Client) (n moment : ℕ) (a : Ip4) (x : Client) (rows : List Row) → slice_get clients n ≡ Some x → x.is_here ≡ true → x.established ≡ None →
    AreThoseEstablished clients moment rows → AreThoseEstablished (changed_at n (with_address a moment) clients) moment (rows ++ rows_of (cid n) (networks_of x a))
established_those clients n moment a x rows there here none is =
    let f : Client → Client = with_address a moment in
    let later : List Client = changed_at n f clients in
    let apart : (m : ℕ) → IsOneOf is.order m → m ≡ n → ⊥ = λ m one. apart_from clients n m x there none (all_one (IsEstablishedAt clients) is.order m is.established one) in
    let among : (m : ℕ) → IsOneOf is.order m → slice_get later m ≡ slice_get clients m = λ m one. get_other n m f clients (apart m one) in
    let changed : slice_get later n ≡ Some (f x) = get_changed n f clients x there in
    let since : since_at (slice_get later n) ≡ moment = ap since_at changed in
    record {
      order = is.order ++ n ∷ [];
      established = all_appended (IsEstablishedAt later) is.order n
          (all_to is.order
          (λ m e. record { client = e.client; there = get_other n m f clients (apart_from clients n m x there none e) ∙ e.there; here = e.here; established = e.established })
          is.established)
          (record { client = f x; there = changed; here = here; established = refl });
      all = established_all clients n f is.order is.all;
      distinct = distinct_appended is.order n (all_to is.order (λ m e. apart_from clients n m x there none e) is.established) is.distinct;
      in_time = time_appended later is.order n
          (until_same clients later moment (since_at (slice_get later n)) is.order (le_of_eq (sym since)) (λ m one. ap since_at (among m one)) is.until)
          (time_same clients later is.order (λ m one. ap since_at (among m one)) is.in_time);
      until = all_appended (λ m. since_at (slice_get later m) ≤ moment) is.order n
          (until_same clients later moment moment is.order (le_of_eq refl) (λ m one. ap since_at (among m one)) is.until) (le_of_eq since);
      are_theirs =
          ap₂ (λ (xs ys : List Row). xs ++ ys) (is.are_theirs ∙ sym (rows_of_those clients later is.order among)) (sym (ap (rows_at n) changed))
          ∙ sym (rows_appended later is.order n);
    }

-- ---- the hosts

hosts_step : (Q : Host → Type 0) (host : Host) (rest : List Host) (b : Bool) → Q host → AllByRecursion Q rest → AllByRecursion Q (cond b (host ∷ rest) rest)
hosts_step Q host rest true is all = (is, all)
hosts_step Q host rest false is all = all

all_hosts : (Q : Host → Type 0) (hosts : List Host) (keep : Host → Bool) → AllByRecursion Q hosts → AllByRecursion Q (filter keep hosts)
all_hosts Q [] keep all = tt
all_hosts Q (host ∷ hosts) keep all = hosts_step Q host (filter keep hosts) (keep host) all.0 (all_hosts Q hosts keep all.1)

few_hosts : (Q : Host → Type 0) (most : ℕ) (hosts : List Host) → AllByRecursion Q hosts → AllByRecursion Q (take most hosts)
few_hosts Q zero hosts all = tt
few_hosts Q (suc most) [] all = tt
few_hosts Q (suc most) (host ∷ hosts) all = (all.0, few_hosts Q most hosts all.1)

is_owner : (id : Cid) (found : Option Cid) → is_owned_by id found ≡ true → found ≡ Some id
is_owner id None e = absurd (false≢true e)
is_owner id (Some found) e = ap (λ (m : ℕ). Some (cid m)) (eqb-true found.0 id.0 e)

owned_step : (rows : List Row) (host : Host) (rest : List Host) (b : Bool) → is_owned_by host.1 (owner rows host.0) ≡ b → AreOfOwners rows rest → AreOfOwners rows (cond b (host ∷ rest) rest)
owned_step rows host rest true owned all = (is_owner host.1 (owner rows host.0) owned, all)
owned_step rows host rest false owned all = all

-- the hosts that are kept are their owners'
pub kept_owned : (rows : List Row) (hosts : List Host) → AreOfOwners rows (kept_hosts rows hosts)
unfolding kept_hosts
kept_owned rows [] = tt
kept_owned rows (host ∷ hosts) = owned_step rows host (kept_hosts rows hosts) (is_owned_by host.1 (owner rows host.0)) refl (kept_owned rows hosts)

-- so is one that is learned of its owner
pub learnt_owned : (rows : List Row) (a : Ip4) (id : Cid) (hosts : List Host) → owner rows a ≡ Some id → AreOfOwners rows hosts → AreOfOwners rows (learnt a id hosts)
unfolding learnt
learnt_owned rows a id hosts owned all =
    few_hosts (λ (host : Host). owner rows host.0 ≡ Some host.1) most_hosts ((a, id) ∷ other_hosts a hosts) (owned, all_hosts (λ (host : Host). owner rows host.0 ≡ Some host.1) hosts (λ host. not (host.0.0 == a.0)) all)
