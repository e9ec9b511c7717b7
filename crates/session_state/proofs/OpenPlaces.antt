-- The numbers of the open sessions, and what they come to.
use Rattle.std.proofs.Common.{◌≡◌, ℕ, zero, suc, ◌+◌, max, Bool, true, false, List, [], ◌∷◌, ◌++◌, length, Option, Some, None, refl, ap, sym, subst, ◌∙◌, arith}
use Rattle.std.specs.Prelude.{◌&&◌, option_map, slice_get, if◌then◌else◌}
use Rattle.std.proofs.lemmas.Option.{none-some}
use Rattle.vpn_base.specs.declared.names.Conn.{Conn}
use Rattle.peer_table.specs.Places.{before_if, earlier, first_place, places_from}
use Rattle.peer_table.specs.KeySessions.{Session, is_open, open_numbers}
use Rattle.peer_table.specs.Exchange.{all_unread, closing, has_message, most_unread, unread}
use Rattle.peer_table.specs.Peer.{Closes, Doing}
use Rattle.peer_table.specs.Time.{closings}
use Rattle.key_sessions.specs.Looks.{listed, listed_as, listed_at}
use Rattle.session_state.specs.internal.OpenOnes.{closings_among, unread_among, unread_in, unread_sum, waiting_among, waits_in}

-- sessions stand at the places from this number on
abbrev pub StandFrom : (ℕ → Option Session) → ℕ → List Session → Type 0
StandFrom at k ss = (i : ℕ) → at (k + i) ≡ slice_get ss i

pub head_of : (at : ℕ → Option Session) (k : ℕ) (s : Session) (ss : List Session) → StandFrom at k (s ∷ ss) → at k ≡ Some s
head_of at k s ss stand = ap at (omega arith) ∙ stand 0

pub tail_of : (at : ℕ → Option Session) (k : ℕ) (s : Session) (ss : List Session) → StandFrom at k (s ∷ ss) → StandFrom at (suc k) ss
tail_of at k s ss stand i = let same : suc k + i ≡ k + suc i = omega arith in ap at same ∙ stand (suc i)

-- ---- unread bytes

unread_by : (at : ℕ → Option Session) (k : ℕ) (s : Session) (b : Bool) (rest : List ℕ) (most : ℕ) → at k ≡ Some s → s.is_open ≡ b → most ≡ unread_among at rest →
    (if b then max (length (unread s)) most else most) ≡ unread_among at (before_if b k rest)
unread_by at k s true rest most here is same =
    ap (max (length (unread s))) same
    ∙ ap (λ (b : Bool). max (if b then length (unread s) else 0) (unread_among at rest)) (sym is)
    ∙ ap (λ (o : Option Session). max (unread_in o) (unread_among at rest)) (sym here)
unread_by at k s false rest most here is same = same

unread_from : (at : ℕ → Option Session) (k : ℕ) (ss : List Session) → StandFrom at k ss → most_unread ss ≡ unread_among at (places_from is_open k ss)
unread_from at k [] stand = refl
unread_from at k (s ∷ ss) stand =
    unread_by at k s s.is_open (places_from is_open (suc k) ss) (most_unread ss) (head_of at k s ss stand) refl (unread_from at (suc k) ss (tail_of at k s ss stand))

pub unread_is : (ss : List Session) → most_unread ss ≡ unread_among (slice_get ss) (open_numbers ss)
unread_is ss = unread_from (slice_get ss) 0 ss (λ i. ap (slice_get ss) (omega arith))

sum_by : (at : ℕ → Option Session) (k : ℕ) (s : Session) (b : Bool) (rest : List ℕ) (all : ℕ) → at k ≡ Some s → s.is_open ≡ b → all ≡ unread_sum at rest →
    (if b then length (unread s) + all else all) ≡ unread_sum at (before_if b k rest)
sum_by at k s true rest all here is same =
    ap (λ (m : ℕ). length (unread s) + m) same
    ∙ ap (λ (b : Bool). (if b then length (unread s) else 0) + unread_sum at rest) (sym is)
    ∙ ap (λ (o : Option Session). unread_in o + unread_sum at rest) (sym here)
sum_by at k s false rest all here is same = same

sum_from : (at : ℕ → Option Session) (k : ℕ) (ss : List Session) → StandFrom at k ss → all_unread ss ≡ unread_sum at (places_from is_open k ss)
sum_from at k [] stand = refl
sum_from at k (s ∷ ss) stand =
    sum_by at k s s.is_open (places_from is_open (suc k) ss) (all_unread ss) (head_of at k s ss stand) refl (sum_from at (suc k) ss (tail_of at k s ss stand))

pub sum_is : (ss : List Session) → all_unread ss ≡ unread_sum (slice_get ss) (open_numbers ss)
sum_is ss = sum_from (slice_get ss) 0 ss (λ i. ap (slice_get ss) (omega arith))

-- ---- closing

closings_by : (at : ℕ → Option Session) (k : ℕ) (s : Session) (b : Bool) (rest : List ℕ) (doings : List Doing) → at k ≡ Some s → doings ≡ closings_among at rest →
    (if b then Closes s.link.conn ∷ doings else doings) ≡ closings_among at (before_if b k rest)
closings_by at k s true rest doings is same =
    ap (λ (ds : List Doing). Closes s.link.conn ∷ ds) same ∙ ap (λ (o : Option Session). closing o ++ closings_among at rest) (sym is)
closings_by at k s false rest doings is same = same

closings_from : (at : ℕ → Option Session) (k : ℕ) (ss : List Session) → StandFrom at k ss → closings ss ≡ closings_among at (places_from is_open k ss)
closings_from at k [] stand = refl
closings_from at k (s ∷ ss) stand =
    closings_by at k s s.is_open (places_from is_open (suc k) ss) (closings ss) (head_of at k s ss stand) (closings_from at (suc k) ss (tail_of at k s ss stand))

pub closings_are : (ss : List Session) → closings ss ≡ closings_among (slice_get ss) (open_numbers ss)
closings_are ss = closings_from (slice_get ss) 0 ss (λ i. ap (slice_get ss) (omega arith))

-- ---- the first session in which a message waits

-- the places from one on
abbrev pub moved : ℕ → Option ℕ → Option ℕ
moved k None = None
moved k (Some n) = Some (k + n)

moved_later : (k : ℕ) (b : Bool) (rest : Option ℕ) → moved k (earlier b rest) ≡ (if b then Some k else moved (suc k) rest)
moved_later k true rest = ap Some (omega arith)
moved_later k false None = refl
moved_later k false (Some n) = ap Some (omega arith)

waiting_by : (at : ℕ → Option Session) (k : ℕ) (s : Session) (o : Bool) (more : Bool) (rest : List ℕ) → at k ≡ Some s → has_message s ≡ (o && more) →
    (if (o && more) then Some k else waiting_among at rest) ≡ waiting_among at (before_if o k rest)
waiting_by at k s true more rest is has =
    ap (λ (b : Bool). if b then Some k else waiting_among at rest) (sym has ∙ ap waits_in (sym is))
waiting_by at k s false more rest is has = refl

open_and : (s : Session) → (more : Bool) × (has_message s ≡ (s.is_open && more))
open_and s = (_, and_assoc s.is_open _ _)
  where
    and_assoc : (a b c : Bool) → ((a && b) && c) ≡ (a && (b && c))
    and_assoc true b c = refl
    and_assoc false b c = refl

waiting_from : (at : ℕ → Option Session) (k : ℕ) (ss : List Session) → StandFrom at k ss →
    moved k (first_place has_message ss) ≡ waiting_among at (places_from is_open k ss)
waiting_from at k [] stand = refl
waiting_from at k (s ∷ ss) stand =
    let more = open_and s in
    moved_later k (has_message s) (first_place has_message ss)
    ∙ ap (λ (rest : Option ℕ). if has_message s then Some k else rest) (waiting_from at (suc k) ss (tail_of at k s ss stand))
    ∙ ap (λ (b : Bool). if b then Some k else waiting_among at (places_from is_open (suc k) ss)) more.1
    ∙ waiting_by at k s s.is_open more.0 (places_from is_open (suc k) ss) (head_of at k s ss stand) more.1

not_moved : (o : Option ℕ) → moved 0 o ≡ o
not_moved None = refl
not_moved (Some n) = ap Some (omega arith)

pub waiting_is : (ss : List Session) → first_place has_message ss ≡ waiting_among (slice_get ss) (open_numbers ss)
waiting_is ss = sym (not_moved (first_place has_message ss)) ∙ waiting_from (slice_get ss) 0 ss (λ i. ap (slice_get ss) (omega arith))

-- ---- the open sessions, as they are listed

-- an open session stands at a place that is listed
pub record OpenAt (at : ℕ → Option Session) (n : ℕ) : Type 0 where
  pub session : Session
  pub here : at n ≡ Some session
  pub is_open : session.is_open ≡ true

open_by : (at : ℕ → Option Session) (k : ℕ) (s : Session) (b : Bool) (rest : List ℕ) (i n : ℕ) → at k ≡ Some s → s.is_open ≡ b →
    slice_get (before_if b k rest) i ≡ Some n → ((j : ℕ) → slice_get rest j ≡ Some n → OpenAt at n) → OpenAt at n
open_by at k s true rest zero n here is got further = let same : k ≡ n = cc got in subst (OpenAt at) same (record { session = s; here = here; is_open = is })
open_by at k s true rest (suc i) n here is got further = further i got
open_by at k s false rest i n here is got further = further i got

open_from : (at : ℕ → Option Session) (k : ℕ) (ss : List Session) (i n : ℕ) → StandFrom at k ss → slice_get (places_from is_open k ss) i ≡ Some n → OpenAt at n
open_from at k [] i n stand got = absurd (none-some n got)
open_from at k (s ∷ ss) i n stand got =
    open_by at k s s.is_open (places_from is_open (suc k) ss) i n (head_of at k s ss stand) refl got
    (λ j here. open_from at (suc k) ss j n (tail_of at k s ss stand) here)

pub is_open_at : (ss : List Session) (i n : ℕ) → slice_get (open_numbers ss) i ≡ Some n → OpenAt (slice_get ss) n
is_open_at ss i n got = open_from (slice_get ss) 0 ss i n (λ j. ap (slice_get ss) (omega arith)) got

-- the number of a session that is listed
abbrev pub number_of : Option (ℕ × ℕ × Conn) → Option ℕ
number_of None = None
number_of (Some r) = Some r.0

number_by : (ss : List Session) (o : Option ℕ) → ((n : ℕ) → o ≡ Some n → OpenAt (slice_get ss) n) → number_of (listed_at ss o) ≡ o
number_by ss None are = refl
number_by ss (Some n) are = let here = are n refl in ap (λ (o : Option Session). number_of (option_map (listed_as n) o)) here.here

pub number_listed : (ss : List Session) (i : ℕ) → number_of (listed ss i) ≡ slice_get (open_numbers ss) i
unfolding listed
number_listed ss i = number_by ss (slice_get (open_numbers ss) i) (λ n got. is_open_at ss i n got)

-- ---- a list by its first items

pub none_of : (xs : List ℕ) → slice_get xs 0 ≡ None → [] ≡ xs
none_of [] e = refl
none_of (x ∷ xs) e = absurd (none-some x (sym e))

pub one_of : (xs : List ℕ) (a : ℕ) → slice_get xs 0 ≡ Some a → slice_get xs 1 ≡ None → a ∷ [] ≡ xs
one_of [] a is e = absurd (none-some a is)
one_of (x ∷ xs) a is e = let same : x ≡ a = cc is in ap (λ (n : ℕ). n ∷ []) (sym same) ∙ ap (λ (ys : List ℕ). x ∷ ys) (none_of xs e)

pub two_of : (xs : List ℕ) (a b : ℕ) → slice_get xs 0 ≡ Some a → slice_get xs 1 ≡ Some b → slice_get xs 2 ≡ None → a ∷ b ∷ [] ≡ xs
two_of [] a b is more e = absurd (none-some a is)
two_of (x ∷ xs) a b is more e = let same : x ≡ a = cc is in ap (λ (n : ℕ). n ∷ b ∷ []) (sym same) ∙ ap (λ (ys : List ℕ). x ∷ ys) (one_of xs b more e)

pub three_of : (xs : List ℕ) (a b d : ℕ) → slice_get xs 0 ≡ Some a → slice_get xs 1 ≡ Some b → slice_get xs 2 ≡ Some d → slice_get xs 3 ≡ None → a ∷ b ∷ d ∷ [] ≡ xs
three_of [] a b d is more third e = absurd (none-some a is)
three_of (x ∷ xs) a b d is more third e = let same : x ≡ a = cc is in ap (λ (n : ℕ). n ∷ b ∷ d ∷ []) (sym same) ∙ ap (λ (ys : List ℕ). x ∷ ys) (two_of xs b d more third e)

-- a number that is listed
pub listed_number : (ss : List Session) (i : ℕ) (o : Option (ℕ × ℕ × Conn)) → o ≡ listed ss i → slice_get (open_numbers ss) i ≡ number_of o
listed_number ss i o is = sym (number_listed ss i) ∙ ap number_of (sym is)
