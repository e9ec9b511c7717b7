-- What a course has kept since its step began.
use Rattle.std.proofs.Common.{◌≡◌, ◌≤◌, ℕ, zero, suc, ◌^◌, Bool, true, false, not, List, [], ◌∷◌, ◌++◌, length, Some, refl, sym, ap, ◌∙◌, subst, inl, inr}
use Rattle.std.specs.Prelude.{◌⊎◌, ◌==◌, ◌&&◌, ◌||◌, slice_get}
use Rattle.std.proofs.lemmas.Bool.{and_from, and_parts}
use Rattle.std.proofs.lemmas.List.Folds.{list_any-append}
use Rattle.vpn_base.specs.declared.address.Addr.{Addr}
use Rattle.vpn_base.specs.declared.names.Role.{Role}
use Rattle.vpn_base.specs.declared.names.Sid.{Sid}
use Rattle.vpn_links.specs.Actions.{Action, Report, is_stop, stops}
use Rattle.route_table.specs.Owner.{Row}
use Rattle.peer_table.specs.Places.{changed_at}
use Rattle.peer_table.specs.Orderly.{IsOrderly, IsOrderlyFrom}
use Rattle.peer_table.specs.Outboxes.{actions_of}
use Rattle.peer_table.specs.Peer.{Closes, Doing, Opens, Peer, Puts, Writes}
use Rattle.server_table.specs.Table.{Client, Table}
use Rattle.server_table.specs.Lookups.{has_peer_id, has_session}
use Rattle.server_table.specs.Courses.{Course}
use Rattle.server_table.specs.Sound.{AreOrderly, AreRowsOf, AtMostOne, IsSound}
use Rattle.server_table.specs.Numbers.{AreStill, IsStillAt}
use Rattle.server_table.specs.Refusals.{is_refusing_note}
use Rattle.server_table.proofs.Places.{WasChanged, got_changed, none_some, some_same}
use Rattle.server_table.proofs.Sessions.{changed_back, shadowed}

-- a peer's own session id of the other end is the one that it has
pub orderly_from : (p : Peer) → IsOrderly p.sessions → IsOrderlyFrom p.remote p
orderly_from p o = record { orderly = o; is_remote = refl }

-- ---- what was done

-- whether an effect is a note of what was refused with nothing done
abbrev pub is_refusing : Action → Bool
is_refusing (Report note) = is_refusing_note note
is_refusing _ = false

-- whether effects begin with something else, if they begin
abbrev pub begins_late : List Action → Bool
begins_late [] = true
begins_late (action ∷ actions) = not (is_refusing action)

pub late_append : (done more : List Action) → begins_late done ≡ true → begins_late more ≡ true → begins_late (done ++ more) ≡ true
late_append [] more d m = m
late_append (action ∷ done) more d m = d

either_none : (a b : Bool) → a ≡ false → b ≡ false → (a || b) ≡ false
either_none false b first second = second
either_none true b first second = first

-- what ends the program stands in neither part
pub stops_append : (done more : List Action) → stops done ≡ false → stops more ≡ false → stops (done ++ more) ≡ false
stops_append done more d m = list_any-append is_stop done more ∙ either_none (stops done) (stops more) d m

-- whether effects begin with no refusal, and none of them ends the program
abbrev pub is_plain : List Action → Bool
is_plain actions = begins_late actions && not (stops actions)

-- its two parts
pub plain_late : (done : List Action) → is_plain done ≡ true → begins_late done ≡ true
plain_late done plain = (and_parts (begins_late done) (not (stops done)) plain).0

pub plain_onward : (done : List Action) → is_plain done ≡ true → stops done ≡ false
plain_onward done plain = not_so (stops done) (and_parts (begins_late done) (not (stops done)) plain).1
  where
    not_so : (b : Bool) → not b ≡ true → b ≡ false
    not_so false is = refl
    not_so true is = sym is

pub plain_from : (done : List Action) → begins_late done ≡ true → stops done ≡ false → is_plain done ≡ true
plain_from done late onward = and_from (begins_late done) (not (stops done)) late (ap not onward)

-- plain effects, and more that are plain
pub plain_append : (done more : List Action) → is_plain done ≡ true → is_plain more ≡ true → is_plain (done ++ more) ≡ true
plain_append done more d m =
    plain_from (done ++ more) (late_append done more (plain_late done d) (plain_late more m)) (stops_append done more (plain_onward done d) (plain_onward more m))

-- what a session did does not end the program
pub onward_actions : (role : Role) (doings : List Doing) → stops (actions_of role doings) ≡ false
onward_actions role [] = refl
onward_actions role (Opens conn ∷ doings) = onward_actions role doings
onward_actions role (Puts conn bytes ∷ doings) = onward_actions role doings
onward_actions role (Writes conn bytes ∷ doings) = onward_actions role doings
onward_actions role (Closes conn ∷ doings) = onward_actions role doings

-- nor does it begin with a refusal
pub plain_actions : (role : Role) (doings : List Doing) → is_plain (actions_of role doings) ≡ true
plain_actions role [] = refl
plain_actions role (Opens conn ∷ doings) = ap not (onward_actions role doings)
plain_actions role (Puts conn bytes ∷ doings) = ap not (onward_actions role doings)
plain_actions role (Writes conn bytes ∷ doings) = ap not (onward_actions role doings)
plain_actions role (Closes conn ∷ doings) = ap not (onward_actions role doings)

-- ---- the parts of a table of which much is known

-- what holds of a sound table, by its parts
pub record IsSoundOf (moment : ℕ) (clients : List Client) (rows : List Row) : Type 0 where
  pub early : moment ≤ 2 ^ 52
  pub orderly : AreOrderly clients
  pub peer_ids : (peer_id : ℕ) → AtMostOne (has_peer_id peer_id) clients
  pub sessions : (from : Addr) (sid : Sid) → AtMostOne (has_session from sid) clients
  pub owned : AreRowsOf clients rows

pub parts_sound : (t : Table) → IsSound t → IsSoundOf t.moment t.clients t.routes.rows
parts_sound t s = record { early = s.moment; orderly = s.orderly; peer_ids = s.peer_ids; sessions = s.sessions; owned = s.rows }

pub whole_sound : (t : Table) → IsSoundOf t.moment t.clients t.routes.rows → IsSound t
whole_sound t s = record { moment = s.early; orderly = s.orderly; peer_ids = s.peer_ids; sessions = s.sessions; rows = s.owned }

-- what no event but the end changes once it is taken: the moment, whether the server was stopped, and how many events it took
abbrev pub steady_of : Table → ℕ × (Bool × ℕ)
steady_of t = (t.moment, (t.is_stopped, t.events))

-- What was kept since a table: its moment, that it was not stopped, and its count of events; so many clients there are; and if it was sound,
-- all is sound, and each client is there still. What was done does not begin with a refusal, and does not end the program.
pub record KeptParts (a : Table) (k : ℕ) (steady_part : ℕ × (Bool × ℕ)) (clients : List Client) (rows : List Row) (done : List Action) : Type 0 where
  pub steady : steady_part ≡ steady_of a
  pub count : length clients ≡ k
  pub sound : IsSound a → IsSoundOf steady_part.0 clients rows
  pub still : IsSound a → AreStill a.clients clients
  pub plain : is_plain done ≡ true

abbrev pub Kept : Table → ℕ → Course → Type 0
Kept a k c = KeptParts a k (steady_of c.table) c.table.clients c.table.routes.rows c.effects

-- ---- changes of one client

pub changed_count : (n : ℕ) (f : Client → Client) (clients : List Client) → length (changed_at n f clients) ≡ length clients
changed_count n f [] = refl
changed_count zero f (x ∷ clients) = refl
changed_count (suc n) f (x ∷ clients) = ap suc (changed_count n f clients)

-- where a client stands in a changed list: changed at its place, or as it was
pub went_changed : (n i : ℕ) (f : Client → Client) (clients : List Client) (x : Client) → slice_get clients i ≡ Some x →
    ((i ≡ n) × (slice_get (changed_at n f clients) i ≡ Some (f x))) ⊎ (slice_get (changed_at n f clients) i ≡ Some x)
went_changed n i f [] x e = absurd (none_some e)
went_changed zero zero f (y ∷ clients) x e = inl (refl, ap (λ (z : Client). Some (f z)) (some_same e))
went_changed zero (suc i) f (y ∷ clients) x e = inr e
went_changed (suc n) zero f (y ∷ clients) x e = inr e
went_changed (suc n) (suc i) f (y ∷ clients) x e = next (went_changed n i f clients x e)
  where
    next : ((i ≡ n) × (slice_get (changed_at n f clients) i ≡ Some (f x))) ⊎ (slice_get (changed_at n f clients) i ≡ Some x) →
        ((suc i ≡ suc n) × (slice_get (changed_at n f clients) i ≡ Some (f x))) ⊎ (slice_get (changed_at n f clients) i ≡ Some x)
    next (inl w) = inl (ap suc w.0, w.1)
    next (inr e) = inr e

-- a change that a client stays itself by
pub record Changes (y z : Client) : Type 0 where
  pub peer_id : z.peer_id ≡ y.peer_id
  pub here : z.is_here ≡ true → y.is_here ≡ true
  pub session : IsOrderly y.session.sessions → IsOrderly z.session.sessions
  pub remote : IsOrderly y.session.sessions → (sid : Sid) → y.session.remote ≡ Some sid → z.session.remote ≡ Some sid

changed_orderly : (n : ℕ) (f : Client → Client) (clients : List Client) → ((y : Client) → slice_get clients n ≡ Some y → Changes y (f y)) →
    AreOrderly clients → AreOrderly (changed_at n f clients)
changed_orderly n f clients changes orderly i z there = go (got_changed n i f clients z there)
  where
    go : WasChanged n i f clients z ⊎ (slice_get clients i ≡ Some z) → IsOrderly z.session.sessions
    go (inl w) =
        let there : slice_get clients n ≡ Some w.item = subst (λ (k : ℕ). slice_get clients k ≡ Some w.item) w.place w.there in
        subst (λ (y : Client). IsOrderly y.session.sessions) (sym w.changed) ((changes w.item there).session (orderly n w.item there))
    go (inr e) = orderly i z e

passes_peer_id : (peer_id : ℕ) (y z : Client) → Changes y z → has_peer_id peer_id z ≡ true → has_peer_id peer_id y ≡ true
passes_peer_id peer_id y z changes is =
    let p = and_parts z.is_here (z.peer_id == peer_id) is in
    and_from y.is_here (y.peer_id == peer_id) (changes.here p.0) (ap (λ (id : ℕ). id == peer_id) (sym changes.peer_id) ∙ p.1)

changed_still : (n : ℕ) (f : Client → Client) (before clients : List Client) → ((y : Client) → slice_get clients n ≡ Some y → Changes y (f y)) →
    AreOrderly clients → AreStill before clients → AreStill before (changed_at n f clients)
changed_still n f before clients changes orderly still i x there =
    let s = still i x there in go s (went_changed n i f clients s.client s.there)
  where
    go : (s : IsStillAt clients i x) → ((i ≡ n) × (slice_get (changed_at n f clients) i ≡ Some (f s.client))) ⊎ (slice_get (changed_at n f clients) i ≡ Some s.client) →
        IsStillAt (changed_at n f clients) i x
    go s (inl w) =
        let at : slice_get clients n ≡ Some s.client = subst (λ (k : ℕ). slice_get clients k ≡ Some s.client) w.0 s.there in
        let ch = changes s.client at in
        record {
          client = f s.client;
          there = w.1;
          peer_id = ch.peer_id ∙ s.peer_id;
          remote = λ sid is. ch.remote (orderly n s.client at) sid (s.remote sid is);
          here = λ is. s.here (ch.here is);
        }
    go s (inr e) = record { client = s.client; there = e; peer_id = s.peer_id; remote = s.remote; here = s.here }

module _ {a : Table} {k : ℕ} where
  -- a change of one client, by what it does to addresses and rows
  pub altered : {m : ℕ × (Bool × ℕ)} {clients : List Client} {rows : List Row} {done : List Action} (later : List Row) (n : ℕ) (f : Client → Client) →
      ((y : Client) → slice_get clients n ≡ Some y → Changes y (f y)) →
      (IsSound a → IsSoundOf m.0 clients rows → (from : Addr) (sid : Sid) → AtMostOne (has_session from sid) (changed_at n f clients)) →
      (IsSoundOf m.0 clients rows → AreRowsOf (changed_at n f clients) later) →
      KeptParts a k m clients rows done → KeptParts a k m (changed_at n f clients) later done
  altered {clients = clients} later n f changes sessions owned is = record {
    steady = is.steady;
    count = changed_count n f clients ∙ is.count;
    sound = λ s. let p = is.sound s in record {
      early = p.early;
      orderly = changed_orderly n f clients changes p.orderly;
      peer_ids = λ peer_id. shadowed (has_peer_id peer_id) clients (changed_at n f clients)
          (changed_back (has_peer_id peer_id) n f clients (λ y there. passes_peer_id peer_id y (f y) (changes y there))) (p.peer_ids peer_id);
      sessions = sessions s p;
      owned = owned p;
    };
    still = λ s. changed_still n f a.clients clients changes (is.sound s).orderly (is.still s);
    plain = is.plain;
  }

  -- something more was done
  pub done_kept : {m : ℕ × (Bool × ℕ)} {clients : List Client} {rows : List Row} {done : List Action} (more : List Action) → is_plain more ≡ true →
      KeptParts a k m clients rows done → KeptParts a k m clients rows (done ++ more)
  done_kept {done = done} more plain is = record {
    steady = is.steady;
    count = is.count;
    sound = is.sound;
    still = is.still;
    plain = plain_append done more is.plain plain;
  }
