-- The end of a client gives everything up.
use Rattle.std.proofs.Common.{◌≡◌, ◌≢◌, ℕ, ◌==◌, ◌&&◌, not, cond, nat_lt, Bool, true, false, List, [], ◌∷◌, filter, map, Option, Some, None, option_map, refl, sym, ap, ◌∙◌, subst, inl, inr}
use Rattle.std.specs.Prelude.{◌⊎◌, slice_get, if◌then◌else◌}
use Rattle.std.specs.List.{AllByRecursion}
use Rattle.std.proofs.lemmas.Bool.{and_from, cases_Bool, eq-eqb, eqb-false, eqb-true, false≢true}
use Rattle.vpn_base.specs.declared.address.Ip4.{Ip4}
use Rattle.vpn_base.specs.declared.names.Cause.{Cause}
use Rattle.vpn_base.specs.declared.names.Cid.{Cid}
use Rattle.vpn_base.specs.Network.{contains}
use Rattle.peer_table.specs.KeySessions.{Session, closed, is_open}
use Rattle.peer_table.specs.Orderly.{how_many}
use Rattle.peer_table.specs.Places.{changed_at}
use Rattle.route_table.specs.Owner.{Row, best_row, better, is_owned_by, owner, without}
use Rattle.route_table.specs.Learned.{Host, kept_hosts}
use Rattle.server_table.specs.Table.{Client}
use Rattle.server_table.specs.Lookups.{cid, client_here, has_peer_id, if_here}
use Rattle.server_table.specs.Courses.{Course, Staged}
use Rattle.server_table.specs.Endings.{ended, ended_as, gone}
use Rattle.server_table.specs.GivenUp.{IsGivenUp}
use Rattle.server_table.specs.Sound.{AtMostOne, IsSound}
use Rattle.server_table.proofs.Places.{WasChanged, get_changed, got_changed, some_same}
use Rattle.server_table.proofs.Keeps.{here_at}

-- ---- its rows

abbrev IsOther : ℕ → Row → Type 0
IsOther n row = row.1.0 ≢ n

other_step : (n : ℕ) (row : Row) (rows : List Row) (b : Bool) → (row.1.0 == n) ≡ b → AllByRecursion (IsOther n) rows →
    AllByRecursion (IsOther n) (cond (not b) (row ∷ rows) rows)
other_step n row rows true is all = all
other_step n row rows false is all = (eqb-false row.1.0 n is, all)

other_rows : (n : ℕ) (rows : List Row) → AllByRecursion (IsOther n) (without rows (cid n))
other_rows n [] = tt
other_rows n (row ∷ rows) = other_step n row (without rows (cid n)) (row.1.0 == n) refl (other_rows n rows)

-- ---- its hosts

-- what holds of each row holds of the best
abbrev HoldsOf : (Row → Type 0) → Option Row → Type 0
HoldsOf P None = Unit {0}
HoldsOf P (Some row) = P row

if_holds : (P : Row → Type 0) (b : Bool) (x y : Option Row) → HoldsOf P x → HoldsOf P y → HoldsOf P (if b then x else y)
if_holds P true x y p q = p
if_holds P false x y p q = q

better_holds : (P : Row → Type 0) (a : Ip4) (row : Row) (o : Option Row) → P row → HoldsOf P o → HoldsOf P (better a row o)
better_holds P a row None p q = if_holds P (contains row.0 a) (Some row) None p tt
better_holds P a row (Some later) p q = if_holds P (contains row.0 a && nat_lt later.0.len row.0.len) (Some row) (Some later) p q

best_holds : (P : Row → Type 0) (rows : List Row) (a : Ip4) → AllByRecursion P rows → HoldsOf P (best_row rows a)
best_holds P [] a all = tt
best_holds P (row ∷ rows) a all = better_holds P a row (best_row rows a) all.0 (best_holds P rows a all.1)

not_owner : (n : ℕ) (id : Cid) (o : Option Row) → HoldsOf (IsOther n) o → is_owned_by id (option_map (λ (row : Row). row.1) o) ≡ true → id.0 ≡ n → ⊥
not_owner n id None other owned same = false≢true owned
not_owner n id (Some row) other owned same = other (eqb-true row.1.0 id.0 owned ∙ same)

host_step : (n : ℕ) (host : Host) (hosts : List Host) (b : Bool) → (b ≡ true → host.1.0 ≢ n) → AllByRecursion (λ (host : Host). host.1.0 ≢ n) hosts →
    AllByRecursion (λ (host : Host). host.1.0 ≢ n) (cond b (host ∷ hosts) hosts)
host_step n host hosts true other all = (other refl, all)
host_step n host hosts false other all = all

-- no host stays that was learned from a client without rows
other_hosts : (n : ℕ) (rows : List Row) (hosts : List Host) → AllByRecursion (IsOther n) rows → AllByRecursion (λ (host : Host). host.1.0 ≢ n) (kept_hosts rows hosts)
unfolding kept_hosts owner
other_hosts n rows [] all = tt
other_hosts n rows (host ∷ hosts) all =
    host_step n host (kept_hosts rows hosts) (is_owned_by host.1 (owner rows host.0))
    (λ owned. not_owner n host.1 (best_row rows host.0) (best_holds (IsOther n) rows host.0 all) owned) (other_hosts n rows hosts all)

-- ---- its datagrams

staged_step : (n : ℕ) (s : Staged) (staged : List Staged) (b : Bool) → (s.number == n) ≡ b → AllByRecursion (λ (s : Staged). s.number ≢ n) staged →
    AllByRecursion (λ (s : Staged). s.number ≢ n) (cond (not b) (s ∷ staged) staged)
staged_step n s staged true is all = all
staged_step n s staged false is all = (eqb-false s.number n is, all)

other_staged : (n : ℕ) (staged : List Staged) → AllByRecursion (λ (s : Staged). s.number ≢ n) (filter (λ s. not (s.number == n)) staged)
other_staged n [] = tt
other_staged n (s ∷ staged) = staged_step n s (filter (λ s. not (s.number == n)) staged) (s.number == n) refl (other_staged n staged)

-- ---- its place

none_open : (sessions : List Session) → how_many is_open (map closed sessions) ≡ 0
none_open [] = refl
none_open (s ∷ sessions) = none_open sessions

-- nobody that is here has its peer id
nobody : (clients : List Client) (n : ℕ) (x : Client) → slice_get clients n ≡ Some x → x.is_here ≡ true → AtMostOne (has_peer_id x.peer_id) clients →
    (i : ℕ) (y : Client) → slice_get (changed_at n gone clients) i ≡ Some y → has_peer_id x.peer_id y ≡ false
nobody clients n x there here one i y at = go (cases_Bool (has_peer_id x.peer_id y)) (got_changed n i gone clients y at)
  where
    mine : has_peer_id x.peer_id x ≡ true
    mine = and_from x.is_here (x.peer_id == x.peer_id) here (eq-eqb x.peer_id x.peer_id refl)

    go : (has_peer_id x.peer_id y ≡ true) ⊎ (has_peer_id x.peer_id y ≡ false) → WasChanged n i gone clients y ⊎ (slice_get clients i ≡ Some y) →
        has_peer_id x.peer_id y ≡ false
    go (inr none) was = none
    go (inl passes) (inl w) = ap (has_peer_id x.peer_id) w.changed
    go (inl passes) (inr e) =
        let same : i ≡ n = one i n y x e there passes mine in
        let changed : slice_get (changed_at n gone clients) n ≡ Some y = subst (λ (k : ℕ). slice_get (changed_at n gone clients) k ≡ Some y) same at in
        ap (has_peer_id x.peer_id) (some_same (sym changed ∙ get_changed n gone clients x there))

given_up_as : (n : ℕ) (cause : Cause) (c : Course) (x : Client) → IsSound c.table → client_here c.table n ≡ Some x → IsGivenUp n x (ended_as n cause c (Some x))
unfolding client_here
given_up_as n cause c x s here =
    let at = here_at c.table n x here in
    let changed : slice_get (changed_at n gone c.table.clients) n ≡ Some (gone x) = get_changed n gone c.table.clients x at.there in
    record {
      not_here = ap if_here changed;
      all_closed = λ y there. ap (λ (z : Client). how_many is_open z.session.sessions) (some_same (sym there ∙ changed)) ∙ none_open x.session.sessions;
      no_peer_id = nobody c.table.clients n x at.there at.here (s.peer_ids x.peer_id);
      no_rows = other_rows n c.table.routes.rows;
      no_hosts = other_hosts n (without c.table.routes.rows (cid n)) c.table.routes.learned (other_rows n c.table.routes.rows);
      no_datagrams = other_staged n c.staged;
    }

-- a client that was here has given everything up
pub given_up : (n : ℕ) (cause : Cause) (c : Course) (x : Client) → IsSound c.table → client_here c.table n ≡ Some x → IsGivenUp n x (ended n cause c)
unfolding ended
given_up n cause c x s here =
    subst (λ (o : Option Client). IsGivenUp n x (ended_as n cause c o)) (sym here) (given_up_as n cause c x s here)
