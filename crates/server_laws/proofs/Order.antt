-- A step keeps the order of the rows.
use Rattle.std.proofs.Common.{◌≡◌, ℕ, ◌==◌, not, cond, Bool, true, false, List, [], ◌∷◌, ◌++◌, Option, Some, None, is_some, sym, ap, ◌∙◌, append_assoc, append-nil}
use Rattle.std.specs.Prelude.{slice_get}
use Rattle.std.specs.List.{AllByRecursion}
use Rattle.std.proofs.lemmas.Bool.{false≢true}
use Rattle.vpn_base.specs.Network.{Network}
use Rattle.vpn_links.specs.declared.events.Event.{Event}
use Rattle.route_table.specs.Owner.{Row, without}
use Rattle.route_table.specs.Learned.{rows_of}
use Rattle.server_table.specs.Table.{Client, Established, Table}
use Rattle.server_table.specs.Lookups.{cid}
use Rattle.server_table.specs.Courses.{Course}
use Rattle.server_table.specs.Establishing.{networks_of}
use Rattle.server_table.specs.Sound.{IsEstablishedAt}
use Rattle.server_table.specs.Step.{course_begun, step}
use Rattle.server_laws.specs.WellKept.{FollowRows, rows_without}
use Rattle.server_table.proofs.Places.{some_same}
use Rattle.server_table.proofs.Keeps.{here_at}
use Rattle.server_laws.proofs.Closed.{DealsWith, IsClosed}
use Rattle.server_laws.proofs.Everything.{came_kept, seals_all}
use Rattle.server_laws.proofs.Ids.{AllKept, all_same, since_closed}
use Rattle.server_laws.proofs.Rows.{without_append}
use Rattle.server_laws.proofs.Steps.{by_over}

-- rows of clients that were not established in these
abbrev AreNew : List Client → List Row → Type 0
AreNew clients rows = AllByRecursion (λ (row : Row). IsEstablishedAt clients row.1.0 → ⊥) rows

new_step : (clients : List Client) (row : Row) (rows : List Row) (b : Bool) → (IsEstablishedAt clients row.1.0 → ⊥) → AreNew clients rows → AreNew clients (cond (not b) (row ∷ rows) rows)
new_step clients row rows true is all = all
new_step clients row rows false is all = (is, all)

new_without : (clients : List Client) (n : ℕ) (rows : List Row) → AreNew clients rows → AreNew clients (without rows (cid n))
new_without clients n [] all = tt
new_without clients n (row ∷ rows) all = new_step clients row (without rows (cid n)) (row.1.0 == n) all.0 (new_without clients n rows all.1)

new_append : (clients : List Client) (xs ys : List Row) → AreNew clients xs → AreNew clients ys → AreNew clients (xs ++ ys)
new_append clients [] ys all more = more
new_append clients (x ∷ xs) ys all more = (all.0, new_append clients xs ys all.1 more)

new_rows : (clients : List Client) (n : ℕ) (networks : List Network) → (IsEstablishedAt clients n → ⊥) → AreNew clients (rows_of (cid n) networks)
new_rows clients n [] is = tt
new_rows clients n (network ∷ networks) is = (is, new_rows clients n networks is)

-- the rows follow those of a table, and what was established there stays so
record Follows (t : Table) (clients : List Client) (rows : List Row) : Type 0 where
  gone : List ℕ
  added : List Row
  are_new : AreNew t.clients added
  are_rows : rows ≡ rows_without gone t.routes.rows ++ added
  kept : AllKept t.clients clients

abbrev InOrder : Table → Course → Type 0
InOrder t c = Follows t c.table.clients c.table.routes.rows

later_clients : (t : Table) (clients later : List Client) (rows : List Row) → AllKept t.clients later → Follows t clients rows → Follows t later rows
later_clients t clients later rows kept is = record { gone = is.gone; added = is.added; are_new = is.are_new; are_rows = is.are_rows; kept = kept }

-- who is not established was not
not_before : (t : Table) (clients : List Client) (n : ℕ) (x : Client) → AllKept t.clients clients → slice_get clients n ≡ Some x → x.established ≡ None → IsEstablishedAt t.clients n → ⊥
not_before t clients n x kept there none e =
    let w = kept n e.client e.there in
    let same : w.client ≡ x = some_same (sym w.there ∙ there) in
    false≢true (sym (ap (λ (y : Client). is_some y.established) same ∙ ap (λ (o : Option Established). is_some o) none) ∙ w.established e.established)

order_closed : (t : Table) → IsClosed (InOrder t)
order_closed t = record {
  quiet = λ actions c none is. is;
  other = λ counted into outof stopped c is. is;
  acts = λ n x o c here peer is.
      later_clients t c.table.clients _ c.table.routes.rows ((since_closed t.clients).acts n x o c here peer is.kept) is;
  exchanges = λ n x ccd o c here known ex is.
      later_clients t c.table.clients _ c.table.routes.rows ((since_closed t.clients).exchanges n x ccd o c here known ex is.kept) is;
  alters = λ n f c keeps is. later_clients t c.table.clients _ c.table.routes.rows ((since_closed t.clients).alters n f c keeps is.kept) is;
  ends = λ n cause x c here is. record {
    gone = n ∷ is.gone;
    added = without is.added (cid n);
    are_new = new_without t.clients n is.added is.are_new;
    are_rows = ap (λ (rows : List Row). without rows (cid n)) is.are_rows ∙ without_append (rows_without is.gone t.routes.rows) is.added (cid n);
    kept = (since_closed t.clients).ends n cause x c here is.kept;
  };
  establishes = λ n conn x l c here ready is. record {
    gone = is.gone;
    added = is.added ++ rows_of (cid n) (networks_of x l.0);
    are_new = new_append t.clients is.added (rows_of (cid n) (networks_of x l.0)) is.are_new
        (new_rows t.clients n (networks_of x l.0) (not_before t c.table.clients n x is.kept (here_at c.table n x here).there ready.new));
    are_rows = ap (λ (rows : List Row). rows ++ rows_of (cid n) (networks_of x l.0)) is.are_rows
        ∙ append_assoc (rows_without is.gone t.routes.rows) is.added (rows_of (cid n) (networks_of x l.0));
    kept = (since_closed t.clients).establishes n conn x l c here ready is.kept;
  };
  admits = λ from draw c is. later_clients t c.table.clients _ c.table.routes.rows ((since_closed t.clients).admits from draw c is.kept) is;
}

order_deals : (t : Table) → DealsWith (InOrder t)
order_deals t = record {
  seals = λ inner. seals_all (order_closed t) (λ to bytes c is. is) inner;
  learns = λ n host c owned is. is;
  queues = λ inner c few is. is;
  dequeues = λ packet rest c same is. is;
}

follow_of : (t u : Table) → Follows t u.clients u.routes.rows → FollowRows t u
follow_of t u is = record { gone = is.gone; added = is.added; are_new = is.are_new; are_rows = is.are_rows }

order_begun : (t : Table) → Follows t t.clients t.routes.rows
order_begun t = record { gone = []; added = []; are_new = tt; are_rows = sym (append-nil t.routes.rows); kept = all_same t.clients }

pub step_follows : (lacks : Bool) (t : Table) (event : Event) → FollowRows t (step lacks t event).table
step_follows lacks t event =
    follow_of t (step lacks t event).table
    (by_over (InOrder t) lacks t event (order_begun t)
    (λ goes. came_kept (order_closed t) (order_deals t) (λ to c is. is) lacks event.draw event.kind (course_begun t event) (order_begun t)))
