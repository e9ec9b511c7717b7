-- The end of a client keeps what a course keeps.
use Rattle.std.proofs.Common.{◌≡◌, ℕ, ◌==◌, not, cond, Bool, true, false, List, [], ◌∷◌, filter, Option, Some, None, refl, ap, ◌∙◌}
use Rattle.std.proofs.lemmas.Bool.{eqb-false, false≢true}
use Rattle.vpn_base.specs.declared.names.Cause.{Cause}
use Rattle.vpn_links.specs.Actions.{stops}
use Rattle.route_table.specs.Owner.{Row}
use Rattle.peer_table.specs.Outboxes.{actions_of}
use Rattle.peer_table.specs.Places.{changed_at}
use Rattle.peer_table.specs.Time.{closings}
use Rattle.peer_table.specs.declared.outcomes.Turn.{Turn}
use Rattle.peer_table.specs.declared.outcomes.Turn.TheVariants.{Going, Ignored, Named, Exchange, Over}
use Rattle.server_table.specs.Table.{Client, Established, Table}
use Rattle.server_table.specs.Lookups.{client_here, has_session}
use Rattle.server_table.specs.Courses.{Course}
use Rattle.server_table.specs.Endings.{disconnect_line, ended, ended_as, ending_effects, gone, turned}
use Rattle.server_table.specs.Sound.{AreRowsOf, IsEstablishedAt}
use Rattle.server_table.proofs.Places.{get_other}
use Rattle.server_table.proofs.Sessions.{changed_back, shadowed}
use Rattle.server_table.specs.internal.CallsKeepOrder.{CallsKeepOrder}
use Rattle.server_table.proofs.Kept.{Changes, Kept, altered, done_kept, is_plain, onward_actions, orderly_from, stops_append}

established_other : (n : ℕ) (f : Client → Client) (clients : List Client) (i : ℕ) → (i ≡ n → ⊥) → IsEstablishedAt clients i → IsEstablishedAt (changed_at n f clients) i
established_other n f clients i apart is = record {
  client = is.client;
  there = get_other n i f clients apart ∙ is.there;
  here = is.here;
  established = is.established;
}

filtered_step : (n : ℕ) (clients : List Client) (row : Row) (rows : List Row) (b : Bool) → (row.1.0 == n) ≡ b → IsEstablishedAt clients row.1.0 →
    AreRowsOf (changed_at n gone clients) rows → AreRowsOf (changed_at n gone clients) (cond (not b) (row ∷ rows) rows)
filtered_step n clients row rows true e is all = all
filtered_step n clients row rows false e is all = (established_other n gone clients row.1.0 (eqb-false row.1.0 n e) is, all)

-- the rows of all others are those of clients that are here still
filtered_rows : (n : ℕ) (clients : List Client) (rows : List Row) → AreRowsOf clients rows →
    AreRowsOf (changed_at n gone clients) (filter (λ (row : Row). not (row.1.0 == n)) rows)
filtered_rows n clients [] all = tt
filtered_rows n clients (row ∷ rows) all =
    filtered_step n clients row (filter (λ (row : Row). not (row.1.0 == n)) rows) (row.1.0 == n) refl all.0 (filtered_rows n clients rows all.1)

gone_changes : CallsKeepOrder → (y : Client) → Changes y (gone y)
gone_changes calls y = record {
  peer_id = refl;
  here = λ is. absurd (false≢true is);
  session = λ o. (calls.close y.session.remote y.session (orderly_from y.session o)).orderly;
  remote = λ o sid is. is;
}

onward_disconnect : (n : ℕ) (established : Option Established) → stops (disconnect_line n established) ≡ false
onward_disconnect n None = refl
onward_disconnect n (Some e) = refl

plain_ending : (n : ℕ) (cause : Cause) (x : Client) → is_plain (ending_effects n cause x) ≡ true
plain_ending n cause x =
    ap not (stops_append (disconnect_line n x.established) (actions_of x.session.role (closings x.session.sessions))
    (onward_disconnect n x.established) (onward_actions x.session.role (closings x.session.sessions)))

module _ (calls : CallsKeepOrder) {a : Table} {k : ℕ} where
  ended_as_kept : (n : ℕ) (cause : Cause) (c : Course) (x : Option Client) → Kept a k c → Kept a k (ended_as n cause c x)
  ended_as_kept n cause c None is = is
  ended_as_kept n cause c (Some x) is =
      done_kept (ending_effects n cause x) (plain_ending n cause x)
      (altered (filter (λ (row : Row). not (row.1.0 == n)) c.table.routes.rows) n gone (λ y there. gone_changes calls y)
      (λ sound s from sid. shadowed (has_session from sid) c.table.clients (changed_at n gone c.table.clients)
      (changed_back (has_session from sid) n gone c.table.clients (λ y there passes. absurd (false≢true passes))) (s.sessions from sid))
      (λ s. filtered_rows n c.table.clients c.table.routes.rows s.owned)
      is)

  pub ended_kept : (n : ℕ) (cause : Cause) (c : Course) → Kept a k c → Kept a k (ended n cause c)
  unfolding ended
  ended_kept n cause c is = ended_as_kept n cause c (client_here c.table n) is

  pub turned_kept : (n : ℕ) (turn : Turn) (c : Course) → Kept a k c → Kept a k (turned n turn c)
  turned_kept n Going c is = is
  turned_kept n Ignored c is = is
  turned_kept n Named c is = is
  turned_kept n Exchange c is = is
  turned_kept n (Over cause) c is = ended_kept n cause c is
