-- Changes of a client that keep where it is found, and the rows of the route table.
use Rattle.std.proofs.Common.{◌≡◌, ℕ, Bool, true, false, List, [], ◌∷◌, is_some, Option, Some, None, refl, sym, ap, ◌∙◌, subst, inl, inr}
use Rattle.std.specs.Prelude.{◌⊎◌, ◌&&◌, slice_get, if◌then◌else◌}
use Rattle.std.specs.List.{AllByRecursion}
use Rattle.vpn_base.specs.declared.address.Addr.{Addr}
use Rattle.vpn_base.specs.declared.names.Sid.{Sid}
use Rattle.vpn_links.specs.Actions.{Action}
use Rattle.route_table.specs.Owner.{Row}
use Rattle.peer_table.specs.Places.{changed_at}
use Rattle.peer_table.specs.Orderly.{IsOrderly, IsOrderlyFrom}
use Rattle.peer_table.specs.Outboxes.{actions_of}
use Rattle.peer_table.specs.Peer.{Outcome}
use Rattle.server_table.specs.Table.{Client, Table}
use Rattle.server_table.specs.Lookups.{client_here, has_session, if_here, is_address, is_sid}
use Rattle.server_table.specs.Courses.{Course, acted, did}
use Rattle.server_table.specs.Sound.{AreRowsOf, IsEstablishedAt}
use Rattle.server_table.proofs.Places.{none_some, some_same}
use Rattle.server_table.proofs.Sessions.{changed_back, shadowed}
use Rattle.server_table.proofs.Kept.{Changes, Kept, KeptParts, altered, done_kept, is_plain, plain_actions, went_changed}

-- ---- rows

pub all_mapped : {P Q : Row → Type 0} (rows : List Row) → ((row : Row) → P row → Q row) → AllByRecursion P rows → AllByRecursion Q rows
all_mapped [] to all = tt
all_mapped (row ∷ rows) to all = (to row all.0, all_mapped rows to all.1)

-- a client that is here and established stays so
pub established_changed : (n : ℕ) (f : Client → Client) (clients : List Client) →
    ((y : Client) → slice_get clients n ≡ Some y → y.is_here ≡ true → is_some y.established ≡ true → (f y).is_here ≡ true × (is_some (f y).established ≡ true)) →
    (i : ℕ) → IsEstablishedAt clients i → IsEstablishedAt (changed_at n f clients) i
established_changed n f clients keeps i is = go (went_changed n i f clients is.client is.there)
  where
    go : ((i ≡ n) × (slice_get (changed_at n f clients) i ≡ Some (f is.client))) ⊎ (slice_get (changed_at n f clients) i ≡ Some is.client) →
        IsEstablishedAt (changed_at n f clients) i
    go (inl w) =
        let k = keeps is.client (subst (λ (j : ℕ). slice_get clients j ≡ Some is.client) w.0 is.there) is.here is.established in
        record { client = f is.client; there = w.1; here = k.0; established = k.1 }
    go (inr e) = record { client = is.client; there = e; here = is.here; established = is.established }

-- ---- changes that keep where a client is found

pub record Keeps (y z : Client) : Type 0 where
  pub peer_id : z.peer_id ≡ y.peer_id
  pub here : z.is_here ≡ y.is_here
  pub address : z.address ≡ y.address
  pub established : is_some y.established ≡ true → is_some z.established ≡ true
  pub session : IsOrderly y.session.sessions → IsOrderlyFrom y.session.remote z.session

keeps_changes : (y z : Client) → Keeps y z → Changes y z
keeps_changes y z keeps = record {
  peer_id = keeps.peer_id;
  here = λ is. sym keeps.here ∙ is;
  session = λ o. (keeps.session o).orderly;
  remote = λ o sid is. (keeps.session o).is_remote ∙ is;
}

pub keeps_session : (from : Addr) (sid : Sid) (y z : Client) → Keeps y z → IsOrderly y.session.sessions → has_session from sid z ≡ true → has_session from sid y ≡ true
keeps_session from sid y z keeps o is =
    ap (λ (b : Bool). b && is_address y.address from && is_sid sid y.session.remote) (sym keeps.here)
    ∙ ap (λ (address : Addr). z.is_here && is_address address from && is_sid sid y.session.remote) (sym keeps.address)
    ∙ ap (λ (remote : Option Sid). z.is_here && is_address z.address from && is_sid sid remote) (sym (keeps.session o).is_remote)
    ∙ is

-- the client of a number that is here
pub record IsHereAt (clients : List Client) (n : ℕ) (x : Client) : Type 0 where
  pub there : slice_get clients n ≡ Some x
  pub here : x.is_here ≡ true

if_here_is : (y : Client) (b : Bool) → y.is_here ≡ b → (x : Client) → (if b then Some y else None) ≡ Some x → (y ≡ x) × (y.is_here ≡ true)
if_here_is y true is x e = (some_same e, is)
if_here_is y false is x e = absurd (none_some e)

here_of : (clients : List Client) (n : ℕ) (x : Client) (o : Option Client) → slice_get clients n ≡ o → if_here o ≡ Some x → IsHereAt clients n x
here_of clients n x None there e = absurd (none_some e)
here_of clients n x (Some y) there e =
    let h = if_here_is y y.is_here refl x e in
    record { there = there ∙ ap (λ (y : Client). Some y) h.0; here = subst (λ (y : Client). y.is_here ≡ true) h.0 h.1 }

pub here_at : (t : Table) (n : ℕ) (x : Client) → client_here t n ≡ Some x → IsHereAt t.clients n x
unfolding client_here
here_at t n x e = here_of t.clients n x (slice_get t.clients n) refl e

-- what holds of the client there holds of any that stands there
pub at_place : (P : Client → Type 0) (clients : List Client) (n : ℕ) (x : Client) → slice_get clients n ≡ Some x → P x → (y : Client) → slice_get clients n ≡ Some y → P y
at_place P clients n x there is y at = subst P (some_same (sym there ∙ at)) is

module _ {a : Table} {k : ℕ} where
  -- with these rows later
  pub keeps_with : {m : ℕ × (Bool × ℕ)} {clients : List Client} {rows : List Row} {done : List Action} (later : List Row) (n : ℕ) (f : Client → Client) →
      ((y : Client) → slice_get clients n ≡ Some y → Keeps y (f y)) → (AreRowsOf (changed_at n f clients) rows → AreRowsOf (changed_at n f clients) later) →
      KeptParts a k m clients rows done → KeptParts a k m (changed_at n f clients) later done
  keeps_with {clients = clients} {rows = rows} later n f keeps more is =
      altered later n f (λ y there. keeps_changes y (f y) (keeps y there))
      (λ sound s from sid. shadowed (has_session from sid) clients (changed_at n f clients)
      (changed_back (has_session from sid) n f clients (λ y there. keeps_session from sid y (f y) (keeps y there) (s.orderly n y there))) (s.sessions from sid))
      (λ s. more (all_mapped rows (λ row at. established_changed n f clients
      (λ y there here est. ((keeps y there).here ∙ here, (keeps y there).established est)) row.1.0 at) s.owned))
      is

  pub keeps_kept : {m : ℕ × (Bool × ℕ)} {clients : List Client} {rows : List Row} {done : List Action} (n : ℕ) (f : Client → Client) →
      ((y : Client) → slice_get clients n ≡ Some y → Keeps y (f y)) →
      KeptParts a k m clients rows done → KeptParts a k m (changed_at n f clients) rows done
  keeps_kept {rows = rows} n f keeps is = keeps_with rows n f keeps (λ all. all) is

  -- one effect more, that is no refusal and does not end the program
  pub did_kept : (action : Action) (c : Course) → is_plain (action ∷ []) ≡ true → Kept a k c → Kept a k (did action c)
  did_kept action c plain is = done_kept (action ∷ []) plain is

  -- the session of the client of a number, which is here, has made a call
  pub acted_kept : {A : Type 0} (n : ℕ) (x : Client) (o : Outcome A) (c : Course) → client_here c.table n ≡ Some x →
      (IsOrderly x.session.sessions → IsOrderlyFrom x.session.remote o.peer) → Kept a k c → Kept a k (acted n x.address o c)
  acted_kept n x o c here orderly is =
      done_kept (actions_of o.peer.role o.doings) (plain_actions o.peer.role o.doings)
      (keeps_kept n (λ y. record y { session = o.peer })
      (at_place (λ y. Keeps y (record y { session = o.peer })) c.table.clients n x (here_at c.table n x here).there
      (record { peer_id = refl; here = refl; address = refl; established = λ e. e; session = orderly })) is)
