-- Which client a ping is due to.
use Rattle.std.proofs.Common.{◌≡◌, ℕ, Bool, true, false, List, slice_get, Option, None, Some, option_map, refl, sym, ap, subst, ◌∙◌}
use Rattle.std.specs.Prelude.{is_some, unwrap_or}
use Rattle.vpn_base.specs.declared.address.Ip4.{Ip4}
use Rattle.vpn_base.specs.declared.names.Moment.{Moment}
use Rattle.vpn_links.specs.Actions.{Action, Contents}
use Rattle.client_table.specs.Entries.{Entry}
use Rattle.client_table.specs.Tables.{entries_of}
use Rattle.peer_table.specs.Peer.{Peer}
use Rattle.server_table.specs.Courses.{Course}
use Rattle.server_table.specs.DataDatagrams as definitions
use Rattle.server_table.specs.InnerPackets as server
use Rattle.server_table.specs.Lookups.{client_here}
use Rattle.server_table.specs.Table.{Client, Established, Table}
use Rattle.server_table.specs.Time.{ping_is_due, pinged, pinged_if, then_pinged}
use Rattle.server_state.specs.declared.client.ClientState.{ClientState}
use Rattle.server_state.specs.declared.state.ServerCore.{ServerCore}
use Rattle.server_state.specs.Core.{CoreStands, CourseStands, StateStands, established_at}
use Rattle.server_state.specs.Places.{IsThere}
use Rattle.server_time.specs.internal.Pings.{is_due, is_due_to}

-- whether a client is established, as the core has it
pub established_is : (o : Option (Ip4 × Moment)) (e : Option Established) → option_map established_at o ≡ e → is_some o ≡ is_some e
established_is None e is = ap is_some is
established_is (Some p) e is = ap is_some is

-- the value of an entry that is there
pub value_is : {V : Type 0} (o : Option (Entry V)) (e : Entry V) (v : V) → o ≡ Some e → option_map (λ e. e.value) o ≡ Some v → e.value ≡ v
value_is o e v there is = ap (λ o. unwrap_or o v) (sym (ap (λ o. option_map (λ e. e.value) o) there) ∙ is)

-- a ping is due to a client that is there
pub due_there : {S : Type 0} (means : S → Peer → Type 0) (core : ServerCore S) (t : Table) (n i : ℕ) → CoreStands means core t → IsThere means core t n i
    → (v : ClientState S) → option_map (λ e. e.value) (slice_get (entries_of core.clients) i) ≡ Some v → (b : Bool)
    → ((x : Client) → is_some v.established ≡ is_some x.established → v.sealed_at.0 ≡ x.sealed_at → b ≡ ping_is_due core.settings.keepalive core.moment.0 x)
    → b ≡ is_due t n
due_there means core t n i h l v value b is =
    let same : l.entry.value ≡ v = value_is (slice_get (entries_of core.clients) i) l.entry v l.entry_there value in
    let state = subst (λ v. StateStands means v l.client) same l.stands.state in
    is l.client (established_is v.established l.client.established state.established) state.sealed_at
    ∙ ap (λ s. ping_is_due s.keepalive core.moment.0 l.client) h.settings
    ∙ ap (λ (m : ℕ). ping_is_due t.settings.keepalive m l.client) h.moment
    ∙ ap (is_due_to t) (sym l.client_there)

-- none is due where nobody is
pub due_to_nobody : (t : Table) (n : ℕ) → client_here t n ≡ None → false ≡ is_due t n
due_to_nobody t n none = ap (is_due_to t) (sym none)

-- ---- a ping is sealed where it is due

pinged_as : (n : ℕ) (c : Course) (o : Option Client) → pinged n c o ≡ pinged_if n c (is_due_to c.table o)
pinged_as n c None = refl
pinged_as n c (Some x) = refl

module _ {S : Type 0} (means : S → Peer → Type 0) (before : List Action) (core : ServerCore S) (out : Contents) (c : Course) (n : ℕ) where
  pub is_pinged : true ≡ is_due c.table n → CourseStands means before core out (server.sealed_to n definitions.ping c)
      → CourseStands means before core out (then_pinged n c)
  is_pinged due h =
      subst (CourseStands means before core out) (sym (pinged_as n c (client_here c.table n)))
      (subst (λ b. CourseStands means before core out (pinged_if n c b)) due h)

  pub is_not_pinged : false ≡ is_due c.table n → CourseStands means before core out c → CourseStands means before core out (then_pinged n c)
  is_not_pinged due h =
      subst (CourseStands means before core out) (sym (pinged_as n c (client_here c.table n)))
      (subst (λ b. CourseStands means before core out (pinged_if n c b)) due h)
