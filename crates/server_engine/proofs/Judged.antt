-- What is left unread.
use Rattle.std.proofs.Common.{◌≡◌, ℕ, zero, suc, ◌+◌, Bool, List, [], ◌∷◌, slice_get, option_map, Option, Some, None, refl, sym, ap, subst, ◌∙◌}
use Rattle.std.specs.Prelude.{nat_lt, unwrap_or, is_some}
use Rattle.std.specs.List.{AllByRecursion}
use Rattle.std.proofs.lemmas.Bool.{false≢true}
use Rattle.vpn_links.specs.Actions.{Action, Contents}
use Rattle.client_table.specs.Entries.{Entry}
use Rattle.client_table.specs.Tables.{entries_of}
use Rattle.peer_table.specs.Exchange.{most_unread}
use Rattle.peer_table.specs.Peer.{Peer}
use Rattle.server_table.specs.Courses.{Course}
use Rattle.server_table.specs.Engine.{unread_if, unread_judged, unread_limit, unread_of}
use Rattle.server_table.specs.Lookups.{client_here}
use Rattle.server_table.specs.Table.{Table}
use Rattle.server_state.specs.declared.client.ClientState.{ClientState}
use Rattle.server_state.specs.declared.state.ServerCore.{ServerCore}
use Rattle.server_state.specs.Core.{CourseStands, GoesOn, IsSound, StateStands}
use Rattle.server_state.specs.Endings.{IsSoundBut}
use Rattle.server_state.specs.Places.{IsThere}

-- ---- the value at a place

-- the value that was looked at is that of the client
pub value_is : {V : Type 0} (o : Option (Entry V)) (e : Entry V) (v : V) → o ≡ Some e → option_map (λ e. e.value) o ≡ Some v → e.value ≡ v
value_is o e v there is = ap (λ o. unwrap_or o v) (sym (ap (λ o. option_map (λ e. e.value) o) there) ∙ is)

-- it stands for the client
pub state_at : {S : Type 0} (means : S → Peer → Type 0) (core : ServerCore S) (t : Table) (m i : ℕ) (v : ClientState S) (there : IsThere means core t m i)
    → option_map (λ e. e.value) (slice_get (entries_of core.clients) i) ≡ Some v → StateStands means v there.client
state_at means core t m i v there at =
    subst (λ v. StateStands means v there.client) (value_is (slice_get (entries_of core.clients) i) there.entry v there.entry_there at) there.stands.state

-- ---- what holds of every core

-- what holds of all items holds of the one at a place
pub all_at : {X : Type 0} (P : X → Type 0) (xs : List X) (i : ℕ) (v : X) → AllByRecursion P xs → slice_get xs i ≡ Some v → P v
all_at P [] i v all there = absurd (false≢true (ap is_some there))
all_at P (x ∷ xs) zero v all there = subst P (ap (λ (o : Option _). unwrap_or o x) there) all.0
all_at P (x ∷ xs) (suc i) v all there = all_at P xs i v all.1 there

-- a sound core is sound but for any client
pub sound_but : {S : Type 0} (goes_on : S → Type 0) (count since : S → ℕ) (n : ℕ) (core : ServerCore S) → IsSound goes_on count since core → IsSoundBut goes_on count since n core
sound_but goes_on count since n core h = record {
  sessions = λ i e at apart. all_at (GoesOn goes_on count since (core.events + 1) core.moment.0) (entries_of core.clients) i e h.sessions at;
  most = h.most;
  admitted = h.admitted;
  connections = h.connections;
  timers = h.timers;
  no_counts = h.no_counts;
  late = h.late;
}

goes_for : {S : Type 0} (goes_on : S → Type 0) (o : Option (Entry (ClientState S))) (v : ClientState S) → ((e : Entry (ClientState S)) → o ≡ Some e → goes_on e.value.session)
    → option_map (λ e. e.value) o ≡ Some v → goes_on v.session
goes_for goes_on None v all at = absurd (false≢true (ap is_some at))
goes_for goes_on (Some e) v all at = subst (λ (v : ClientState _). goes_on v.session) (ap (λ o. unwrap_or o v) at) (all e refl)

-- the session at a place of a sound core goes on
pub goes_at : {S : Type 0} (goes_on : S → Type 0) (count since : S → ℕ) (core : ServerCore S) (i : ℕ) (v : ClientState S) → IsSound goes_on count since core
    → option_map (λ e. e.value) (slice_get (entries_of core.clients) i) ≡ Some v → goes_on v.session
goes_at goes_on count since core i v h at =
    goes_for goes_on (slice_get (entries_of core.clients) i) v
    (λ e there. (all_at (GoesOn goes_on count since (core.events + 1) core.moment.0) (entries_of core.clients) i e h.sessions there).session) at

-- ---- unread bytes

module _ {S : Type 0} (means : S → Peer → Type 0) (before : List Action) (core : ServerCore S) (c : Course) (out : Contents) (m : ℕ)
    (h : CourseStands means before core out c) where
  -- nobody is here
  pub nobody_judged : client_here c.table m ≡ None → CourseStands means before core out (unread_judged m c)
  unfolding unread_judged
  nobody_judged none = subst (λ o. CourseStands means before core out (unread_of m c o)) (sym none) h

  module _ (i : ℕ) (there : IsThere means core c.table m i) (v : ClientState S) (at : option_map (λ e. e.value) (slice_get (entries_of core.clients) i) ≡ Some v)
      (b : Bool) (is : (p : Peer) → means v.session p → b ≡ nat_lt unread_limit (most_unread p.sessions)) where
    -- it is judged as what its session says
    pub judged : (next : ServerCore S) (after : Contents) → CourseStands means before next after (unread_if m c b) → CourseStands means before next after (unread_judged m c)
    unfolding unread_judged
    judged next after got =
        subst (λ o. CourseStands means before next after (unread_of m c o)) (sym there.client_there)
        (subst (λ b. CourseStands means before next after (unread_if m c b)) (is there.client.session (state_at means core c.table m i v there at).session) got)
