-- What time leaves of the client whose turn it is.
use Rattle.std.proofs.Common.{◌≡◌, ℕ, ◌≤◌, List, length, drop, slice_get, Option, Some, option_map, sym, ap, subst, ◌∙◌, arith}
use Rattle.std.specs.Prelude.{is_some, unwrap_or}
use Rattle.std.proofs.lemmas.List.{length-append}
use Rattle.vpn_base.specs.declared.address.Addr.{Addr}
use Rattle.vpn_links.specs.Actions.{Action, Contents}
use Rattle.client_table.specs.declared.table.ClientTable.{ClientTable}
use Rattle.client_table.specs.Changes.{place_of, with_value}
use Rattle.client_table.specs.Tables.{entries_of}
use Rattle.peer_table.specs.declared.outcomes.Turn.{Turn}
use Rattle.peer_table.specs.Outboxes.{Leaves, actions_of}
use Rattle.peer_table.specs.Peer.{Peer}
use Rattle.peer_table.specs.Time.{Ticking, ticked, ticking}
use Rattle.server_table.specs.Courses.{Course}
use Rattle.server_table.specs.Lookups.{client_here}
use Rattle.server_table.specs.Table.{Client}
use Rattle.server_table.specs.Time.{is_idle, ticking_for}
use Rattle.server_state.specs.declared.client.ClientState.{ClientState}
use Rattle.server_state.specs.declared.state.ServerCore.{ServerCore}
use Rattle.server_state.specs.Calls.{HasCalled, opens_in}
use Rattle.server_state.specs.Core.{CourseStands, FileStands, StateStands, name_once}
use Rattle.server_state.specs.Places.{IsChangedAt, IsThere}
use Rattle.server_time.proofs.Pinged.{value_is}
use Rattle.server_time.proofs.Ticked.{opens_are, opens_behind, ticked_keeps}

-- the moment as the core brings it to a client
abbrev pub ticking_at : {S : Type 0} → ServerCore S → Client → Ticking
ticking_at core x = ticking core.moment.0 (record { 0 = core.connections }) (is_some x.established) (is_idle core.settings.keepalive core.moment.0 x)

module _ {S : Type 0} (means : S → Peer → Type 0) (before : List Action) (core : ServerCore S) (old new : Contents) (c : Course)
    (h : CourseStands means before core old c) (i : ℕ) (place : place_of core.turn.0 (entries_of core.clients) ≡ Some i)
    (l : IsThere means core c.table core.turn.0 i) (v w : ClientState S)
    (value : option_map (λ e. e.value) (slice_get (entries_of core.clients) i) ≡ Some v) where
  ticking_same : (y : Client) → ticking_at core y ≡ ticking_for c.table y
  ticking_same y =
      ap (λ s. ticking core.moment.0 (record { 0 = core.connections }) (is_some y.established) (is_idle s.keepalive core.moment.0 y)) h.table.settings
      ∙ ap (λ (m : ℕ). ticking m (record { 0 = core.connections }) (is_some y.established) (is_idle c.table.settings.keepalive m y)) h.table.moment
      ∙ ap (λ (n : ℕ). ticking c.table.moment (record { 0 = n }) (is_some y.established) (is_idle c.table.settings.keepalive c.table.moment y)) h.table.connections

  same_value : l.entry.value ≡ v
  same_value = value_is (slice_get (entries_of core.clients) i) l.entry v l.entry_there value

  state : StateStands means v l.client
  state = subst (λ v. StateStands means v l.client) same_value l.stands.state

  is_client : (x : Client) → client_here c.table core.turn.0 ≡ Some x → l.client ≡ x
  is_client x there = ap (λ (o : Option Client). unwrap_or o x) (sym l.client_there ∙ there)

  -- its session's answer
  pub answered_there : (turn : Turn) → ((x : Client) → StateStands means v x → turn ≡ (ticked (ticking_at core x) x.session).answer)
      → (x : Client) → client_here c.table core.turn.0 ≡ Some x → turn ≡ (ticked (ticking_for c.table x) x.session).answer
  answered_there turn is x there =
      subst (λ (x : Client). turn ≡ (ticked (ticking_for c.table x) x.session).answer) (is_client x there)
      (is l.client state ∙ ap (λ t. (ticked t l.client.session).answer) (ticking_same l.client))

  module _ (to : Addr) (key : option_map (λ e. e.key.address) (slice_get (entries_of core.clients) i) ≡ Some to) (ct : ClientTable (ClientState S))
      (changed : IsChangedAt core i (with_value w) ct) (others : w ≡ record v { session = w.session })
      (left : (x : Client) → StateStands means v x → Leaves means w.session old new to (ticked (ticking_at core x) x.session)) where
    to_is : to ≡ l.client.address
    to_is =
        ap (λ o. unwrap_or o to) (sym key ∙ ap (λ o. option_map (λ e. e.key.address) o) l.entry_there) ∙ l.stands.address

    left_there : Leaves means w.session old new l.client.address (ticked (ticking_for c.table l.client) l.client.session)
    left_there =
        subst (λ t. Leaves means w.session old new l.client.address (ticked t l.client.session)) (ticking_same l.client)
        (subst (λ a. Leaves means w.session old new a (ticked (ticking_at core l.client) l.client.session)) to_is (left l.client state))

    called_there : HasCalled means core i old new (ticked (ticking_for c.table l.client) l.client.session) v w ct l.client
    called_there =
        let keeps = ticked_keeps l.client.session (ticking_for c.table l.client) in
        record {
          place = place;
          value = value;
          changed = changed;
          others = others;
          leaves = left_there;
          remote = keeps.remote;
          name = ap (λ n. name_once n l.client.established) keeps.name;
          file = subst (λ n. FileStands n v.file l.client.file) (sym keeps.name)
              (subst (λ (v : ClientState S). FileStands l.client.session.name v.file l.client.file) same_value l.stands.file);
        }

    -- the call, for every name that the client has
    pub called : (x : Client) → client_here c.table core.turn.0 ≡ Some x → (y : Client) → client_here c.table core.turn.0 ≡ Some y
        → HasCalled means core i old new (ticked (ticking_for c.table x) x.session) v w ct y
    called x there y also =
        subst (λ y. HasCalled means core i old new (ticked (ticking_for c.table x) x.session) v w ct y) (is_client y also)
        (subst (λ x. HasCalled means core i old new (ticked (ticking_for c.table x) x.session) v w ct l.client) (is_client x there) called_there)

    -- as many connections are counted as were opened
    pub counted_there : (from k : ℕ) → from ≡ length old.effects
        → (from ≤ length new.effects → opens_in (drop from new.effects) ≤ 1 → k ≡ opens_in (drop from new.effects))
        → (x : Client) → client_here c.table core.turn.0 ≡ Some x
        → k ≡ opens_in (actions_of (ticked (ticking_for c.table x) x.session).peer.role (ticked (ticking_for c.table x) x.session).doings)
    counted_there from k place_is same x there =
        let o = ticked (ticking_for c.table l.client) l.client.session in
        let effects = left_there.outbox.0 in
        let is : opens_in (drop from new.effects) ≡ opens_in (actions_of o.peer.role o.doings) =
        ap (λ (n : ℕ). opens_in (drop n new.effects)) place_is ∙ opens_are o.peer.role o.doings old.effects new.effects effects in
        let few : opens_in (drop from new.effects) ≤ 1 =
        subst (λ (n : ℕ). opens_in (drop n new.effects) ≤ 1) (sym place_is)
        (opens_behind o.peer.role o.doings old.effects new.effects effects (ticked_keeps l.client.session (ticking_for c.table l.client)).few) in
        let within : from ≤ length new.effects =
        omega (arith, place_is, ap (λ (l : List Action). length l) effects, length-append old.effects (actions_of o.peer.role o.doings)) in
        subst (λ (x : Client). k ≡ opens_in (actions_of (ticked (ticking_for c.table x) x.session).peer.role (ticked (ticking_for c.table x) x.session).doings)) (is_client x there)
        (same within few ∙ is)
