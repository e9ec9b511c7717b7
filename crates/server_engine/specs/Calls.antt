-- What calls of the session of a client need.
use Rattle.std.specs.Prelude.{◌≡◌, ◌<◌, ℕ, length, Bool, true, is_some, slice_get, option_map, Some}
use Rattle.vpn_links.specs.declared.events.Kind.{Kind}
use Rattle.client_table.specs.Changes.{place_of}
use Rattle.client_table.specs.Entries.{Entry}
use Rattle.client_table.specs.Tables.{entries_of}
use Rattle.server_state.specs.declared.client.ClientState.{ClientState}
use Rattle.server_state.specs.declared.state.ServerCore.{ServerCore}

-- the session at a place has the memory for an event, beside an outbox with room for so many effects and bytes
abbrev pub IsReadyAt : {S : Type 0} → (S → Kind → Bool → ℕ → ℕ → Type 0) → ServerCore S → ℕ → Kind → ℕ → ℕ → Type 0
IsReadyAt is_ready core i kind effects bytes =
    (v : ClientState _) → option_map (λ e. e.value) (slice_get (entries_of core.clients) i) ≡ Some v → is_ready v.session kind (is_some v.established) effects bytes

-- the session at a place has the memory for a key exchange
abbrev pub MayExchangeAt : {S : Type 0} → (S → Type 0) → ServerCore S → ℕ → Type 0
MayExchangeAt may_exchange core i = (v : ClientState _) → option_map (λ e. e.value) (slice_get (entries_of core.clients) i) ≡ Some v → may_exchange v.session

-- the client at a place has a name, if it is established
abbrev pub IsNamedAt : {S : Type 0} → ServerCore S → ℕ → Type 0
IsNamedAt core i = (e : Entry (ClientState _)) → slice_get (entries_of core.clients) i ≡ Some e → is_some e.value.established ≡ true → is_some e.key.name ≡ true

-- the clients of another core stand at the same places, have names where they had one and are established, and the memory that they had
pub record StaysReady {S : Type 0} (may_exchange : S → Type 0) (core next : ServerCore S) : Type 0 where
  pub places : (n : ℕ) → place_of n (entries_of next.clients) ≡ place_of n (entries_of core.clients)
  pub many : length (entries_of next.clients) ≡ length (entries_of core.clients)
  pub exchange : (i : ℕ) → MayExchangeAt may_exchange core i → MayExchangeAt may_exchange next i
  pub named : (i : ℕ) → IsNamedAt core i → IsNamedAt next i

-- the client whose turn it is is at this place, and may make its key exchange
pub record MayExchangeNow {S : Type 0} (may_exchange : S → Type 0) (core : ServerCore S) (i : ℕ) : Type 0 where
  pub place : place_of core.turn.0 (entries_of core.clients) ≡ Some i
  pub within : i < length (entries_of core.clients)
  pub exchange : MayExchangeAt may_exchange core i
  pub named : IsNamedAt core i
