-- What holds before the turn of a client.
use Rattle.std.specs.Prelude.{◌≡◌, ℕ, ◌+◌, ◌*◌, ◌^◌, ◌<◌, ◌≤◌, is_some, Bool, List, [], ◌∷◌, slice_get, option_map, Some}
use Rattle.vpn_links.specs.Actions.{Contents, Datagram}
use Rattle.vpn_links.specs.declared.events.Kind.{Kind}
use Rattle.vpn_links.specs.declared.events.Kind.TheVariants.{Tick}
use Rattle.client_table.specs.Changes.{place_of}
use Rattle.client_table.specs.Tables.{entries_of}
use Rattle.peer_table.specs.Outboxes.{HasRoom}
use Rattle.server_state.specs.declared.client.ClientState.{ClientState}
use Rattle.server_state.specs.declared.state.ServerCore.{ServerCore}
use Rattle.server_state.specs.Core.{IsSound}

-- the turn of a client comes after that of another, where control datagrams are staged
abbrev pub IsNext : List Datagram → ℕ → ℕ → Type 0
IsNext [] turn n = Unit {0}
IsNext (d ∷ staged) turn n = turn < n

-- a client's session has the memory for it that time passes, beside room for so many effects and bytes
abbrev pub IsReadyAs : {S : Type 0} → (S → Kind → Bool → ℕ → ℕ → Type 0) → ClientState S → ℕ → ℕ → Type 0
IsReadyAs is_ready v effects bytes = is_ready v.session Tick (is_some v.established) effects bytes

-- the same for the client of a number, if it is here
abbrev pub IsReadyAt : {S : Type 0} → (S → Kind → Bool → ℕ → ℕ → Type 0) → ServerCore S → ℕ → ℕ → ℕ → Type 0
IsReadyAt is_ready core n effects bytes =
    (i : ℕ) (v : ClientState _) → place_of n (entries_of core.clients) ≡ Some i → option_map (λ e. e.value) (slice_get (entries_of core.clients) i) ≡ Some v
    → IsReadyAs is_ready v effects bytes

-- time may pass for a client's session: it has the memory, and the outbox the room
pub record MayTick {S : Type 0} (is_ready : S → Kind → Bool → ℕ → ℕ → Type 0) (v : ClientState S) (out : Contents) : Type 0 where
  pub effects : ℕ
  pub bytes : ℕ
  pub ready : IsReadyAs is_ready v effects bytes
  pub room : HasRoom out effects bytes

-- The client of a number may have its turn: its session has the memory, and the outbox has room for what that does, for an ending and for a
-- ping.
pub record MayTakeTurn {S : Type 0} (is_ready : S → Kind → Bool → ℕ → ℕ → Type 0) (core : ServerCore S) (n : ℕ) (out : Contents) : Type 0 where
  pub effects : ℕ
  pub bytes : ℕ
  pub ready : IsReadyAt is_ready core n effects bytes
  pub room : HasRoom out (effects + 7) (bytes + 1563)

-- What holds of every core holds, and would with one key session of the client of this number more and with one connection more.
pub record IsSoundBeforeTurn {S : Type 0} (goes_on : S → Type 0) (count since : S → ℕ) (n : ℕ) (core : ServerCore S) : Type 0 where
  pub sound : IsSound goes_on count since core
  pub few : (i : ℕ) (v : ClientState S) → place_of n (entries_of core.clients) ≡ Some i
      → option_map (λ e. e.value) (slice_get (entries_of core.clients) i) ≡ Some v → count v.session ≤ core.events
  pub opens : core.connections + 1 ≤ 2 ^ 13 * core.events
  pub events : core.events ≤ 2 ^ 48
