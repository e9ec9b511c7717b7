-- The memory that clients may need when time passes.
use Rattle.std.specs.Prelude.{◌≡◌, ℕ, ◌+◌, Bool, List, [], ◌∷◌, filter, length}
use Rattle.std.specs.List.{AllByRecursion}
use Rattle.vpn_links.specs.Actions.{Action, Contents}
use Rattle.vpn_links.specs.declared.events.Kind.{Kind}
use Rattle.client_table.specs.Changes.{by_key}
use Rattle.client_table.specs.Entries.{Entry}
use Rattle.client_table.specs.Finding.{is_from}
use Rattle.client_table.specs.Tables.{admitted_by, entries_of, most_of}
use Rattle.peer_table.specs.Outboxes.{HasRoom}
use Rattle.peer_table.specs.Peer.{Peer}
use Rattle.server_table.specs.Courses.{Course}
use Rattle.server_state.specs.declared.client.ClientState.{ClientState}
use Rattle.server_state.specs.declared.state.ServerCore.{ServerCore}
use Rattle.server_state.specs.Core.{CourseStands, GoesOn}
use Rattle.server_time.specs.Turns.{IsReadyAs, IsReadyAt}

-- the clients with this number or later ones
abbrev pub from_on : {S : Type 0} → ℕ → List (Entry (ClientState S)) → List (Entry (ClientState S))
from_on n es = filter (by_key (is_from n)) es

-- There is enough for the first client, with an ending and a ping, and for the others behind it.
pub record IsEnoughFor {S : Type 0} (is_ready : S → Kind → Bool → ℕ → ℕ → Type 0) (others : ℕ → ℕ → Type 0) (v : ClientState S) (effects bytes : ℕ) : Type 0 where
  pub own_effects : ℕ
  pub own_bytes : ℕ
  pub other_effects : ℕ
  pub other_bytes : ℕ
  pub ready : IsReadyAs is_ready v own_effects own_bytes
  pub rest : others other_effects other_bytes
  pub effects_are : other_effects + own_effects + 7 ≡ effects
  pub bytes_are : other_bytes + own_bytes + 1563 ≡ bytes

-- the sessions of these clients have the memory for it that time passes, beside room for so many effects and bytes in all
abbrev pub AreReady : {S : Type 0} → (S → Kind → Bool → ℕ → ℕ → Type 0) → List (Entry (ClientState S)) → ℕ → ℕ → Type 0
AreReady is_ready [] effects bytes = Unit {0}
AreReady is_ready (e ∷ es) effects bytes = IsEnoughFor is_ready (AreReady is_ready es) e.value effects bytes

-- all clients of a core are ready, and the outbox has the room
pub record HasMemory {S : Type 0} (is_ready : S → Kind → Bool → ℕ → ℕ → Type 0) (core : ServerCore S) (out : Contents) : Type 0 where
  pub effects : ℕ
  pub bytes : ℕ
  pub ready : AreReady is_ready (entries_of core.clients) effects bytes
  pub room : HasRoom out effects bytes

-- Only sessions of a core took memory: it stands for the same, as many clients are here, and what held of their sessions holds.
pub record StaysSame {S : Type 0} (means : S → Peer → Type 0) (goes_on : S → Type 0) (count since : S → ℕ) (before after : ServerCore S) : Type 0 where
  pub same : (earlier : List Action) (out : Contents) (c : Course) → CourseStands means earlier before out c → CourseStands means earlier after out c
  pub others : after ≡ record before { clients = after.clients }
  pub sessions : (most moment : ℕ) → AllByRecursion (GoesOn goes_on count since most moment) (entries_of before.clients)
      → AllByRecursion (GoesOn goes_on count since most moment) (entries_of after.clients)
  pub admitted : admitted_by after.clients ≡ admitted_by before.clients
  pub most : most_of after.clients ≡ most_of before.clients
  pub number : length (entries_of after.clients) ≡ length (entries_of before.clients)

-- Of the clients from a number on the next is ready, and those behind it are, each with room of its own.
pub record NextIsReady {S : Type 0} (is_ready : S → Kind → Bool → ℕ → ℕ → Type 0) (core : ServerCore S) (m effects bytes : ℕ) : Type 0 where
  pub own_effects : ℕ
  pub own_bytes : ℕ
  pub other_effects : ℕ
  pub other_bytes : ℕ
  pub ready : IsReadyAt is_ready core m own_effects own_bytes
  pub rest : AreReady is_ready (from_on (m + 1) (entries_of core.clients)) other_effects other_bytes
  pub effects_are : other_effects + own_effects + 7 ≡ effects
  pub bytes_are : other_bytes + own_bytes + 1563 ≡ bytes
