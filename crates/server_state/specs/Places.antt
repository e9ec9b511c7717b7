-- A client at its place in the table of clients.
use Rattle.std.specs.Prelude.{◌≡◌, ℕ, true, slice_get, Some}
use Rattle.client_table.specs.declared.table.ClientTable.{ClientTable}
use Rattle.client_table.specs.Changes as table
use Rattle.client_table.specs.Entries.{Entry}
use Rattle.client_table.specs.Tables.{admitted_by, entries_of, most_of}
use Rattle.peer_table.specs.Peer.{Peer}
use Rattle.peer_table.specs.Places.{changed_at}
use Rattle.server_table.specs.Courses.{with_client}
use Rattle.server_table.specs.Lookups.{address_in, client_here}
use Rattle.server_table.specs.Table.{Client, Table}
use Rattle.server_state.specs.declared.client.ClientState.{ClientState}
use Rattle.server_state.specs.declared.state.ServerCore.{ServerCore}
use Rattle.server_state.specs.Core.{CoreStands, IsOfClient}
use Rattle.server_state.specs.Standing.{StandFrom}

-- another table of clients has the same but for a change at this place
pub record IsChangedAt {S : Type 0} (core : ServerCore S) (i : ℕ) (f : Entry (ClientState S) → Entry (ClientState S)) (ct : ClientTable (ClientState S)) : Type 0 where
  pub entries_are : entries_of ct ≡ table.changed_at i f (entries_of core.clients)
  pub admitted_is : admitted_by ct ≡ admitted_by core.clients
  pub most_is : most_of ct ≡ most_of core.clients

-- another table of clients has another value of the client of this number, if it is here, and all else the same
pub record HasValueFor {S : Type 0} (n : ℕ) (before after : ClientTable (ClientState S)) : Type 0 where
  pub change : ClientState S → ClientState S
  pub entries_are : entries_of after ≡ table.changed_where (table.place_of n (entries_of before)) (λ e. table.with_value (change e.value) e) (entries_of before)
  pub admitted_is : admitted_by after ≡ admitted_by before
  pub most_is : most_of after ≡ most_of before

-- The client of a number, which is here, with the entry at this place that stands for it. Where both are changed so that the one stands for
-- the other still, the entries stand for the clients; and where the client keeps its address in the tunnel, the core for the table.
pub record IsThere {S : Type 0} (means : S → Peer → Type 0) (core : ServerCore S) (t : Table) (m i : ℕ) : Type 0 where
  pub client : Client
  pub entry : Entry (ClientState S)
  pub entry_there : slice_get (entries_of core.clients) i ≡ Some entry
  pub client_there : client_here t m ≡ Some client
  pub here : client.is_here ≡ true
  pub stands : IsOfClient means entry m client
  pub standing : (f : Entry (ClientState S) → Entry (ClientState S)) (g : Client → Client) → (g client).is_here ≡ true → IsOfClient means (f entry) m (g client)
      → StandFrom (IsOfClient means) (table.changed_at i f (entries_of core.clients)) 0 (changed_at m g t.clients)
  pub changed : (ct : ClientTable (ClientState S)) (f : Entry (ClientState S) → Entry (ClientState S)) (g : Client → Client)
      → IsChangedAt core i f ct → (g client).is_here ≡ true → IsOfClient means (f entry) m (g client) → ((y : Client) → address_in (g y) ≡ address_in y)
      → CoreStands means (record core { clients = ct }) (with_client m g t)
