-- Clients that come, and clients that go.
use Rattle.std.proofs.Common.{◌≡◌, ℕ, true, false, [], ◌∷◌, ◌++◌, length, subst, arith}
use Rattle.client_table.specs.Changes as table
use Rattle.client_table.specs.Entries.{Entry}
use Rattle.client_table.specs.Tables.{entries_of}
use Rattle.peer_table.specs.Peer.{Peer}
use Rattle.peer_table.specs.Places.{changed_at}
use Rattle.server_table.specs.Table.{Client, Table}
use Rattle.server_state.specs.declared.client.ClientState.{ClientState}
use Rattle.server_state.specs.declared.state.ServerCore.{ServerCore}
use Rattle.server_state.specs.Core.{CoreStands, IsOfClient}
use Rattle.server_state.specs.Standing.{StandFrom}
use Rattle.server_state.proofs.Standing.{come, go}

module _ {S : Type 0} (means : S → Peer → Type 0) (core : ServerCore S) (t : Table) (h : CoreStands means core t) where
  pub comes : (e : Entry (ClientState S)) (x : Client) → IsOfClient means e (length t.clients) x → x.is_here ≡ true
      → StandFrom (IsOfClient means) (entries_of core.clients ++ e ∷ []) 0 (t.clients ++ x ∷ [])
  comes e x is here =
      come (IsOfClient means) (λ e. e.key.number.0) (λ e n x is. is.number) e x here t.clients (entries_of core.clients) 0
      (subst (λ k. IsOfClient means e k x) (omega arith) is) h.clients

  pub goes : (m : ℕ) (g : Client → Client) → ((y : Client) → (g y).is_here ≡ false)
      → StandFrom (IsOfClient means) (table.without m (entries_of core.clients)) 0 (changed_at m g t.clients)
  goes m g gone =
      go (IsOfClient means) (λ e. e.key.number.0) (λ e n x is. is.number) g gone m t.clients (entries_of core.clients) 0 m (omega arith) h.clients
