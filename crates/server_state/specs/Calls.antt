-- What a call of a client's session leaves of a core.
use Rattle.std.specs.Prelude.{◌≡◌, ℕ, suc, List, [], ◌∷◌, slice_get, option_map, Some}
use Rattle.vpn_links.specs.Actions.{Action, Contents, EngineOpen}
use Rattle.client_table.specs.declared.table.ClientTable.{ClientTable}
use Rattle.client_table.specs.Changes.{place_of, with_value}
use Rattle.client_table.specs.Tables.{entries_of}
use Rattle.peer_table.specs.Outboxes.{Leaves}
use Rattle.peer_table.specs.Peer.{Outcome, Peer}
use Rattle.server_table.specs.Table.{Client}
use Rattle.server_state.specs.declared.client.ClientState.{ClientState}
use Rattle.server_state.specs.declared.state.ServerCore.{ServerCore}
use Rattle.server_state.specs.Core.{FileStands, name_once}
use Rattle.server_state.specs.Places.{IsChangedAt}

-- how many engine connections these effects open
abbrev pub opens_in : List Action → ℕ
opens_in [] = 0
opens_in (EngineOpen conn role ∷ actions) = suc (opens_in actions)
opens_in (action ∷ actions) = opens_in actions

-- The client whose turn it is, at this place of the core, has another session: it stands for the peer that a call came to, and the outbox has what
-- the call did. The call left what the client is found by; `x` is the client before it.
pub record HasCalled {S A : Type 0} (means : S → Peer → Type 0) (core : ServerCore S) (i : ℕ) (before after : Contents) (o : Outcome A) (v w : ClientState S)
    (ct : ClientTable (ClientState S)) (x : Client) : Type 0 where
  pub place : place_of core.turn.0 (entries_of core.clients) ≡ Some i
  pub value : option_map (λ e. e.value) (slice_get (entries_of core.clients) i) ≡ Some v
  pub changed : IsChangedAt core i (with_value w) ct
  pub others : w ≡ record v { session = w.session }
  pub leaves : Leaves means w.session before after x.address o
  pub remote : o.peer.remote ≡ x.session.remote
  pub name : name_once o.peer.name x.established ≡ name_once x.session.name x.established
  pub file : FileStands o.peer.name v.file x.file
