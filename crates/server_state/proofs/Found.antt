-- The clients of a core are found as those of the table for which it stands.
use Rattle.std.proofs.Common.{◌≡◌, ℕ, ◌+◌, ◌==◌, Bool, true, false, List, find, option_map, Option, Some, None, refl, sym, ap, ◌∙◌, arith}
use Rattle.std.specs.Prelude.{◌&&◌, is_some}
use Rattle.std.specs.Str.{bytes_eq}
use Rattle.vpn_base.specs.declared.address.Addr.{Addr}
use Rattle.vpn_base.specs.declared.names.Cid.{Cid}
use Rattle.vpn_base.specs.declared.names.Sid.{Sid}
use Rattle.client_table.specs.declared.key.Key.{Key}
use Rattle.client_table.specs.Changes.{by_key, number_where}
use Rattle.client_table.specs.Entries.{Entry}
use Rattle.client_table.specs.Finding as keys
use Rattle.client_table.specs.Tables.{entries_of}
use Rattle.peer_table.specs.Peer.{Peer}
use Rattle.peer_table.specs.Places.{first_place}
use Rattle.server_table.specs.Lookups.{by_peer_id, by_session, established_named, has_peer_id, has_session, is_address, is_established_as, is_name, is_sid}
use Rattle.server_table.specs.Table.{Client, Established, Table}
use Rattle.server_state.specs.Core.{CoreStands, IsOfClient, name_once}
use Rattle.server_state.specs.declared.client.ClientState.{ClientState}
use Rattle.server_state.specs.declared.state.ServerCore.{ServerCore}
use Rattle.server_state.proofs.Standing.{number_found}

from_zero : (o : Option ℕ) → option_map (λ i. 0 + i) o ≡ o
from_zero None = refl
from_zero (Some i) = ap Some (omega arith)

numbers : {V : Type 0} (o : Option (Entry V)) → option_map (λ (cid : Cid). cid.0) (option_map (λ (e : Entry V). e.key.number) o) ≡ option_map (λ (e : Entry V). e.key.number.0) o
numbers None = refl
numbers (Some e) = refl

module _ {S : Type 0} (means : S → Peer → Type 0) (core : ServerCore S) (t : Table) (h : CoreStands means core t) where
  found : (passes : Key → Bool) (by_client : Client → Bool)
      → ((e : Entry (ClientState S)) (n : ℕ) (x : Client) → IsOfClient means e n x → x.is_here ≡ true → passes e.key ≡ by_client x)
      → ((x : Client) → x.is_here ≡ false → by_client x ≡ false)
      → option_map (λ cid. cid.0) (number_where passes (entries_of core.clients)) ≡ first_place by_client t.clients
  found passes by_client agree gone =
      numbers (find (by_key passes) (entries_of core.clients))
      ∙ number_found (IsOfClient means) (λ e. e.key.number.0) (λ e n x is. is.number) (by_key passes) by_client agree gone t.clients (entries_of core.clients) 0 h.clients
      ∙ from_zero (first_place by_client t.clients)

  pub peer_id_is : (peer_id : ℕ) → option_map (λ cid. cid.0) (number_where (keys.has_peer_id peer_id) (entries_of core.clients)) ≡ by_peer_id t peer_id
  unfolding by_peer_id
  peer_id_is peer_id =
      found (keys.has_peer_id peer_id) (has_peer_id peer_id)
      (λ e n x is here. ap (λ p. p == peer_id) is.peer_id ∙ sym (ap (λ b. b && (x.peer_id == peer_id)) here))
      (λ x gone. ap (λ b. b && (x.peer_id == peer_id)) gone)

  pub session_is : (from : Addr) (sid : Sid) → option_map (λ cid. cid.0) (number_where (keys.is_at from sid) (entries_of core.clients)) ≡ by_session t from sid
  unfolding by_session
  session_is from sid =
      found (keys.is_at from sid) (has_session from sid)
      (λ e n x is here.
      ap (λ a. is_address a from && bytes_eq e.key.sid.0 sid.0) is.address
      ∙ sym (ap (λ r. is_address x.address from && is_sid sid r) is.remote)
      ∙ sym (ap (λ b. b && is_address x.address from && is_sid sid x.session.remote) here))
      (λ x gone. ap (λ b. b && is_address x.address from && is_sid sid x.session.remote) gone)

  same_name : (name : List ℕ) (o : Option (List ℕ)) → keys.is_name name o ≡ is_name name o
  same_name name None = refl
  same_name name (Some known) = refl

  once : (name : List ℕ) (known : Option (List ℕ)) (e : Option Established) → keys.is_name name (name_once known e) ≡ is_some e && is_name name known
  once name known None = refl
  once name known (Some e) = same_name name known

  pub name_is : (name : List ℕ) → option_map (λ cid. cid.0) (number_where (keys.has_name name) (entries_of core.clients)) ≡ established_named t name
  unfolding established_named
  name_is name =
      found (keys.has_name name) (is_established_as name)
      (λ e n x is here.
      ap (keys.is_name name) is.name
      ∙ once name x.session.name x.established
      ∙ sym (ap (λ b. b && is_some x.established && is_name name x.session.name) here))
      (λ x gone. ap (λ b. b && is_some x.established && is_name name x.session.name) gone)
