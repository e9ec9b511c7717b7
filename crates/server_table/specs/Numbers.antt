-- What stays of a client: its number, by which it is found, its peer id, and its session id once that is fixed.
use Rattle.std.specs.Prelude.{◌≡◌, ℕ, true, List, Some, slice_get}
use Rattle.vpn_base.specs.declared.names.Sid.{Sid}
use Rattle.server_table.specs.Table.{Client}

-- a client of this number is there, with the same peer id and the other end's session id if it was fixed, and it is here only if it was
pub record IsStillAt (clients : List Client) (n : ℕ) (x : Client) : Type 0 where
  pub client : Client
  pub there : slice_get clients n ≡ Some client
  pub peer_id : client.peer_id ≡ x.peer_id
  pub remote : (sid : Sid) → x.session.remote ≡ Some sid → client.session.remote ≡ Some sid
  pub here : client.is_here ≡ true → x.is_here ≡ true

-- each of these clients is among those later, under its number
abbrev pub AreStill : List Client → List Client → Type 0
AreStill clients later = (n : ℕ) (x : Client) → slice_get clients n ≡ Some x → IsStillAt later n x
