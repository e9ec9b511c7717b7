-- How clients are found by their keys, each as the first that fits.
use Rattle.std.specs.Prelude.{ℕ, ◌==◌, ◌&&◌, nat_le, Bool, false, List, Option, Some, None}
use Rattle.std.specs.Str.{bytes_eq}
use Rattle.vpn_base.specs.declared.address.Addr.{Addr}
use Rattle.vpn_base.specs.declared.names.Sid.{Sid}
use Rattle.client_table.specs.declared.key.Key.{Key}

-- whether a client has this number
abbrev pub has_number : ℕ → Key → Bool
has_number n k = k.number.0 == n

-- whether it has this number or a later one
abbrev pub is_from : ℕ → Key → Bool
is_from n k = nat_le n k.number.0

-- whether it has this peer id
abbrev pub has_peer_id : ℕ → Key → Bool
has_peer_id peer_id k = k.peer_id == peer_id

-- whether two addresses are the same
abbrev pub is_address : Addr → Addr → Bool
is_address a b = (a.ip.0 == b.ip.0) && (a.port == b.port)

-- whether it is at this address with this session id
abbrev pub is_at : Addr → Sid → Key → Bool
is_at address sid k = is_address k.address address && bytes_eq k.sid.0 sid.0

-- whether a name that may be known is this one
abbrev pub is_name : List ℕ → Option (List ℕ) → Bool
is_name name None = false
is_name name (Some known) = bytes_eq known name

-- whether it is established under this name
abbrev pub has_name : List ℕ → Key → Bool
has_name name k = is_name name k.name
