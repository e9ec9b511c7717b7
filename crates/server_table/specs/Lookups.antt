-- How clients are found, each as the first that fits. No two clients that are here fit alike, but by name where several may have one.
use Rattle.std.specs.Prelude.{ℕ, zero, suc, max, true, false, [], ◌∷◌, ◌==◌, ◌&&◌, nat_le, is_some, Bool, false, List, Option, Some, None, slice_get, filter_map, count_by, if◌then◌else◌}
use Rattle.std.specs.List.{list_any}
use Rattle.std.specs.Option.{option_map}
use Rattle.std.specs.Str.{bytes_eq}
use Rattle.vpn_base.specs.declared.address.Addr.{Addr}
use Rattle.vpn_base.specs.declared.address.Ip4.{Ip4}
use Rattle.vpn_base.specs.declared.names.Cid.{Cid}
use Rattle.vpn_base.specs.declared.names.Conn.{Conn}
use Rattle.vpn_base.specs.declared.names.Sid.{Sid}
use Rattle.peer_table.specs.Places.{first_place}
use Rattle.peer_table.specs.EngineAnswers.{open_with}
use Rattle.server_table.specs.Table.{Client, Established, Table}

-- the number of a client as a name of its own
abbrev pub cid : ℕ → Cid
cid n = record { 0 = n }

-- a client, where it is here
abbrev pub if_here : Option Client → Option Client
if_here None = None
if_here (Some x) = if x.is_here then Some x else None

-- the client of this number, where it is here
unfoldable pub client_here : Table → ℕ → Option Client
client_here t n = if_here (slice_get t.clients n)

-- ---- by what it is known

-- whether a client is here and has this peer id
abbrev pub has_peer_id : ℕ → Client → Bool
has_peer_id peer x = x.is_here && (x.peer_id == peer)

-- the client with this peer id
unfoldable pub by_peer_id : Table → ℕ → Option ℕ
by_peer_id t peer = first_place (has_peer_id peer) t.clients

-- whether two addresses are the same
abbrev pub is_address : Addr → Addr → Bool
is_address a b = (a.ip.0 == b.ip.0) && (a.port == b.port)

-- whether a session id that may be known is this one
abbrev pub is_sid : Sid → Option Sid → Bool
is_sid sid None = false
is_sid sid (Some known) = bytes_eq known.0 sid.0

-- whether a client is here, at this address, with this session id of its own
abbrev pub has_session : Addr → Sid → Client → Bool
has_session from sid x = x.is_here && is_address x.address from && is_sid sid x.session.remote

-- the client at this address with this session id
unfoldable pub by_session : Table → Addr → Sid → Option ℕ
by_session t from sid = first_place (has_session from sid) t.clients

-- whether a client is here and has an open key session with this connection
abbrev pub has_connection : Conn → Client → Bool
has_connection conn x = x.is_here && is_some (open_with conn x.session)

-- the client with an open key session with this connection
unfoldable pub by_connection : Table → Conn → Option ℕ
by_connection t conn = first_place (has_connection conn) t.clients

-- whether a name that may be known is this one
abbrev pub is_name : List ℕ → Option (List ℕ) → Bool
is_name name None = false
is_name name (Some known) = bytes_eq known name

-- whether a client is here, established, and has this name
abbrev pub is_established_as : List ℕ → Client → Bool
is_established_as name x = x.is_here && is_some x.established && is_name name x.session.name

-- the established client of this name
unfoldable pub established_named : Table → List ℕ → Option ℕ
established_named t name = first_place (is_established_as name) t.clients

-- ---- what is free

-- whether as many clients are here as may be
unfoldable pub is_full : Table → Bool
is_full t = nat_le t.settings.max_clients (count_by (λ x. x.is_here) t.clients)

-- a number, or a later one where a client has it
abbrev pub unless_used : Bool → ℕ → ℕ → ℕ
unless_used true n later = later
unless_used false n later = n

-- of so many numbers from this one on the first that no client has as its peer id, or the one behind them
abbrev pub unused_from : ℕ → ℕ → List Client → ℕ
unused_from zero n clients = n
unused_from (suc most) n clients = unless_used (list_any (has_peer_id n) clients) n (unused_from most (suc n) clients)

-- the greatest peer id that a client ever had
abbrev pub greatest_peer_id : List Client → ℕ
greatest_peer_id [] = 0
greatest_peer_id (x ∷ clients) = max x.peer_id (greatest_peer_id clients)

-- the least peer id that no client has: the one behind the greatest is free
unfoldable pub free_peer_id : Table → ℕ
free_peer_id t = unused_from (suc (greatest_peer_id t.clients)) 0 t.clients

-- the address in the tunnel of a client that is here and established
abbrev pub address_in : Client → Option Ip4
address_in x = if x.is_here then option_map (λ (e : Established). e.address) x.established else None

-- the addresses in the tunnel that clients have
unfoldable pub taken_addresses : Table → List Ip4
taken_addresses t = filter_map address_in t.clients
