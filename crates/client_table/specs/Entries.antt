-- Clients as entries.
use Rattle.std.specs.Prelude.{ℕ, List, [], ◌∷◌, None}
use Rattle.vpn_base.specs.declared.address.Addr.{Addr}
use Rattle.vpn_base.specs.declared.names.Sid.{Sid}
use Rattle.client_table.specs.declared.key.Key.{Key}

-- a client of a table: what it is found by, and its value
pub record Entry (V : Type 0) : Type 0 where
  pub key : Key
  pub value : V

-- keys with their values, place by place
abbrev pub entries : {V : Type 0} → List Key → List V → List (Entry V)
entries (k ∷ keys) (v ∷ values) = record { key = k; value = v } ∷ entries keys values
entries (k ∷ keys) [] = []
entries [] values = []

-- a client that is admitted under this number and peer id, from this address and with this session id
abbrev pub newcomer : {V : Type 0} → ℕ → ℕ → Addr → Sid → V → Entry V
newcomer n peer_id from sid v =
    record { key = record { number = record { 0 = n }; peer_id = peer_id; address = from; sid = sid; name = None }; value = v }
