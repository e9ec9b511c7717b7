-- What it means that an address is free.
use Rattle.std.specs.Prelude.{◌≡◌, ℕ, ◌≤◌, true, false, Some, slice_get}
use Rattle.vpn_base.specs.declared.address.Ip4.{Ip4}
use Rattle.address_pool.specs.LeastFree.{is_taken}
use Rattle.server_table.specs.Table.{Client, Established, Table}
use Rattle.server_table.specs.Lookups.{taken_addresses}
use Rattle.server_table.specs.Establishing.{first_address, last_address}

-- an address in the tunnel is one of those for clients, and no client that is here and established has it
pub record IsFree (t : Table) (a : Ip4) : Type 0 where
  pub from_first : (first_address t.settings).0 ≤ a.0
  pub to_last : a.0 ≤ (last_address t.settings).0
  pub not_taken : is_taken (taken_addresses t) a.0 ≡ false
  pub of_nobody : (n : ℕ) (x : Client) (e : Established) → slice_get t.clients n ≡ Some x → x.is_here ≡ true → x.established ≡ Some e →
      e.address.0 ≡ a.0 → ⊥
