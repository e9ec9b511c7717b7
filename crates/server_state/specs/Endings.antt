-- What an ending leaves of a core.
use Rattle.std.specs.Prelude.{◌≡◌, ℕ, ◌+◌, ◌*◌, ◌^◌, ◌≤◌, Bool, true, false, List, ◌∷◌, ◌++◌, take, slice_get, Option, Some, None}
use Rattle.vpn_base.specs.declared.address.Ip4.{Ip4}
use Rattle.vpn_base.specs.declared.names.Moment.{Moment}
use Rattle.address_pool.specs.declared.Pool.{Pool}
use Rattle.address_pool.specs.Holds.{Holds}
use Rattle.address_pool.specs.LeastFree.{Takings, with_taken}
use Rattle.client_table.specs.Changes.{place_of}
use Rattle.client_table.specs.Entries.{Entry}
use Rattle.client_table.specs.Tables.{admitted_by, entries_of, most_of}
use Rattle.vpn_links.specs.Actions.{Datagram}
use Rattle.server_state.specs.declared.client.ClientState.{ClientState}
use Rattle.server_state.specs.declared.state.ServerCore.{ServerCore}
use Rattle.server_state.specs.Core.{AreTimersFor, GoesOn}

-- What holds of every core, but that the session of the client of this number need not go on: it ends now.
pub record IsSoundBut {S : Type 0} (goes_on : S → Type 0) (count since : S → ℕ) (n : ℕ) (core : ServerCore S) : Type 0 where
  pub sessions : (i : ℕ) (e : Entry (ClientState S)) → slice_get (entries_of core.clients) i ≡ Some e → (place_of n (entries_of core.clients) ≡ Some i → ⊥)
      → GoesOn goes_on count since (core.events + 1) core.moment.0 e
  pub most : most_of core.clients ≤ 4096
  pub admitted : admitted_by core.clients ≤ core.events
  pub connections : core.connections ≤ 2 ^ 13 * core.events
  pub timers : AreTimersFor core.settings.timers
  pub no_counts : core.count_interval ≡ 0
  pub late : core.moment.0 ≤ 2 ^ 52

-- the control datagrams that are staged, without those of a client, whose turn it is or not
abbrev pub left_out : Bool → ℕ → List Datagram → List Datagram
left_out true mark staged = take mark staged
left_out false mark staged = staged

-- an address that a client had is given back
abbrev pub GivesBack : Option (Ip4 × Moment) → Pool → Pool → Type 0
GivesBack None before after = after ≡ before
GivesBack (Some place) before after =
    (t : Takings) (front behind : List Ip4) → Holds before t → t.taken ≡ front ++ place.0 ∷ behind → Holds after (with_taken t (front ++ behind))
