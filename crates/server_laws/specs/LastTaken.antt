-- To which key session the last datagram went.
use Rattle.std.specs.Prelude.{◌≡◌, ℕ, List, Some, slice_get, IfSome}
use Rattle.vpn_base.specs.declared.names.Place.{Place}
use Rattle.vpn_links.specs.declared.events.Kind.{Kind}
use Rattle.vpn_links.specs.declared.events.Kind.TheVariants.{Datagram}
use Rattle.peer_table.specs.Naming.{place_numbered}
use Rattle.server_table.specs.Table.{Client, Table}

-- it is key session `k` of client `n` among these, as it stands there
pub record IsPlaceOf (clients : List Client) (n k : ℕ) (at : Place) : Type 0 where
  pub client : Client
  pub there : slice_get clients n ≡ Some client
  pub is_place : place_numbered k client.session ≡ Some at

-- it is a key session of a client among these, as it stands there
pub record IsPlaceAmong (clients : List Client) (at : Place) : Type 0 where
  pub number : ℕ
  pub session : ℕ
  pub is_theirs : IsPlaceOf clients number session at

-- where the datagram of the last event went to a key session, that is one of the table's
abbrev pub TellsPlace : Table → Type 0
TellsPlace t = IfSome t.last_taken (IsPlaceAmong t.clients)

-- an event is no datagram
abbrev pub IsApart : Kind → Type 0
IsApart (Datagram from bytes) = ⊥
IsApart kind = Unit {0}

-- the datagram of the last event went to key session `k` of client `n`
pub record WentToSession (t : Table) (n k : ℕ) : Type 0 where
  pub at : Place
  pub is_last : t.last_taken ≡ Some at
  pub is_theirs : IsPlaceOf t.clients n k at
