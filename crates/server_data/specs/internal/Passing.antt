-- What holds of a client's packet that goes on.
use Rattle.std.specs.Prelude.{◌≡◌, ℕ, ◌≤◌, true, List, length, Some}
use Rattle.vpn_base.specs.declared.names.Cid.{Cid}
use Rattle.ip_packets.specs.Inner.{is_ip, source}
use Rattle.route_table.specs.Owner.{Row, owner}
use Rattle.inner_verdict.specs.declared.Verdict.{Verdict}
use Rattle.inner_verdict.specs.declared.Verdict.TheVariants.{ToClient, ToDevice}

-- it is one of IPv4, of at most 1,500 bytes, and the client owns its source
pub record IsCarried (rows : List Row) (cid : Cid) (inner : List ℕ) : Type 0 where
  pub ip : is_ip inner ≡ true
  pub short : length inner ≤ 1500
  pub owned : owner rows (source inner) ≡ Some cid

-- the same where its verdict is that it goes on
abbrev pub MayPass : List Row → Cid → List ℕ → Verdict → Type 0
MayPass rows cid inner (ToClient target) = IsCarried rows cid inner
MayPass rows cid inner ToDevice = IsCarried rows cid inner
MayPass rows cid inner verdict = Unit {0}
