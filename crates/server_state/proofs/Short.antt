-- Only short packets go anywhere.
use Rattle.std.proofs.Common.{◌≡◌, ℕ, ◌≤◌, Bool, true, false, cond, List, length, Option, refl, ap, ◌∙◌, arith}
use Rattle.std.specs.Prelude.{nat_lt, not}
use Rattle.std.proofs.lemmas.Grind.{common_steps}
use Rattle.vpn_base.specs.declared.names.Cid.{Cid}
use Rattle.vpn_base.specs.Network.{Network}
use Rattle.ip_packets.specs.Inner.{destination, is_ip, source}
use Rattle.route_table.specs.Owner.{Row, owner}
use Rattle.inner_verdict.specs.declared.Verdict.{Verdict}
use Rattle.inner_verdict.specs.declared.Verdict.TheVariants.{NotIp, TooLong, Multicast, BadSource, ToClient, ToDevice, NoRoute}
use Rattle.inner_verdict.specs.Verdict.{is_group, sourced, verdict}
use Rattle.ovpn_config.specs.declared.settings.Settings.{Settings}
use Rattle.peer_table.specs.Peer.{Peer}
use Rattle.route_table.specs.Learned as routes
use Rattle.server_table.specs.Table.{Table}
use Rattle.server_state.specs.declared.state.ServerCore.{ServerCore}
use Rattle.server_state.specs.Core.{CoreStands}
use Rattle.server_state.specs.Verdicts.{IsShortTo}

not_long : (inner : List ℕ) → nat_lt 1500 (length inner) ≡ false → length inner ≤ 1500
not_long inner e = grind (arith, common_steps)

short_to : (v : Verdict) (inner : List ℕ) → length inner ≤ 1500 → IsShortTo v inner
short_to NotIp inner short = tt
short_to TooLong inner short = tt
short_to Multicast inner short = tt
short_to (BadSource owner) inner short = tt
short_to (ToClient target) inner short = short
short_to ToDevice inner short = short
short_to NoRoute inner short = tt

by_tests : (inner : List ℕ) (v : Verdict) (b l m : Bool) → nat_lt 1500 (length inner) ≡ l
    → IsShortTo (cond b NotIp (cond l TooLong (cond m Multicast v))) inner
by_tests inner v true l m e = tt
by_tests inner v false true m e = tt
by_tests inner v false false true e = tt
by_tests inner v false false false e = short_to v inner (not_long inner e)

pub short_is : (rows : List Row) (subnet : Option Network) (between : Bool) (sender : Option Cid) (inner : List ℕ)
    → IsShortTo (verdict rows subnet between sender inner) inner
unfolding verdict
short_is rows subnet between sender inner =
    by_tests inner (sourced between sender (owner rows (source inner)) (owner rows (destination inner))) (not (is_ip inner))
    (nat_lt 1500 (length inner)) (is_group subnet (destination inner)) refl

-- the verdict over a core's rows and settings is that over its table's
pub verdict_same : {S : Type 0} (means : S → Peer → Type 0) (core : ServerCore S) (t : Table) (sender : Option Cid) (inner : List ℕ) → CoreStands means core t
    → verdict core.routes.rows core.settings.net core.settings.between sender inner ≡ verdict t.routes.rows t.settings.net t.settings.between sender inner
verdict_same means core t sender inner h =
    ap (λ (routes : routes.Table). verdict routes.rows core.settings.net core.settings.between sender inner) h.routes
    ∙ ap (λ (s : Settings). verdict t.routes.rows s.net s.between sender inner) h.settings
