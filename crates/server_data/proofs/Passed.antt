-- What holds of a client's packet that goes on, and where it goes.
use Rattle.std.proofs.Common.{◌≡◌, ℕ, ◌≤◌, Bool, true, false, cond, List, length, Option, Some, None, refl, sym, ap, subst, ◌∙◌, arith}
use Rattle.std.specs.Prelude.{◌==◌, nat_lt, not}
use Rattle.std.specs.Str.{bytes_eq}
use Rattle.std.proofs.lemmas.Bool.{false≢true}
use Rattle.std.proofs.lemmas.Grind.{common_steps}
use Rattle.vpn_base.specs.declared.names.Cid.{Cid}
use Rattle.vpn_base.specs.Network.{Network}
use Rattle.vpn_links.specs.Actions.{Action, Contents}
use Rattle.ip_packets.specs.Inner.{destination, is_ip, source}
use Rattle.route_table.specs.Owner.{Row, is_owned_by, owner}
use Rattle.route_table.specs.Learned as routes
use Rattle.inner_verdict.specs.declared.Verdict.{Verdict}
use Rattle.inner_verdict.specs.declared.Verdict.TheVariants.{NotIp, TooLong, Multicast, BadSource, ToClient, ToDevice, NoRoute}
use Rattle.inner_verdict.specs.Verdict.{is_group, routed, sourced, verdict}
use Rattle.ovpn_config.specs.declared.settings.Settings.{Settings}
use Rattle.peer_table.specs.Peer.{Peer}
use Rattle.server_table.specs.Courses.{Course}
use Rattle.server_table.specs.DataDatagrams.{carried, carried_as, passed, ping}
use Rattle.server_table.specs.Lookups.{cid}
use Rattle.server_state.specs.declared.state.ServerCore.{ServerCore}
use Rattle.server_state.specs.Core.{CoreStands, CourseStands}
use Rattle.server_data.specs.internal.Passing.{IsCarried, MayPass}

not_long : (inner : List ℕ) → nat_lt 1500 (length inner) ≡ false → length inner ≤ 1500
not_long inner e = grind (arith, common_steps)

same_number : (m n : ℕ) → (m == n) ≡ true → m ≡ n
same_number m n e = grind (arith, common_steps)

is_owner : (found : Option Cid) (sender : Cid) → is_owned_by sender found ≡ true → found ≡ Some sender
is_owner None sender e = absurd (false≢true e)
is_owner (Some found) sender e = ap (λ (n : ℕ). Some (record { 0 = n })) (same_number found.0 sender.0 e)

may_if_carried : (rows : List Row) (sender : Cid) (inner : List ℕ) (v : Verdict) → IsCarried rows sender inner → MayPass rows sender inner v
may_if_carried rows sender inner NotIp is = tt
may_if_carried rows sender inner TooLong is = tt
may_if_carried rows sender inner Multicast is = tt
may_if_carried rows sender inner (BadSource owner) is = tt
may_if_carried rows sender inner (ToClient target) is = is
may_if_carried rows sender inner ToDevice is = is
may_if_carried rows sender inner NoRoute is = tt

by_source : (rows : List Row) (sender : Cid) (inner : List ℕ) (found : Option Cid) (v : Verdict) (b : Bool) → is_owned_by sender found ≡ b
    → found ≡ owner rows (source inner) → is_ip inner ≡ true → length inner ≤ 1500 → MayPass rows sender inner (cond b v (BadSource found))
by_source rows sender inner found v true owned is ip short =
    may_if_carried rows sender inner v (record { ip = ip; short = short; owned = sym is ∙ is_owner found sender owned })
by_source rows sender inner found v false owned is ip short = tt

by_tests : (rows : List Row) (sender : Cid) (inner : List ℕ) (v : Verdict) (b l m : Bool) → is_ip inner ≡ b → nat_lt 1500 (length inner) ≡ l
    → (is_ip inner ≡ true → length inner ≤ 1500 → MayPass rows sender inner v)
    → MayPass rows sender inner (cond (not b) NotIp (cond l TooLong (cond m Multicast v)))
by_tests rows sender inner v false l m ip e may = tt
by_tests rows sender inner v true true m ip e may = tt
by_tests rows sender inner v true false true ip e may = tt
by_tests rows sender inner v true false false ip e may = may ip (not_long inner e)

-- a client's packet may pass by its verdict
pub may_pass : (rows : List Row) (subnet : Option Network) (between : Bool) (sender : Cid) (inner : List ℕ)
    → MayPass rows sender inner (verdict rows subnet between (Some sender) inner)
unfolding verdict
may_pass rows subnet between sender inner =
    let found = owner rows (source inner) in
    by_tests rows sender inner (sourced between (Some sender) found (owner rows (destination inner))) (is_ip inner) (nat_lt 1500 (length inner))
    (is_group subnet (destination inner)) refl refl
    (by_source rows sender inner found (routed between (Some sender) (owner rows (destination inner))) (is_owned_by sender found) refl refl)

module _ {S : Type 0} (means : S → Peer → Type 0) (before : List Action) (core : ServerCore S) (new_core : ServerCore S) (old new : Contents) (c : Course) (m : ℕ) (inner : List ℕ) (lacks : Bool) where
  -- a ping
  pub by_ping : bytes_eq inner ping ≡ true → CourseStands means before new_core new (carried_as lacks m inner c true)
      → CourseStands means before new_core new (carried lacks m inner c)
  unfolding carried
  by_ping is h = subst (λ b. CourseStands means before new_core new (carried_as lacks m inner c b)) (sym is) h

  -- another packet
  pub by_verdict : (v : Verdict) → bytes_eq inner ping ≡ false → CoreStands means core c.table
      → v ≡ verdict core.routes.rows core.settings.net core.settings.between (Some (cid m)) inner
      → CourseStands means before new_core new (passed lacks m inner c v) → CourseStands means before new_core new (carried lacks m inner c)
  unfolding carried
  by_verdict v is stands same h =
      subst (λ b. CourseStands means before new_core new (carried_as lacks m inner c b)) (sym is)
      (subst (λ v. CourseStands means before new_core new (passed lacks m inner c v))
      (same
      ∙ ap (λ (r : routes.Table). verdict r.rows core.settings.net core.settings.between (Some (cid m)) inner) stands.routes
      ∙ ap (λ (s : Settings). verdict c.table.routes.rows s.net s.between (Some (cid m)) inner) stands.settings) h)
