-- What a verdict tells of the owners.
use Rattle.std.proofs.Common.{◌≡◌, ℕ, not, Bool, true, false, List, length, Option, Some, None, refl, sym, ap, ◌∙◌, subst, nat_lt}
use Rattle.std.specs.Prelude.{◌==◌, if◌then◌else◌}
use Rattle.std.proofs.lemmas.Bool.{eq-eqb, eqb-true, false≢true}
use Rattle.vpn_base.specs.declared.names.Cid.{Cid}
use Rattle.vpn_base.specs.Network.{Network}
use Rattle.ip_packets.specs.Inner.{is_ip, source, destination}
use Rattle.route_table.specs.Owner.{Row, owner, is_owned_by}
use Rattle.inner_verdict.specs.declared.Verdict.{Verdict}
use Rattle.inner_verdict.specs.declared.Verdict.TheVariants.{NotIp, TooLong, Multicast, BadSource, ToClient, ToDevice, NoRoute}
use Rattle.inner_verdict.specs.Verdict.{is_group, longest_packet, routed, sourced, verdict}
use Rattle.server_table.specs.Lookups.{cid}

-- which kind of verdict it is
abbrev pub tag : Verdict → ℕ
tag NotIp = 0
tag TooLong = 1
tag Multicast = 2
tag (BadSource found) = 3
tag (ToClient target) = 4
tag ToDevice = 5
tag NoRoute = 6

apart : {v w : Verdict} → ((tag v == tag w) ≡ false) → v ≡ w → ⊥
apart {v = v} {w = w} different same = false≢true (sym different ∙ ap (λ (u : Verdict). tag u == tag w) same ∙ same_tag (tag w))
  where
    same_tag : (n : ℕ) → (n == n) ≡ true
    same_tag n = eq-eqb n n refl

-- what passes the first three tests is judged by the owners
past_tests : (a b c : Bool) (s v : Verdict) → ((0 == tag v) ≡ false) → ((1 == tag v) ≡ false) → ((2 == tag v) ≡ false) →
    (if not a then NotIp else if b then TooLong else if c then Multicast else s) ≡ v → s ≡ v
past_tests false b c s v p q r e = absurd (apart p e)
past_tests true true c s v p q r e = absurd (apart q e)
past_tests true false true s v p q r e = absurd (apart r e)
past_tests true false false s v p q r e = e

pub by_owners : (rows : List Row) (net : Option Network) (between : Bool) (sender : Option Cid) (inner : List ℕ) (v : Verdict) →
    ((0 == tag v) ≡ false) → ((1 == tag v) ≡ false) → ((2 == tag v) ≡ false) →
    verdict rows net between sender inner ≡ v → sourced between sender (owner rows (source inner)) (owner rows (destination inner)) ≡ v
unfolding verdict
by_owners rows net between sender inner v p q r e =
    past_tests (is_ip inner) (nat_lt longest_packet (length inner)) (is_group net (destination inner))
    (sourced between sender (owner rows (source inner)) (owner rows (destination inner))) v p q r e

-- a client is the owner that was found
is_owner : (n : ℕ) (found : Option Cid) → is_owned_by (cid n) found ≡ true → found ≡ Some (cid n)
is_owner n None e = absurd (false≢true e)
is_owner n (Some found) e = ap (λ (m : ℕ). Some (cid m)) (eqb-true found.0 n e)

sourced_by : (between : Bool) (n : ℕ) (found target : Option Cid) (v : Verdict) → ((3 == tag v) ≡ false) → (b : Bool) → is_owned_by (cid n) found ≡ b →
    (if b then routed between (Some (cid n)) target else BadSource found) ≡ v → found ≡ Some (cid n)
sourced_by between n found target v p true owned e = is_owner n found owned
sourced_by between n found target v p false owned e = absurd (apart p e)

pub owned_to_client : (rows : List Row) (net : Option Network) (between : Bool) (n : ℕ) (inner : List ℕ) (target : Cid) →
    verdict rows net between (Some (cid n)) inner ≡ ToClient target → owner rows (source inner) ≡ Some (cid n)
owned_to_client rows net between n inner target e =
    sourced_by between n (owner rows (source inner)) (owner rows (destination inner)) (ToClient target) refl (is_owned_by (cid n) (owner rows (source inner))) refl
    (by_owners rows net between (Some (cid n)) inner (ToClient target) refl refl refl e)

pub owned_to_device : (rows : List Row) (net : Option Network) (between : Bool) (n : ℕ) (inner : List ℕ) →
    verdict rows net between (Some (cid n)) inner ≡ ToDevice → owner rows (source inner) ≡ Some (cid n)
owned_to_device rows net between n inner e =
    sourced_by between n (owner rows (source inner)) (owner rows (destination inner)) ToDevice refl (is_owned_by (cid n) (owner rows (source inner))) refl
    (by_owners rows net between (Some (cid n)) inner ToDevice refl refl refl e)

-- ---- by the verdict's kind

if_kind : (Q : Verdict → Type 0) (b : Bool) (v w : Verdict) → Q v → Q w → Q (if b then v else w)
if_kind Q true v w p q = p
if_kind Q false v w p q = q

-- what a client sends always has a route
abbrev HasRoute : Verdict → Type 0
HasRoute NoRoute = ⊥
HasRoute _ = Unit {0}

client_routed : (between : Bool) (n : ℕ) (target : Option Cid) → HasRoute (routed between (Some (cid n)) target)
client_routed between n None = tt
client_routed between n (Some target) = if_kind HasRoute between (ToClient target) ToDevice tt tt

pub client_has_route : (rows : List Row) (net : Option Network) (between : Bool) (n : ℕ) (inner : List ℕ) → verdict rows net between (Some (cid n)) inner ≡ NoRoute → ⊥
client_has_route rows net between n inner e =
    subst HasRoute (by_owners rows net between (Some (cid n)) inner NoRoute refl refl refl e)
    (if_kind HasRoute (is_owned_by (cid n) (owner rows (source inner))) (routed between (Some (cid n)) (owner rows (destination inner))) (BadSource (owner rows (source inner)))
    (client_routed between n (owner rows (destination inner))) tt)

-- what the device sends needs no source, and does not go back
abbrev IsFromDevice : Verdict → Type 0
IsFromDevice (BadSource found) = ⊥
IsFromDevice ToDevice = ⊥
IsFromDevice _ = Unit {0}

device_routed : (between : Bool) (target : Option Cid) → IsFromDevice (routed between None target)
device_routed between None = tt
device_routed between (Some target) = tt

pub device_needs_no_source : (rows : List Row) (net : Option Network) (between : Bool) (inner : List ℕ) (found : Option Cid) → verdict rows net between None inner ≡ BadSource found → ⊥
device_needs_no_source rows net between inner found e =
    subst IsFromDevice (by_owners rows net between None inner (BadSource found) refl refl refl e) (device_routed between (owner rows (destination inner)))

pub device_not_to_device : (rows : List Row) (net : Option Network) (between : Bool) (inner : List ℕ) → verdict rows net between None inner ≡ ToDevice → ⊥
device_not_to_device rows net between inner e =
    subst IsFromDevice (by_owners rows net between None inner ToDevice refl refl refl e) (device_routed between (owner rows (destination inner)))

-- the client that it names owns the destination
abbrev NamesOwner : Option Cid → Verdict → Type 0
NamesOwner found (ToClient target) = found ≡ Some target
NamesOwner found _ = Unit {0}

routed_names : (between : Bool) (sender target : Option Cid) → NamesOwner target (routed between sender target)
routed_names between None None = tt
routed_names between None (Some target) = refl
routed_names between (Some sender) None = tt
routed_names between (Some sender) (Some target) = if_kind (NamesOwner (Some target)) between (ToClient target) ToDevice refl tt

sourced_names : (between : Bool) (sender found target : Option Cid) → NamesOwner target (sourced between sender found target)
sourced_names between None found target = routed_names between None target
sourced_names between (Some sender) found target =
    if_kind (NamesOwner target) (is_owned_by sender found) (routed between (Some sender) target) (BadSource found) (routed_names between (Some sender) target) tt

pub target_of : (rows : List Row) (net : Option Network) (between : Bool) (sender : Option Cid) (inner : List ℕ) (target : Cid) →
    verdict rows net between sender inner ≡ ToClient target → owner rows (destination inner) ≡ Some target
target_of rows net between sender inner target e =
    subst (NamesOwner (owner rows (destination inner))) (by_owners rows net between sender inner (ToClient target) refl refl refl e)
    (sourced_names between sender (owner rows (source inner)) (owner rows (destination inner)))

-- a client that owns the source is not refused for it
abbrev OwnsNot : ℕ → Option Cid → Verdict → Type 0
OwnsNot n found (BadSource other) = is_owned_by (cid n) found ≡ false
OwnsNot n found _ = Unit {0}

routed_not : (between : Bool) (n : ℕ) (found target : Option Cid) → OwnsNot n found (routed between (Some (cid n)) target)
routed_not between n found None = tt
routed_not between n found (Some target) = if_kind (OwnsNot n found) between (ToClient target) ToDevice tt tt

bad_step : (between : Bool) (n : ℕ) (found target : Option Cid) (b : Bool) → is_owned_by (cid n) found ≡ b →
    OwnsNot n found (if b then routed between (Some (cid n)) target else BadSource found)
bad_step between n found target true owned = routed_not between n found target
bad_step between n found target false owned = owned

pub owner_is_good : (rows : List Row) (net : Option Network) (between : Bool) (n : ℕ) (inner : List ℕ) (other : Option Cid) → owner rows (source inner) ≡ Some (cid n) →
    verdict rows net between (Some (cid n)) inner ≡ BadSource other → ⊥
owner_is_good rows net between n inner other owned e =
    let not : is_owned_by (cid n) (owner rows (source inner)) ≡ false
    = subst (OwnsNot n (owner rows (source inner))) (by_owners rows net between (Some (cid n)) inner (BadSource other) refl refl refl e)
    (bad_step between n (owner rows (source inner)) (owner rows (destination inner)) (is_owned_by (cid n) (owner rows (source inner))) refl) in
    false≢true (sym not ∙ ap (is_owned_by (cid n)) owned ∙ eq-eqb n n refl)
