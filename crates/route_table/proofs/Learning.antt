-- What holds of a table after a change.
use Rattle.std.proofs.Common.{◌≡◌, ℕ, ◌+◌, ◌<◌, ◌≤◌, Bool, true, false, cond, List, [], ◌∷◌, ◌++◌, length, take, get_or, refl, ap, ◌∙◌, arith}
use Rattle.std.specs.Prelude.{◌==◌, not, Some, filter, map, slice_get}
use Rattle.std.specs.List.{All, list_any}
use Rattle.std.proofs.lemmas.List.Elements.{All-nil, All-cons, All-take, All-filter}
use Rattle.std.proofs.lemmas.List.Sums.{length-filter, count_by-le-length}
use Rattle.std.proofs.lemmas.List.{length-take, map-append, take_more}
use Rattle.std.proofs.lemmas.Option.{slice_get_within, get_or_from_slice_get}
use Rattle.vpn_base.specs.declared.address.Ip4.{Ip4}
use Rattle.vpn_base.specs.declared.names.Cid.{Cid}
use Rattle.vpn_base.specs.Network.{Network}
use Rattle.route_table.specs.Owner.{Row, owner, is_owned_by}
use Rattle.route_table.specs.Learned.{Host, most_hosts, is_learned, other_hosts, learnt, kept_hosts, rows_of}
use Rattle.route_table.specs.internal.Sound.{IsSound}

filter_at_most : (p : Host → Bool) (hosts : List Host) → length (filter p hosts) ≤ length hosts
filter_at_most p hosts = omega (arith, length-filter p hosts, count_by-le-length p hosts)

fewer_when : (p : Host → Bool) (b : Bool) (host : Host) (hosts : List Host) → p host ≡ b → list_any p (host ∷ hosts) ≡ true →
    (list_any p hosts ≡ true → length (filter (λ x. not (p x)) hosts) < length hosts) →
    length (cond (not b) (host ∷ filter (λ x. not (p x)) hosts) (filter (λ x. not (p x)) hosts)) < length (host ∷ hosts)
fewer_when p true host hosts is found rest = let k = filter_at_most (λ x. not (p x)) hosts in omega (arith, k)
fewer_when p false host hosts is found rest = let k = rest (rw is at found) in omega (arith, k)

-- without an address that is there the hosts are fewer
fewer : (p : Host → Bool) (hosts : List Host) → list_any p hosts ≡ true → length (filter (λ x. not (p x)) hosts) < length hosts
fewer p [] found = absurd cc
fewer p (host ∷ hosts) found = fewer_when p (p host) host hosts refl found (fewer p hosts)

pub others_fewer : (a : Ip4) (hosts : List Host) → is_learned hosts a ≡ true → length (other_hosts a hosts) < length hosts
others_fewer a hosts found = fewer (λ host. host.0.0 == a.0) hosts found

pub others_at_most : (a : Ip4) (hosts : List Host) → length (other_hosts a hosts) ≤ length hosts
others_at_most a hosts = filter_at_most (λ host. not (host.0.0 == a.0)) hosts

passes_when : (p : Host → Bool) (b : Bool) (host : Host) (hosts : List Host) → p host ≡ b → All (λ x. p x ≡ true) (filter p hosts) →
    All (λ x. p x ≡ true) (cond b (host ∷ filter p hosts) (filter p hosts))
passes_when p true host hosts is rest = All-cons (λ x. p x ≡ true) host (filter p hosts) is rest
passes_when p false host hosts is rest = rest

passes : (p : Host → Bool) (hosts : List Host) → All (λ x. p x ≡ true) (filter p hosts)
passes p [] = All-nil (λ x. p x ≡ true)
passes p (host ∷ hosts) = passes_when p (p host) host hosts refl (passes p hosts)

-- hosts that were judged again are sound over the rows
pub sound_kept : (rows : List Row) (hosts : List Host) → length hosts ≤ most_hosts → IsSound rows (kept_hosts rows hosts)
unfolding kept_hosts
sound_kept rows hosts few =
    let p : Host → Bool = λ host. is_owned_by host.1 (owner rows host.0) in
    record { owned = passes p hosts; few = omega (arith, filter_at_most p hosts, few) }

-- a host that its client owns may be learned
pub sound_learnt : (rows : List Row) (hosts : List Host) (a : Ip4) (cid : Cid) → IsSound rows hosts → owner rows a ≡ Some cid → IsSound rows (learnt a cid hosts)
unfolding learnt
sound_learnt rows hosts a cid sound owned =
    let P : Host → Type 0 = λ host. is_owned_by host.1 (owner rows host.0) ≡ true in
    let mine : is_owned_by cid (owner rows a) ≡ true = rw owned (grind arith) in
    let all : All P ((a, cid) ∷ other_hosts a hosts) =
    All-cons P (a, cid) (other_hosts a hosts) mine (All-filter (λ host. not (host.0.0 == a.0)) P hosts sound.owned) in
    record { owned = All-take P most_hosts ((a, cid) ∷ other_hosts a hosts) all; few = omega (arith, length-take most_hosts ((a, cid) ∷ other_hosts a hosts)) }

-- the rows of one network more
pub rows_of_more : (cid : Cid) (networks : List Network) (i : ℕ) (network : Network) → slice_get networks i ≡ Some network →
    rows_of cid (take (i + 1) networks) ≡ rows_of cid (take i networks) ++ (network, cid) ∷ []
rows_of_more cid networks i network here =
    let row : Network → Row = λ n. (n, cid) in
    let more = take_more networks i network (slice_get_within networks i network here) in
    ap (map row) more ∙ map-append row (take i networks) (get_or networks i network ∷ [])
    ∙ ap (λ (n : Network). map row (take i networks) ++ row n ∷ []) (get_or_from_slice_get networks i network network here)
