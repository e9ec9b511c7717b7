use Rattle.std.proofs.Common.{◌≡◌, ◌+◌, ◌-◌, ◌==◌, find}
use Rattle.std.specs.List.{range_with_len}
use Rattle.address_pool.specs.internal.Beside.{count_beside}
use Rattle.address_pool.proofs.counts.least_uncounted.Given as goal

-- the addresses so far are taken
abbrev pub invariant-addresses : goal.invariant-addresses
invariant-addresses l =
    find (λ n. count_beside l.counts l.given_up n == 0) (range_with_len l.a (l.last + 1 - l.a))
    ≡ find (λ n. count_beside l.counts l.given_up n == 0) (range_with_len l.first (l.last + 1 - l.first))

abbrev pub decreases-addresses : goal.decreases-addresses
decreases-addresses l = l.last + 1 - l.a
