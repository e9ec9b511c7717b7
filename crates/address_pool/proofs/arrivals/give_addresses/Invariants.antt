use Rattle.std.proofs.Common.{◌≡◌, [], drop}
use Rattle.address_pool.specs.Holds.{Holds}
use Rattle.address_pool.specs.Arrivals.{addresses_from}
use Rattle.address_pool.proofs.arrivals.give_addresses.Given as goal

-- the pool holds the addresses so far, and the rest of the clients comes behind them
abbrev pub invariant-loop-own : goal.invariant-loop-own
invariant-loop-own l = record {
  holds : Holds l.pool (record { first = l.fn.first; last = l.fn.last; taken = l.addresses.items });
  rest : addresses_from l.fn.first l.fn.last l.addresses.items (drop l.own-index l.wanted) ≡ addresses_from l.fn.first l.fn.last [] l.wanted;
}
