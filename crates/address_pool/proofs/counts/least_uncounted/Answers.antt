use Rattle.std.proofs.Common.{ℕ, ◌==◌, Bool, sym, ◌∙◌, arith}
use Rattle.address_pool.specs.internal.Beside.{count_beside}
use Rattle.address_pool.proofs.Takings.{find_next}
use Rattle.address_pool.proofs.counts.least_uncounted.Goals as goal

pub addresses-preserved : goal.addresses-preserved
addresses-preserved c =
    let free : ℕ → Bool = λ n. count_beside c.args.counts.now c.args.given_up n == 0 in
    find_next free c.addresses.a c.args.last (omega arith) (sym c.is_uncounted.ensures ∙ c.if-is_uncounted.false) ∙ c.addresses.invariant
