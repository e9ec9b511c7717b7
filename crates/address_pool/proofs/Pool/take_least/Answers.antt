use Rattle.std.proofs.Common.{ℕ, ap, sym, ◌∙◌}
use Rattle.std.specs.Prelude.{option_map}
use Rattle.vpn_base.specs.declared.address.Ip4.{Ip4}
use Rattle.address_pool.specs.LeastFree.{given}
use Rattle.address_pool.proofs.Takings.{least_in}
use Rattle.address_pool.proofs.Pool.take_least.Goals as goal

pub returns-in-Ok-clause-least : goal.returns-in-Ok-clause-least
returns-in-Ok-clause-least c = λ t rest h counts.
    let address : ℕ → Ip4 = λ n. record { 0 = n } in
    ap given (sym (least_in c.args.self.now t c.args.given_up rest h counts) ∙ ap (option_map address) (sym c.least_uncounted.ensures ∙ c.in-Some.is))

pub returns-in-None-clause-least : goal.returns-in-None-clause-least
returns-in-None-clause-least c = λ t rest h counts.
    let address : ℕ → Ip4 = λ n. record { 0 = n } in
    ap given (sym (least_in c.args.self.now t c.args.given_up rest h counts) ∙ ap (option_map address) (sym c.least_uncounted.ensures ∙ c.in-None.is))
