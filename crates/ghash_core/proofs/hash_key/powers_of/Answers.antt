use Rattle.std.proofs.Common.{◌<◌, ◌≢◌, length, ap, sym, ◌∙◌, refl, arith, get_or-set_other, get_or-set_same, below_more, length-set}
use Rattle.ghash_core.specs.Field.{times_power, times_x}
use Rattle.ghash_core.proofs.Linear.{times_power_more}
use Rattle.ghash_core.proofs.hash_key.powers_of.Goals as goal

pub powers-init : goal.powers-init
unfolding times_power
powers-init c = record { whole = refl; powers_so_far = λ k none. absurd (omega arith); shifted_so_far = refl }

pub powers-preserved : goal.powers-preserved
powers-preserved c =
    let known = c.powers.invariant in
    let within : c.powers.i < length c.powers.powers = omega arith in
    record {
      whole = rw length-set known.whole;
      powers_so_far = below_more _ _
          (λ k low. let apart : k ≢ c.powers.i = omega arith in rw get_or-set_other (known.powers_so_far k low))
          (get_or-set_same c.powers.powers c.powers.i c.powers.shifted 0 within ∙ known.shifted_so_far);
      shifted_so_far = c.times_x-shifted.ensures ∙ ap times_x known.shifted_so_far ∙ sym (times_power_more c.args.element c.powers.i);
    }
