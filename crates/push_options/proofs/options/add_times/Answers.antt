use Rattle.push_options.proofs.Added.{two_added}
use Rattle.push_options.proofs.options.add_times.Goals as goal

pub returns : goal.returns
returns c = two_added _ _ _ _ _ _ _ c.in_ok-add.ensures.ok c.in_ok-add-2.ensures.ok c.in_ok-number_option.ensures c.in_ok-number_option-2.ensures
