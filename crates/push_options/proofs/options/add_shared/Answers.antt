use Rattle.std.proofs.Common.{ℕ, List, ◌++◌, ap, ◌∙◌}
use Rattle.push_options.proofs.Added.{three_added}
use Rattle.push_options.proofs.options.add_shared.Goals as goal

pub returns : goal.returns
returns c =
    three_added _ _ _ _ _ _ _
    (c.in_ok-add_all.ensures ∙ ap (λ (l : List (List ℕ)). c.args.list.now ++ l) c.as_slice.ensures)
    c.in_ok-add_network.ensures c.in_ok-add_pings.ensures
