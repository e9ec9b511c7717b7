use Rattle.std.proofs.Common.{rules}
use Rattle.std.proofs.lemmas.Fn.{filter_same}
use Rattle.route_table.specs.Owner.{owner, is_owned_by}
use Rattle.route_table.specs.Learned.{kept_hosts}
use Rattle.route_table.proofs.hosts.judge_again.Goals as goal

pub returns : goal.returns
unfolding kept_hosts
returns c = filter_same _ (λ host. is_owned_by host.1 (owner c.args.rows.now host.0)) _ (λ x b f k. search rules) _ _ c.retain.ensures.filtered
