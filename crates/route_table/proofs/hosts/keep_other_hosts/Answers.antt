use Rattle.std.proofs.Common.{◌==◌, rules}
use Rattle.std.specs.Prelude.{not}
use Rattle.std.proofs.lemmas.Fn.{filter_same}
use Rattle.route_table.proofs.hosts.keep_other_hosts.Goals as goal

pub returns-clause-items : goal.returns-clause-items
returns-clause-items c = filter_same _ (λ host. not (host.0.0 == c.args.a.0)) _ (λ x b f k. search rules) _ _ c.retain.ensures.filtered
