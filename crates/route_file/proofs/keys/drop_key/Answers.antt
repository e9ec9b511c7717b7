use Rattle.std.proofs.Common.{not, rules}
use Rattle.std.proofs.lemmas.Fn.{filter_same}
use Rattle.route_file.specs.Keys.{is_named}
use Rattle.route_file.proofs.keys.drop_key.Goals as goal

pub returns : goal.returns
returns c = filter_same _ (λ k. not (is_named c.args.cid.0 c.args.kid k)) _ (λ x b f r. search rules) _ _ c.retain.ensures.filtered
