use Rattle.std.proofs.Common.{◌≡◌, ◌++◌, drop}
use Rattle.std.specs.Prelude.{filter_map}
use Rattle.config_directives.specs.Items.{items_of}
use Rattle.ovpn_config.specs.Values.{engine_in}
use Rattle.ovpn_config.proofs.values.engine_given.Given as goal

-- what the directives so far give is in the list
abbrev pub invariant-directives : goal.invariant-directives
invariant-directives l =
    l.list ++ filter_map engine_in (items_of (drop l.directive-index l.directives)) ≡ filter_map engine_in (items_of l.directives)
