use Rattle.std.proofs.Common.{◌≡◌, drop}
use Rattle.config_directives.specs.Items.{first_named, items_of}
use Rattle.config_directives.proofs.item.first_named.Given as goal

-- the directives so far have other names
abbrev pub invariant-loop-directive : goal.invariant-loop-directive
invariant-loop-directive l =
    first_named l.name (items_of (drop l.directive-index l.directives)) ≡ first_named l.name (items_of l.directives)
