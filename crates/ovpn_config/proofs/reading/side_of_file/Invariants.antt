use Rattle.std.proofs.Common.{◌≡◌, drop}
use Rattle.config_directives.specs.Items.{items_of}
use Rattle.ovpn_config.specs.Reading.{side_of_file}
use Rattle.ovpn_config.proofs.reading.side_of_file.Given as goal

-- the directives so far decide no side
abbrev pub invariant-directives : goal.invariant-directives
invariant-directives l = side_of_file (items_of (drop l.directive-index l.directives)) ≡ side_of_file (items_of l.directives)
