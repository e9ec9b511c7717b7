use Rattle.std.proofs.Common.{◌≡◌, drop}
use Rattle.std.specs.Prelude.{find}
use Rattle.ovpn_config.specs.Reading.{is_astray}
use Rattle.ovpn_config.proofs.reading.first_astray.Given as goal

-- the directives so far are not on the wrong side
abbrev pub invariant-directives : goal.invariant-directives
invariant-directives l = find (is_astray l.role) (drop l.directive-index l.directives) ≡ find (is_astray l.role) l.directives
