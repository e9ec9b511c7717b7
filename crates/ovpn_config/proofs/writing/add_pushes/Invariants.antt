use Rattle.std.proofs.Common.{◌≡◌, ◌++◌, drop}
use Rattle.std.specs.Prelude.{codes, map}
use Rattle.ovpn_config.specs.Printed.{with_word}
use Rattle.ovpn_config.specs.Canonical.{lines_with}
use Rattle.ovpn_config.proofs.writing.add_pushes.Given as goal

-- those so far are written
abbrev pub invariant-pushes : goal.invariant-pushes
invariant-pushes l =
    l.out.items ++ lines_with (map (with_word (codes "push")) (drop l.i l.pushes)) ≡ l.initial.out.items ++ lines_with (map (with_word (codes "push")) l.pushes)
