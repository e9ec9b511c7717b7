use Rattle.std.proofs.Common.{◌≡◌, ◌++◌, drop}
use Rattle.ovpn_config.specs.Canonical.{lines_with}
use Rattle.ovpn_config.proofs.writing.add_engine.Given as goal

-- those so far are written
abbrev pub invariant-engine : goal.invariant-engine
invariant-engine l = l.out.items ++ lines_with (drop l.i l.engine) ≡ l.initial.out.items ++ lines_with l.engine
