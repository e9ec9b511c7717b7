use Rattle.std.proofs.Common.{◌≡◌, ◌++◌, drop}
use Rattle.std.specs.Prelude.{flat_map}
use Rattle.ovpn_config.specs.Canonical.{written}
use Rattle.ovpn_config.proofs.writing.add_table.Given as goal

-- those so far are written
abbrev pub invariant-keywords : goal.invariant-keywords
invariant-keywords l =
    l.out.items ++ flat_map (written l.s) (drop l.keyword-index l.keyword-items) ≡ l.initial.out.items ++ flat_map (written l.s) l.keyword-items
