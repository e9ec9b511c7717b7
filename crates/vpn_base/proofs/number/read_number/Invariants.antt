use Rattle.std.proofs.Common.{◌≡◌, ◌≤◌, drop}
use Rattle.std.specs.List.{list_all}
use Rattle.vpn_base.specs.Number.{value_behind, is_digit}
use Rattle.vpn_base.proofs.number.read_number.Given as goal

abbrev pub invariant-loop-digit : goal.invariant-loop-digit
invariant-loop-digit l = record {
  small : l.value ≤ l.most;
  spells : value_behind l.value (drop l.digit-index l.text) ≡ value_behind 0 l.text;
  digits : list_all is_digit (drop l.digit-index l.text) ≡ list_all is_digit l.text;
}
