-- The same best row by a walk from the front, which keeps the best so far.
use Rattle.std.specs.Prelude.{nat_lt, Option, Some, None, if◌then◌else◌}
use Rattle.vpn_base.specs.declared.address.Ip4.{Ip4}
use Rattle.vpn_base.specs.Network.{contains}
use Rattle.route_table.specs.Owner.{Row}

-- of the best so far and a later row that contains the address the one with the longer prefix, or the later one
abbrev pub longer : Option Row → Row → Option Row
longer None row = Some row
longer (Some best) row = if nat_lt row.0.len best.0.len then Some best else Some row

-- the best after one more row
abbrev pub best_after : Ip4 → Option Row → Row → Option Row
best_after a best row = if contains row.0 a then longer best row else best
