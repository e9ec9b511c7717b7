use Rattle.std.proofs.Common.{◌≡◌, ◌+◌, ◌*◌, ◌≤◌, ◌++◌, drop, map}
use Rattle.server_table.specs.Establishing.{network_line}
use Rattle.server_texts.specs.Told.{network_bytes}
use Rattle.server_texts.proofs.told.say_networks.Given as goal

-- those so far are said
abbrev pub invariant-networks : goal.invariant-networks
invariant-networks l =
    record {
      effects : l.out.effects ++ map (network_line l.cid.0) (drop l.i l.networks) ≡ l.initial.out.effects ++ map (network_line l.cid.0) l.networks;
      staged : l.out.staged ≡ l.initial.out.staged;
      effects_left : l.initial.out.spare_effects ≤ l.out.spare_effects + l.i;
      bytes_left : l.initial.out.spare_bytes ≤ l.out.spare_bytes + network_bytes * l.i;
    }
