use Rattle.std.proofs.Common.{◌≡◌, ◌≤◌, ◌++◌, take, map, vec_capacity}
use Rattle.vpn_links.specs.internal.Store.{kept_datagram}
use Rattle.vpn_links.proofs.outbox.move_staged.Given as goal

-- those so far stand behind the effects
abbrev pub invariant-loop-datagram : goal.invariant-loop-datagram
invariant-loop-datagram l =
    record {
      items : l.effects.items ≡ l.fn.effects.items ++ map kept_datagram (take l.datagram-index l.staged);
      capacity : vec_capacity l.fn.effects ≤ vec_capacity l.effects;
    }
