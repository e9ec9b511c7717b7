use Rattle.std.proofs.Common.{◌≤◌, take}
use Rattle.vpn_base.specs.Acks.{acked}
use Rattle.reliable_send.specs.Sending.{Sending}
use Rattle.reliable_send.specs.Sides.{Stands}
use Rattle.control_link.specs.Calls.{all_acked}
use Rattle.control_link.proofs.link.count_acks.Given as goal

-- the ids so far are acknowledged
abbrev pub invariant-loop-id : goal.invariant-loop-id
invariant-loop-id l = record {
  stands : (s : Sending) → Stands l.fn.side s → Stands l.side (all_acked (take l.id-index (acked l.v.acks)) s);
  room : l.fn.side.spare ≤ l.side.spare;
}
