use Rattle.std.proofs.Common.{◌≡◌, drop}
use Rattle.vpn_links.specs.LinkStore.{fault_at}
use Rattle.vpn_links.proofs.mem_links.fault_of.Given as goal

-- none of those so far is for this call
abbrev pub invariant-loop-number : goal.invariant-loop-number
invariant-loop-number l = fault_at (drop l.number-index l.failing) l.call l.of_line ≡ fault_at l.failing l.call l.of_line
