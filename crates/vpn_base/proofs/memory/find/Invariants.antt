use Rattle.std.proofs.Common.{◌≡◌, drop}
use Rattle.vpn_base.specs.Memory.{holding}
use Rattle.vpn_base.proofs.memory.find.Given as goal

abbrev pub invariant-loop-known : goal.invariant-loop-known
invariant-loop-known l = holding (drop l.known-index l.held) l.name ≡ holding l.held l.name
