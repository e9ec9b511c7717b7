use Rattle.std.proofs.Common.{◌≡◌, ◌≤◌}
use Rattle.vpn_text.specs.Mask.{length_upto}
use Rattle.vpn_text.proofs.mask.mask_length.Given as goal

-- no longer mask is this one
abbrev pub invariant-loop-len : goal.invariant-loop-len
invariant-loop-len l = record {
  small : l.len ≤ 32;
  same : length_upto l.len l.mask ≡ length_upto 32 l.mask;
}

abbrev pub decreases-loop-len : goal.decreases-loop-len
decreases-loop-len l = l.len
