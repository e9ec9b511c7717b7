use Rattle.std.proofs.Common.{◌≡◌, ◌-◌, take, drop, replicate}
use Rattle.opcode_codec.specs.ControlText.{numbers_at}
use Rattle.opcode_codec.proofs.control.read_ids.Given as goal

abbrev pub invariant-loop-k : goal.invariant-loop-k
invariant-loop-k l = record {
  read : take l.k l.ids ≡ numbers_at l.k l.bytes;
  zeros : drop l.k l.ids ≡ replicate (8 - l.k) 0;
}
