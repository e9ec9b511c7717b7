use Rattle.std.proofs.Common.{◌≡◌, ◌+◌, ◌*◌, ◌^◌, ◌<◌, ◌∷◌, take}
use Rattle.std.specs.List.{flat_map, AllByRecursion}
use Rattle.std.specs.Int.{w32, to_be_bytes}
use Rattle.vpn_base.specs.Acks.{acked}
use Rattle.opcode_codec.specs.ControlText.{with_front}
use Rattle.opcode_codec.proofs.control.put_ids.Given as goal

abbrev pub invariant-loop-id : goal.invariant-loop-id
invariant-loop-id l = record {
  end : l.end ≡ 1 + 4 * l.id-index;
  placed : l.out ≡ with_front (l.acks.count ∷ flat_map (to_be_bytes w32) (take l.id-index (acked l.acks))) l.fn.out;
  fit : AllByRecursion (λ id. id < 2 ^ 32) (take l.id-index (acked l.acks));
}
