use Rattle.std.proofs.Common.{◌≡◌, take, length}
use Rattle.peer_table.specs.EngineAnswers.{kept_name}
use Rattle.key_sessions.proofs.name.keep.Given as goal

abbrev pub invariant-loop-i : goal.invariant-loop-i
invariant-loop-i l = record {
  kept : take l.i l.bytes ≡ kept_name (take l.i l.name);
  size : length l.bytes ≡ 64;
}
