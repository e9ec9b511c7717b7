use Rattle.std.proofs.Common.{◌≡◌, take}
use Rattle.packet_ids.specs.LongFreshness.{long_begun}
use Rattle.packet_ids.specs.LongWindows.{LongStands}
use Rattle.packet_ids.specs.Runs.{long_answers_to, long_after_all}
use Rattle.packet_ids.proofs.runs.judge_wrap_ids.Given as goal

abbrev pub invariant-loop-time : goal.invariant-loop-time
invariant-loop-time l = record {
  told : l.answers.items ≡ long_answers_to (take l.time-index l.arrivals) (long_begun l.n l.t);
  stands : LongStands l.window (long_after_all (take l.time-index l.arrivals) (long_begun l.n l.t));
}
