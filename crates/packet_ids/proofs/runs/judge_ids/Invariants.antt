use Rattle.std.proofs.Common.{◌≡◌, take}
use Rattle.packet_ids.specs.Freshness.{begun}
use Rattle.packet_ids.specs.Window.{Stands}
use Rattle.packet_ids.specs.Runs.{answers_to, after_all}
use Rattle.packet_ids.proofs.runs.judge_ids.Given as goal

abbrev pub invariant-loop-id : goal.invariant-loop-id
invariant-loop-id l = record {
  told : l.answers.items ≡ answers_to (take l.id-index l.arrivals) (begun l.n l.t);
  stands : Stands l.window (after_all (take l.id-index l.arrivals) (begun l.n l.t));
}
