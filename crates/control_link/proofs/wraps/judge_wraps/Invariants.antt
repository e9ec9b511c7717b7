use Rattle.std.proofs.Common.{◌≡◌, take}
use Rattle.packet_ids.specs.LongFreshness.{long_begun}
use Rattle.packet_ids.specs.Runs.{long_after_all, long_answers_to}
use Rattle.control_link.specs.Envelope.{EnvelopeStands, envelope_begun}
use Rattle.control_link.proofs.wraps.judge_wraps.Given as goal

abbrev pub invariant-loop-time : goal.invariant-loop-time
invariant-loop-time g l = record {
  told : l.answers.items ≡ long_answers_to (take l.time-index l.arrivals) (long_begun l.win l.win_secs);
  stands :
      EnvelopeStands g.W.Wrap.wrapped l.env (record (envelope_begun (g.W.Wrap.wrapped l.fn.wrap) l.own 0 l.win l.win_secs) { accepted = long_after_all (take l.time-index l.arrivals) (long_begun l.win l.win_secs) });
}
