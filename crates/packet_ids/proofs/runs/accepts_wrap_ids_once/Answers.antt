use Rattle.packet_ids.specs.LongFreshness.{long_begun}
use Rattle.packet_ids.proofs.Once.{distinct_pairs_after_all}
use Rattle.packet_ids.proofs.runs.accepts_wrap_ids_once.Goals as goal

pub returns : goal.returns
returns c = λ n t arrivals. distinct_pairs_after_all arrivals (long_begun n t) (λ time. tt)
