use Rattle.packet_ids.specs.Freshness.{begun}
use Rattle.packet_ids.proofs.Once.{distinct_after_all}
use Rattle.packet_ids.proofs.runs.accepts_ids_once.Goals as goal

pub returns : goal.returns
returns c = λ n t arrivals. distinct_after_all arrivals (begun n t) tt
