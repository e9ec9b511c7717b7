use Rattle.std.proofs.Common.{◌∙◌}
use Rattle.address_pool.proofs.Takings.{absent}
use Rattle.address_pool.proofs.Pool.give_back.Goals as goal

pub returns-clause-absent : goal.returns-clause-absent
returns-clause-absent c = λ t h out. record {
  begins = h.begins;
  ends = h.ends;
  counts = λ n. c.count_down.ensures n ∙ absent c.args.self.now t c.args.a.0 h out n;
}
