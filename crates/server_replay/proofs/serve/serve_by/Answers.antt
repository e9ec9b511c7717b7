use Rattle.server_replay.specs.internal.Serving.{with_start}
use Rattle.server_replay.proofs.Served.{served}
use Rattle.server_replay.proofs.serve.serve_by.Goals as goal

pub returns-clause-run : goal.returns-clause-run
returns-clause-run g c = λ t stands. served (with_start g.L.Links.may_fail) t c.run_over-links.result.2 (c.run_over-links.ensures.run t stands)
