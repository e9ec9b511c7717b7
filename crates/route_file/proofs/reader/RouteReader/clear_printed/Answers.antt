use Rattle.route_file.proofs.Readings.{cleared_at}
use Rattle.route_file.specs.internal.State.{progress_of}
use Rattle.route_file.proofs.reader.RouteReader.clear_printed.Goals as goal

pub returns-clause-left : goal.returns-clause-left
returns-clause-left c = λ rest. rw (← c.self.view_is, c.clear.ensures.bytes) (cleared_at (progress_of c.self.inside.state c.self.inside.kept.items) rest)
