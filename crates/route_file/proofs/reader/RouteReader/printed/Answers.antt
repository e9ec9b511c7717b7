use Rattle.route_file.proofs.Readings.{cleared_at}
use Rattle.route_file.proofs.reader.RouteReader.printed.Goals as goal

pub returns-clause-first : goal.returns-clause-first
returns-clause-first c = λ rest. cleared_at c.args.self.now rest
