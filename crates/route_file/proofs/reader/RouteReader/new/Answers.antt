use Rattle.std.proofs.Common.{◌≡◌, refl}
use Rattle.route_file.specs.Output.{empty_table}
use Rattle.route_file.specs.internal.State.{progress_of}
use Rattle.route_file.proofs.Readings.{begun_at}
use Rattle.route_file.proofs.reader.RouteReader.new.Goals as goal

pub returns-clause-begun : goal.returns-clause-begun
returns-clause-begun c =
    let p = progress_of c.new.result c.new-2.result.items in
    let table : p.table ≡ empty_table = rw (c.new.ensures.table, c.new.ensures.subnet, c.new.ensures.between, c.new.ensures.keys) refl in
    begun_at p c.new.ensures.text table c.new.ensures.count c.new.ensures.bytes c.new-2.ensures.items
