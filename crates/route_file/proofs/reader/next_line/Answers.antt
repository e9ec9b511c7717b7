use Rattle.std.proofs.Common.{◌==◌}
use Rattle.std.specs.List.{slice_split}
use Rattle.route_file.proofs.Cuts.{first_whole, text_is}
use Rattle.route_file.proofs.reader.next_line.Goals as goal

pub returns-in-Some : goal.returns-in-Some
returns-in-Some c = (
  first_whole (λ b. b == 10) c.args.text.now c.in-Some.line.now (slice_split (λ b. b == 10) c.in-Some.rest.now) c.in-Some.ensures,
  text_is c.args.text.now c.in-Some.line.now c.in-Some.rest.now c.in-Some.ensures,
)
