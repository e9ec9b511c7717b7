use Rattle.std.proofs.Common.{◌<◌, length, arith}
use Rattle.vpn_top.proofs.Runs.{part_of, end_of}
use Rattle.vpn_top.proofs.route.take_turn.Goals as goal

pub returns-in-Ok-eq0-clause-turned : goal.returns-in-Ok-eq0-clause-turned
returns-in-Ok-eq0-clause-turned g c = λ before going.
    let holding = g.F.Files.holds c.args.files.now c.args.name.now in
    let some : 0 < length c.take.new.into = omega (arith, c.take.auto.into) in
    c.finish.ensures.ended holding before c.args.at (g.F.Files.faults c.args.files.now) (g.F.Files.faults c.take.new.self)
    (end_of holding c.args.at c.take.new.into some (rw c.in-Ok-eq0.field-0-test at c.in-Ok-eq0.ensures.copied)) going

pub returns-in-Err-Missing-clause-turned : goal.returns-in-Err-Missing-clause-turned
returns-in-Err-Missing-clause-turned g c = λ before going. (
  c.in-Err-Missing.ensures.missing c.in-Err-Missing.field-0-is,
  part_of (g.F.Files.holds c.args.files.now c.args.name.now) before (g.S.Sink.contents c.args.out.now) c.args.at c.args.reader going,
)

pub returns-clause-turned : goal.returns-clause-turned
returns-clause-turned g c = λ before going. (
  c.in-Err-Failed.ensures.failed c.in-Err-Failed.field-0-is,
  λ absent. let said = c.take.ensures.absent absent in cc,
  part_of (g.F.Files.holds c.args.files.now c.args.name.now) before (g.S.Sink.contents c.args.out.now) c.args.at c.args.reader going,
)
