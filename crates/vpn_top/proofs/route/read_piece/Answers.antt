use Rattle.std.proofs.Common.{◌+◌, length}
use Rattle.std.specs.Prelude.{Some}
use Rattle.std.specs.String.{string_bytes}
use Rattle.vpn_top.proofs.Runs.{part_of, piece_read, printed_written, printed_in_part, refused_here}
use Rattle.vpn_top.proofs.route.read_piece.Goals as goal

pub returns-in-Ok-write_all-clause-turned : goal.returns-in-Ok-write_all-clause-turned
returns-in-Ok-write_all-clause-turned g c = λ h before at files_before files_after next going.
    let contents = g.S.Sink.contents in
    let read = piece_read h before (contents c.args.out.now) at c.args.reader c.in-Ok.reader c.args.piece.now next going c.in-Ok.ensures.ok in
    printed_written h before (contents c.args.out.now) (contents c.write_all.new.sink) (at + length c.args.piece.now) c.in-Ok.reader c.clear_printed.new.self
    read (rw c.printed.ensures.same at c.in-Ok-write_all.ensures.ok) c.clear_printed.ensures.left

pub returns-in-Err-clause-turned : goal.returns-in-Err-clause-turned
returns-in-Err-clause-turned g c = λ h before at files_before files_after next going.
    let contents = g.S.Sink.contents in
    let read = piece_read h before (contents c.args.out.now) at c.args.reader c.in-Ok.reader c.args.piece.now next going c.in-Ok.ensures.ok in (
      c.in-Err.ensures.failed,
      printed_in_part h before (contents c.args.out.now) (contents c.write_all.new.sink) (at + length c.args.piece.now) c.in-Ok.reader
          read (rw c.printed.ensures.same at c.in-Err.ensures.part) c.printed.ensures.first,
    )

pub returns-in-Err-Why-clause-turned : goal.returns-in-Err-Why-clause-turned
returns-in-Err-Why-clause-turned g c = λ h before at files_before files_after next going.
    let contents = g.S.Sink.contents in
    let refused = c.in-Err-Why.refused in
    c.settle.ensures.ended h before files_before files_after
    (rw c.as_bytes.ensures.value
    (refused_here h before (contents c.args.out.now) at c.args.reader c.args.piece.now (string_bytes refused.printed) (Some (refused.fault.line, refused.fault.kind))
    next going (rw c.in-Err-Why.field-0-is at c.in-Err-Why.ensures.refused)))

pub returns-in-Err-Memory-clause-turned : goal.returns-in-Err-Memory-clause-turned
returns-in-Err-Memory-clause-turned g c = λ h before at files_before files_after next going.
    part_of h before (g.S.Sink.contents c.args.out.now) at c.args.reader going
