use Rattle.std.proofs.Common.{◌+◌, ◌<◌, arith, sym}
use Rattle.reliable_recv.specs.Receiving.{Receiving}
use Rattle.reliable_recv.proofs.Standing.{repeat_below, repeat_held, new_when}
use Rattle.reliable_recv.proofs.receiving.judge.Goals as goal
use Rattle.reliable_recv.proofs.receiving.judge.Goals.{then-from-read-2-via-then-from-read-2, then-from-read-2-via-else-from-read-2+then-is_held}

pub returns-then-from-read-2 : goal.returns-then-from-read-2
returns-then-from-read-2 c = λ waiting.
    let near : c.args.id < c.args.read + 12 = omega arith in
    let r : Receiving = record { taken = c.args.held.now; read = c.args.read; waiting = waiting } in
    elim c.then-from-read-2.branch [
      | then-from-read-2-via-then-from-read-2 w ↦ repeat_below r c.args.id near (omega arith)
      | then-from-read-2-via-else-from-read-2+then-is_held w ↦ repeat_held r c.args.id near (omega arith) (sym w.if-is_held.ensures)
    ]

pub returns : goal.returns
returns c = λ waiting.
    let near : c.args.id < c.args.read + 12 = omega arith in
    new_when (record { taken = c.args.held.now; read = c.args.read; waiting = waiting }) c.args.id near (omega arith) (sym c.if-is_held.ensures)
