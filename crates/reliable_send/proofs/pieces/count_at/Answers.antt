use Rattle.reliable_send.proofs.Altered.{alter_is}
use Rattle.reliable_send.specs.internal.Walks.{count_one}
use Rattle.reliable_send.proofs.pieces.count_at.Goals as goal

pub returns-clause-counted : goal.returns-clause-counted
returns-clause-counted c =
    let e = alter_is (count_one c.args.timeout c.args.now) c.args.place c.args.pieces.now.items c.index_mut-piece.result.now c.requires in
    rw (e, ← c.index_mut-piece.ensures.value, c.interval_after-piece.ensures)
