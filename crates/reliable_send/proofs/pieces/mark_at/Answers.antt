use Rattle.std.proofs.Common.{sym, arith}
use Rattle.reliable_send.proofs.Altered.{alter_is, alter_past, mark_sent, mark_unsent}
use Rattle.reliable_send.specs.internal.Walks.{mark}
use Rattle.reliable_send.proofs.pieces.mark_at.Goals as goal

pub returns-then-is_some-clause-marked : goal.returns-then-is_some-clause-marked
returns-then-is_some-clause-marked c =
    let e = alter_is mark c.args.place c.args.pieces.now.items c.index_mut-piece.result.now (omega (arith, c.args.pieces.now.ok.0)) in
    rw (e, ← c.index_mut-piece.ensures.value, mark_sent c.index_mut-piece.result.now cc)

pub returns-else-is_some-clause-marked : goal.returns-else-is_some-clause-marked
returns-else-is_some-clause-marked c =
    let e = alter_is mark c.args.place c.args.pieces.now.items c.index_mut-piece.result.now (omega (arith, c.args.pieces.now.ok.0)) in
    rw (e, ← c.index_mut-piece.ensures.value, mark_unsent c.index_mut-piece.result.now cc)

pub returns-else-place-len-clause-marked : goal.returns-else-place-len-clause-marked
returns-else-place-len-clause-marked c = sym (alter_past mark c.args.place c.args.pieces.now.items (omega (arith, c.args.pieces.now.ok.0)))
