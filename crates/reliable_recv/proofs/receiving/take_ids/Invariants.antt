use Rattle.std.proofs.Common.{◌≡◌, ◌-◌, ◌++◌, take, drop, replicate}
use Rattle.std.specs.VecDeque.{deque_capacity}
use Rattle.reliable_recv.proofs.receiving.take_ids.Given as goal

abbrev pub invariant-loop-k : goal.invariant-loop-k
invariant-loop-k l = record {
  ids : l.ids ≡ take l.k l.fn.waiting.items ++ replicate (8 - l.k) 0;
  rest : l.waiting.items ≡ drop l.k l.fn.waiting.items;
  capacity : deque_capacity l.waiting ≡ deque_capacity l.fn.waiting;
}
