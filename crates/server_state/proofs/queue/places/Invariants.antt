use Rattle.std.proofs.Common.{◌≡◌, ◌≤◌, length, vec_capacity}
use Rattle.server_state.proofs.queue.places.Given as goal

abbrev pub invariant-loop : goal.invariant-loop
invariant-loop l = (length l.free.items ≡ l.counter) × (64 ≤ vec_capacity l.free)
