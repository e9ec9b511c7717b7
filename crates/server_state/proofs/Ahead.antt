-- What holds before an event is counted.
use Rattle.std.proofs.Common.{ℕ, ◌+◌, ◌-◌, List, [], ◌∷◌, arith}
use Rattle.std.specs.List.{AllByRecursion}
use Rattle.client_table.specs.Tables.{entries_of}
use Rattle.server_state.specs.declared.state.ServerCore.{ServerCore}
use Rattle.server_state.specs.Core.{GoesOn, IsSound, IsSoundAhead}

all_as : {X : Type 0} (P Q : X → Type 0) → ((x : X) → P x → Q x) → (xs : List X) → AllByRecursion P xs → AllByRecursion Q xs
all_as P Q into [] all = all
all_as P Q into (x ∷ xs) all = (into x all.0, all_as P Q into xs all.1)

-- what holds before an event is counted, holds when it is
pub sound_counted : {S : Type 0} (goes_on : S → Type 0) (count since : S → ℕ) (core : ServerCore S) → IsSoundAhead goes_on count since core → IsSound goes_on count since core
sound_counted goes_on count since core h = record {
  sessions = all_as (GoesOn goes_on count since (core.events - 1 + 1) core.moment.0) (GoesOn goes_on count since (core.events + 1) core.moment.0)
      (λ e g. record { session = g.session; few = omega (arith, g.few); past = g.past }) (entries_of core.clients) h.sessions;
  most = h.most;
  admitted = omega (arith, h.admitted);
  connections = omega (arith, h.connections);
  timers = h.timers;
  no_counts = h.no_counts;
  late = h.late;
}
