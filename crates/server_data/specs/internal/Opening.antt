-- What opening a data packet leaves of a client.
use Rattle.std.specs.Prelude.{ℕ, List, Result, Ok, Err}
use Rattle.peer_table.specs.declared.outcomes.SessionFault.{SessionFault}
use Rattle.peer_table.specs.Outboxes.{TellsOpened}
use Rattle.peer_table.specs.Peer.{Outcome, Peer}
use Rattle.server_table.specs.DataDatagrams.{with_opened}
use Rattle.server_table.specs.Table.{Client}
use Rattle.server_state.specs.declared.client.ClientState.{ClientState}
use Rattle.server_state.specs.Core.{StateStands}

-- the client after it, by what its session answers
abbrev pub after_opening : ℕ → ℕ → Client → Peer → Result (List ℕ) SessionFault → Client
after_opening now bytes x peer (Ok inner) = with_opened now peer bytes x
after_opening now bytes x peer (Err fault) = record x { session = peer }

-- the client is the one after it, and the answer is told
pub record Opens {S : Type 0} (means : S → Peer → Type 0) (v : ClientState S) (datagram : List ℕ) (now bytes : ℕ) (x : Client)
    (result : Result ℕ SessionFault) (o : Outcome (Result (List ℕ) SessionFault)) : Type 0 where
  pub state : StateStands means v (after_opening now bytes x o.peer o.answer)
  pub told : TellsOpened result datagram o.answer
