-- What sealing to a client leaves.
use Rattle.std.specs.Prelude.{◌≡◌, ℕ, List, ◌++◌, length, Result, Ok, Err}
use Rattle.vpn_base.specs.declared.address.Addr.{Addr}
use Rattle.vpn_links.specs.Actions.{Contents, Holds}
use Rattle.packet_ids.specs.declared.sending.Spent.{Spent}
use Rattle.peer_table.specs.Outboxes.{wired}
use Rattle.peer_table.specs.Peer.{Outcome, Peer}
use Rattle.server_table.specs.InnerPackets.{with_sent}
use Rattle.server_table.specs.Table.{Client}
use Rattle.server_state.specs.declared.client.ClientState.{ClientState}
use Rattle.server_state.specs.Core.{StateStands}

-- the client after it, by what its session answers
abbrev pub after_sealing : ℕ → Client → Peer → Result (List ℕ) Spent → Client
after_sealing now x peer (Ok datagram) = with_sent now peer (length datagram) x
after_sealing now x peer (Err spent) = record x { session = peer }

-- the length of the datagram, or that packet ids are spent
abbrev pub TellsSealed : Result ℕ Spent → Result (List ℕ) Spent → Type 0
TellsSealed (Ok size) (Ok datagram) = size ≡ length datagram
TellsSealed (Err spent) (Err wanted) = Unit {0}
TellsSealed _ _ = ⊥

-- the client is the one after it, the datagram stands behind all effects, its length is told
pub record Seals {S : Type 0} (means : S → Peer → Type 0) (v : ClientState S) (before after : Contents) (to : Addr) (now : ℕ) (x : Client)
    (result : Result ℕ Spent) (o : Outcome (Result (List ℕ) Spent)) : Type 0 where
  pub state : StateStands means v (after_sealing now x o.peer o.answer)
  pub outbox : Holds after (before.effects ++ wired to o.answer) before.staged
  pub told : TellsSealed result o.answer
