-- A client that begins.
use Rattle.std.specs.Prelude.{◌≡◌, ◌++◌, Option, None, Result}
use Rattle.vpn_base.specs.declared.address.Addr.{Addr}
use Rattle.vpn_base.specs.declared.names.Moment.{Moment}
use Rattle.vpn_base.specs.declared.names.Place.{Place}
use Rattle.vpn_links.specs.Actions.{Contents, Holds}
use Rattle.control_link.specs.Calls.{datagrams_to}
use Rattle.peer_table.specs.declared.outcomes.Refused.{Refused}
use Rattle.peer_table.specs.declared.outcomes.Turn.{Turn}
use Rattle.peer_table.specs.ControlPackets.{Incoming, control_came}
use Rattle.peer_table.specs.Outboxes.{actions_of}
use Rattle.peer_table.specs.Peer.{Outcome, Peer}
use Rattle.server_table.specs.ControlDatagrams.{control_place}
use Rattle.server_state.specs.declared.client.ClientFile.TheVariants.{Unasked}
use Rattle.server_state.specs.declared.client.ClientState.{ClientState}

-- the key session to which the first packet of a client goes
abbrev pub first_place : Outcome Turn → Incoming → Option Place
first_place o i = control_place i o.peer (control_came o.peer i).peer

-- what a core keeps of a client that begins now, with this session
abbrev pub state_begun : {S : Type 0} → Moment → S → ClientState S
state_begun now session = record { session = session; file = Unasked; established = None; heard = now; sealed_at = now; bytes_in = 0; bytes_out = 0 }

-- the session stands for the peer that began and took the packet, and the outbox has what both calls did
pub record HasBegun {S : Type 0} (means : S → Peer → Type 0) (v : ClientState S) (reached : Option Place) (answer : Result Turn Refused) (before after : Contents) (to : Addr) (now : Moment)
    (o : Outcome Turn) (i : Incoming) : Type 0 where
  pub session : means v.session (control_came o.peer i).peer
  pub state : v ≡ state_begun now v.session
  pub reached_is : reached ≡ first_place o i
  pub answer_is : answer ≡ (control_came o.peer i).answer
  pub outbox : Holds after
      ((before.effects ++ actions_of o.peer.role o.doings) ++ actions_of (control_came o.peer i).peer.role (control_came o.peer i).doings)
      ((before.staged ++ datagrams_to to o.datagrams) ++ datagrams_to to (control_came o.peer i).datagrams)
