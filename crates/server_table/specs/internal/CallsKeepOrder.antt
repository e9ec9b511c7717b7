-- What the calls of a client's session keep.
use Rattle.std.specs.Prelude.{ℕ, List, Option, None}
use Rattle.vpn_base.specs.declared.names.Conn.{Conn}
use Rattle.vpn_base.specs.declared.names.Draw.{Draw}
use Rattle.vpn_base.specs.declared.names.Moment.{Moment}
use Rattle.vpn_base.specs.declared.names.Policy.{Policy}
use Rattle.vpn_base.specs.declared.names.Role.{Role}
use Rattle.vpn_base.specs.declared.names.Sid.{Sid}
use Rattle.vpn_base.specs.declared.names.Timers.{Timers}
use Rattle.vpn_links.specs.declared.events.Kind.{Kind}
use Rattle.tls_crypt.specs.Packets.{Wrapping}
use Rattle.peer_table.specs.ControlPackets.{Incoming, control_came}
use Rattle.peer_table.specs.DataPackets as packets
use Rattle.peer_table.specs.EngineAnswers.{engine_came}
use Rattle.peer_table.specs.Exchange.{after_message, exchanged}
use Rattle.peer_table.specs.Orderly.{IsOrderlyFrom, IsOrderlyOrFixed}
use Rattle.peer_table.specs.Peer.{Peer, began}
use Rattle.peer_table.specs.Time.{Ticking, all_closed, ticked}

-- the calls of a client's session keep its key sessions orderly
pub record CallsKeepOrder : Type 0 where
  pub begins : (role : Role) (wraps : Wrapping) (own : Sid) (timers : Timers) (conn : Conn) (now : ℕ) →
      IsOrderlyFrom None (began role wraps own timers conn now).peer
  pub control : (remote : Option Sid) (p : Peer) (i : Incoming) → IsOrderlyFrom remote p → IsOrderlyOrFixed remote i (control_came p i).peer
  pub engine : (remote : Option Sid) (kind : Kind) (now : ℕ) (p : Peer) → IsOrderlyFrom remote p → IsOrderlyFrom remote (engine_came kind now p).peer
  pub exchange : (remote : Option Sid) (policy : Policy) (peer_id : ℕ) (draw : Draw) (p : Peer) →
      IsOrderlyFrom remote p → IsOrderlyFrom remote (exchanged policy peer_id draw p).peer
  pub message : (remote : Option Sid) (p : Peer) → IsOrderlyFrom remote p → IsOrderlyFrom remote (after_message p)
  pub seals : (remote : Option Sid) (inner : List ℕ) (p : Peer) → IsOrderlyFrom remote p → IsOrderlyFrom remote (packets.sealed_to inner p).peer
  pub opens : (remote : Option Sid) (datagram : List ℕ) (moment : Moment) (p : Peer) →
      IsOrderlyFrom remote p → IsOrderlyFrom remote (packets.data_came datagram moment p).peer
  pub tick : (remote : Option Sid) (t : Ticking) (p : Peer) → IsOrderlyFrom remote p → IsOrderlyFrom remote (ticked t p).peer
  pub close : (remote : Option Sid) (p : Peer) → IsOrderlyFrom remote p → IsOrderlyFrom remote (all_closed p)
