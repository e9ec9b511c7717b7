-- What each call of a client's session keeps.
use Rattle.std.proofs.Common.{ℕ, List}
use Rattle.vpn_base.specs.declared.names.Draw.{Draw}
use Rattle.vpn_base.specs.declared.names.Moment.{Moment}
use Rattle.vpn_base.specs.declared.names.Policy.{Policy}
use Rattle.vpn_links.specs.declared.events.Kind.{Kind}
use Rattle.peer_table.specs.Peer.{Peer}
use Rattle.peer_table.specs.Time.{Ticking, all_closed, ticked}
use Rattle.peer_table.specs.ControlPackets.{Incoming, control_came}
use Rattle.peer_table.specs.DataPackets.{data_came, sealed_to}
use Rattle.peer_table.specs.EngineAnswers.{engine_came}
use Rattle.peer_table.specs.Exchange.{after_message, exchanged}
use Rattle.server_laws.specs.Wraps.{WrapsStay}
use Rattle.server_laws.proofs.Peers.{PeerExchanged, PeerKept, all_closed_kept, control_kept, data_kept, engine_kept, exchange_kept, message_kept, peer_same, sealed_kept, tick_kept}
use Rattle.server_laws.proofs.WrapsOnce.{close_stay, control_stay, engine_stay, exchange_stay, message_stay, opened_stay, sealed_stay, tick_stay}

-- a call but the key exchange, and that
pub record CallKept (p q : Peer) : Type 0 where
  pub kept : PeerKept p q
  pub wraps : WrapsStay p q

pub record ExchangeKept (peer_id : ℕ) (p q : Peer) : Type 0 where
  pub kept : PeerExchanged peer_id p q
  pub wraps : WrapsStay p q

pub call_same : (p : Peer) → CallKept p p
call_same p = record { kept = peer_same p; wraps = λ time id is. is }

pub control_call : (p : Peer) (i : Incoming) → CallKept p (control_came p i).peer
control_call p i = record { kept = control_kept p i (peer_same p); wraps = control_stay p i }

pub engine_call : (kind : Kind) (now : ℕ) (p : Peer) → CallKept p (engine_came kind now p).peer
engine_call kind now p = record { kept = engine_kept kind now p (peer_same p); wraps = engine_stay kind now p }

pub message_call : (p : Peer) → CallKept p (after_message p)
message_call p = record { kept = message_kept p (peer_same p); wraps = message_stay p }

pub sealed_call : (inner : List ℕ) (p : Peer) → CallKept p (sealed_to inner p).peer
sealed_call inner p = record { kept = sealed_kept inner p (peer_same p); wraps = sealed_stay inner p }

pub data_call : (datagram : List ℕ) (m : Moment) (p : Peer) → CallKept p (data_came datagram m p).peer
data_call datagram m p = record { kept = data_kept datagram m p (peer_same p); wraps = opened_stay datagram m p }

pub tick_call : (t : Ticking) (p : Peer) → CallKept p (ticked t p).peer
tick_call t p = record { kept = tick_kept t p (peer_same p); wraps = tick_stay t p }

pub close_call : (p : Peer) → CallKept p (all_closed p)
close_call p = record { kept = all_closed_kept p (peer_same p); wraps = close_stay p }

pub exchange_call : (policy : Policy) (peer_id : ℕ) (draw : Draw) (p : Peer) → ExchangeKept peer_id p (exchanged policy peer_id draw p).peer
exchange_call policy peer_id draw p = record { kept = exchange_kept policy peer_id draw p; wraps = exchange_stay policy peer_id draw p }
