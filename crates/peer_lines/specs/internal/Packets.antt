-- The parts of a session's data channel.
use Rattle.std.specs.Prelude.{ℕ, List, [], ◌∷◌, Option, Some, None, Result, Ok, Err}
use Rattle.vpn_base.specs.declared.errors.NoMemory.{NoMemory}
use Rattle.vpn_base.specs.declared.errors.Or.{Or}
use Rattle.vpn_base.specs.declared.errors.Or.TheVariants.{Memory, Why}
use Rattle.reliable_recv.specs.declared.receiving.Got.{Got}
use Rattle.control_link.specs.declared.link.LinkEnd.{LinkEnd}
use Rattle.gcm_seal.specs.declared.gcm.AnyGcm.{AnyGcm}
use Rattle.packet_ids.specs.Freshness.{History}
use Rattle.packet_ids.specs.Window.{Kept, Stands}
use Rattle.data_channel.specs.declared.channel.DataChannel.{DataChannel}
use Rattle.data_channel.specs.declared.channel.DataFault.{DataFault}
use Rattle.data_channel.specs.declared.channel.DataFault.TheVariants as packets
use Rattle.data_channel.specs.Standing.{GcmKeysStand}
use Rattle.peer_table.specs.declared.outcomes.SessionFault.{SessionFault}
use Rattle.peer_table.specs.declared.outcomes.SessionFault.TheVariants as sessions
use Rattle.peer_table.specs.KeySessions.{Keys}

-- a window that is there stands for what was accepted
abbrev pub IsWindowOf : Option Kept → History → Type 0
IsWindowOf None received = ⊥
IsWindowOf (Some w) received = Stands w received

-- a channel is there, and nothing was sealed on it
abbrev pub IsFirst : List (DataChannel AnyGcm) → Keys → ℕ → History → Type 0
IsFirst [] keys kid received = ⊥
IsFirst (channel ∷ more) keys kid received = GcmKeysStand channel keys kid received 0

-- why a session does not open a data packet
abbrev pub fault_of : DataFault → SessionFault
fault_of packets.NotSealed = sessions.NotSealed
fault_of (packets.Stale kind id greatest) = sessions.Stale kind id greatest

-- the end that an answer to a packet tells, if it tells one, or want of memory
abbrev pub end_in : Result Got (Or LinkEnd) → Result (Option LinkEnd) NoMemory
end_in (Ok got) = Ok None
end_in (Err (Why end)) = Ok (Some end)
end_in (Err Memory) = Err (record {})
