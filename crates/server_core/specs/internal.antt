-- What only private functions cite.
use Rattle.std.specs.Prelude.{Bool, false, Option, Result, Ok, Err}
use Rattle.vpn_base.specs.declared.address.Addr.{Addr}
use Rattle.vpn_base.specs.declared.errors.NoMemory.{NoMemory}
use Rattle.vpn_base.specs.declared.names.Place.{Place}
use Rattle.opcode_codec.specs.Packet.{PacketForm}
use Rattle.client_table.specs.Entries.{Entry}
use Rattle.peer_table.specs.Naming.{place}
use Rattle.peer_table.specs.Peer.{Peer}
use Rattle.server_table.specs.Senders.{kid_in, sent_here}
use Rattle.server_state.specs.declared.client.ClientState.{ClientState}

-- what a handler that learns no host answers, as one that might lack memory for one
abbrev pub lacking_none : {A : Type 0} → Result A NoMemory → Result Bool NoMemory
lacking_none (Ok done) = Ok false
lacking_none (Err e) = Err e

-- the key session by which a packet to this address may have been sent, of the client that the core keeps so and whose session stands for
-- this
abbrev pub sent_of : {S : Type 0} → Addr → PacketForm → Entry (ClientState S) → Peer → Option Place
sent_of to packet e p = sent_here to packet e.key.address e.key.peer_id (place (kid_in packet) p)
