-- What follows the establishing of a client, and who asks for it.
use Rattle.std.specs.Prelude.{Bool, true, false, Option, Some, None}
use Rattle.vpn_base.specs.declared.names.Conn.{Conn}
use Rattle.peer_table.specs.Exchange.{first_conn}
use Rattle.peer_table.specs.Peer.{Peer}
use Rattle.server_texts.specs.Replies.{Replies}
use Rattle.server_establishing.specs.declared.asking.Prepared.{Prepared}
use Rattle.server_establishing.specs.declared.asking.Prepared.TheVariants.{Again, Nothing}

-- the same reply, where there is one
abbrev pub prepared_after : Option Replies → Prepared
prepared_after None = Nothing
prepared_after (Some replies) = Again replies

-- the connection on which a client is established that asks for it
abbrev pub asked_on : Peer → Bool → Option Conn
asked_on p true = first_conn p
asked_on p false = None
