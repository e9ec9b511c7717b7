-- What a key exchange takes of the other end's message, and the session that it closes.
use Rattle.std.specs.Prelude.{ℕ, Option, Some, None}
use Rattle.vpn_base.specs.declared.names.Policy.{Policy}
use Rattle.key_method2.specs.declared.message.Km2.{Km2}
use Rattle.peer_table.specs.Exchange.{asks_with, chosen}
use Rattle.peer_table.specs.KeySessions.{Session, newest}
use Rattle.peer_table.specs.Peer.{Peer}
use Rattle.peer_lines.specs.declared.channels.SessionChannels.{SessionChannels}
use Rattle.peer_lines.specs.Standing.{StandsFor}
use Rattle.session_engine.specs.declared.key_exchange.Prepared.{Prepared}

-- what is taken of a message of so many bytes
abbrev pub prepared_as : Policy → Peer → Km2 × ℕ → Prepared
prepared_as policy p message = record {
  source = message.0.source;
  used = message.1;
  cipher = chosen policy message.0.info;
  asks_push = asks_with (newest p.sessions) message.0.info p;
}

-- a text is there exactly where this session is, and stands for it
abbrev pub IsTextOf : Option SessionChannels → Option Session → Type 0
IsTextOf None None = Unit {0}
IsTextOf (Some text) (Some s) = StandsFor text s
IsTextOf _ _ = ⊥
