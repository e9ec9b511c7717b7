-- The key exchange of the newest session, and the messages behind it.
use Rattle.std.specs.Prelude.{ℕ, zero, suc, ◌+◌, ◌&&◌, ◌==◌, ◌≡◌, max, Bool, false, List, [], ◌∷◌, ◌++◌, length, take, drop, Option, Some, None, unwrap_or, option_map, slice_get, if◌then◌else◌}
use Rattle.std.specs.List.{before_first, find, list_any}
use Rattle.vpn_base.specs.declared.names.Cause.TheVariants.{NoCipher}
use Rattle.vpn_base.specs.declared.names.Cipher.{Cipher}
use Rattle.vpn_base.specs.declared.names.Conn.{Conn}
use Rattle.vpn_base.specs.declared.names.Draw.{Draw}
use Rattle.vpn_base.specs.declared.names.Policy.{Policy}
use Rattle.vpn_base.specs.declared.names.Policy.TheVariants.{Choose, Fixed}
use Rattle.hmac_kit.specs.KeyDerivation.{key_block, master_secret}
use Rattle.key_method2.specs.declared.message.Km2.{Km2}
use Rattle.key_method2.specs.declared.message.Source.{Source}
use Rattle.key_method2.specs.Info.{asks_push, offers}
use Rattle.key_method2.specs.Messages.{server_message}
use Rattle.peer_table.specs.declared.outcomes.Turn.{Turn}
use Rattle.peer_table.specs.declared.outcomes.Turn.TheVariants.{Going, Over}
use Rattle.peer_table.specs.Places.{changed_at, first_place, places_from}
use Rattle.peer_table.specs.KeySessions.{Keyed, Keys, Session, closed, has_keys, keys_of, newest, newest_session, newest_usable, session_at}
use Rattle.peer_table.specs.Peer.{Closes, Doing, Outcome, Peer, Writes, answered, remote_of}
use Rattle.peer_table.specs.EngineAnswers.{prepared_message}

-- ---- the cipher

-- the ciphers that are tried, in order
abbrev pub ciphers_of : Cipher → Option Cipher → List Cipher
ciphers_of first None = first ∷ []
ciphers_of first (Some second) = first ∷ second ∷ []

-- the cipher of a session: the first of ours that the peer info offers, or the one that is fixed
abbrev pub chosen : Policy → List ℕ → Option Cipher
chosen (Choose first second) info = find (offers info) (ciphers_of first second)
chosen (Fixed cipher) info = Some cipher

-- the same for a message that is there
abbrev pub chosen_for : Policy → Option (Km2 × ℕ) → Option Cipher
chosen_for policy None = None
chosen_for policy (Some message) = chosen policy message.0.info

-- the cipher that the exchange would choose now, where the newest session is prepared for it
unfoldable pub cipher_ahead : Policy → Peer → Option Cipher
cipher_ahead policy p = chosen_for policy (prepared_message p)

-- ---- the keys

-- the server's key source: bytes 8 to 39 and 40 to 71 of the draw of the event in which its message is written
abbrev pub server_source : Draw → Source
server_source draw = record { pre = None; random1 = take 32 (drop 8 draw.0); random2 = take 32 (drop 40 draw.0) }

-- the block of all keys of a session, from the sources and the session ids of its client and of its server
abbrev pub block_of : Source → Source → List ℕ → List ℕ → List ℕ
block_of client server client_sid server_sid =
    key_block (master_secret (unwrap_or client.pre []) client.random1 server.random1) client.random2 server.random2 client_sid server_sid

-- ---- the exchange at a server: it reads the client's message and writes its own. A client core's exchange will stand beside it: its
-- message is written with the name, and its session has keys once the server's message and, in session 0, the push reply are whole.

-- the session has keys, and its message was read
abbrev pub with_keys : ℕ → Keys → ℕ → Peer → Peer
with_keys n keys used p = record p { sessions = changed_at n (λ s. record s { stage = Keyed keys; read = used }) p.sessions }

-- whether the client asked to be established without a push request, which its message in session 0 says
abbrev pub asks_with : ℕ → List ℕ → Peer → Bool
asks_with zero info p = asks_push info
asks_with (suc n) info p = p.asks_push

-- the session of this number is closed
abbrev pub closed_at : ℕ → Peer → Peer
closed_at n p = record p { sessions = changed_at n closed p.sessions }

-- whether a session is open and has keys
abbrev pub is_open_keyed : Session → Bool
is_open_keyed s = s.is_open && has_keys s

-- of the open sessions with keys the oldest, where there are three or more
abbrev pub oldest_of : List ℕ → Option ℕ
oldest_of (a ∷ b ∷ c ∷ more) = Some a
oldest_of _ = None

-- what closing a session does to the outside
abbrev pub closing : Option Session → List Doing
closing None = []
closing (Some s) = Closes s.link.conn ∷ []

-- the session of a number is closed, where there is one to close
abbrev pub session_closed : Option ℕ → Outcome Turn → Outcome Turn
session_closed None o = o
session_closed (Some n) o = record o { peer = closed_at n o.peer; doings = o.doings ++ closing (slice_get o.peer.sessions n) }

-- a session with keys that is one too many is closed
abbrev pub at_most_two : Outcome Turn → Outcome Turn
at_most_two o = session_closed (oldest_of (places_from is_open_keyed 0 o.peer.sessions)) o

-- what the server writes on the connection of a session
abbrev pub writing : List ℕ → Option Session → List Doing
writing bytes None = []
writing bytes (Some s) = Writes s.link.conn bytes ∷ []

-- with a cipher the server's message is written and the session has keys; with none the client ends
abbrev pub exchanged_with : ℕ → Peer → Source → Km2 → ℕ → Option Cipher → Outcome Turn
exchanged_with peer_id p own message used None = answered p (Over NoCipher)
exchanged_with peer_id p own message used (Some cipher) = at_most_two (record {
  peer = record (with_keys (newest p.sessions)
      (record { block = block_of message.source own (remote_of p).0 p.envelope.own.0; cipher = cipher; peer_id = peer_id }) used p)
      { asks_push = asks_with (newest p.sessions) message.info p };
  doings = writing (server_message own) (newest_session p.sessions);
  datagrams = [];
  answer = Going;
})

-- nothing changes where the newest session is not prepared
abbrev pub exchanged_from : Policy → ℕ → Peer → Source → Option (Km2 × ℕ) → Outcome Turn
exchanged_from policy peer_id p own None = answered p Going
exchanged_from policy peer_id p own (Some message) = exchanged_with peer_id p own message.0 message.1 (chosen policy message.0.info)

-- the key exchange of the newest session, where it is prepared; what is sealed under its keys carries this peer id
unfoldable pub exchanged : Policy → ℕ → Draw → Peer → Outcome Turn
exchanged policy peer_id draw p = exchanged_from policy peer_id p (server_source draw) (prepared_message p)

-- the cipher of a session with keys
abbrev pub cipher_in : Option Session → Option Cipher
cipher_in None = None
cipher_in (Some s) = option_map (λ (k : Keys). k.cipher) (keys_of s.stage)

-- the cipher of the newest keys, which that of session 0 fixes for all later ones
unfoldable pub cipher_of : Peer → Option Cipher
cipher_of p = cipher_in (session_at p.sessions (newest_usable p.sessions))

-- ---- messages behind the exchange, each ended by a NUL

-- the plain text of a session that was not read
abbrev pub unread : Session → List ℕ
unread s = drop s.read s.plain

-- whether a byte is NUL
abbrev pub is_nul : ℕ → Bool
is_nul b = b == 0

-- whether a message waits in a session: it is open, has keys, and a NUL stands in what was not read
abbrev pub has_message : Session → Bool
has_message s = is_open_keyed s && list_any is_nul (unread s)

-- the first session in which a message waits
unfoldable pub waiting_in : Peer → Option ℕ
waiting_in p = first_place has_message p.sessions

-- the message that waits in a session, and the connection that it came on
abbrev pub waiting_message : Session → Conn × List ℕ
waiting_message s = (s.link.conn, before_first is_nul (unread s))

-- the next message, and the connection that it came on
unfoldable pub next_message : Peer → Option (Conn × List ℕ)
next_message p = option_map waiting_message (session_at p.sessions (waiting_in p))

-- it was read, with its NUL
abbrev pub message_read : Session → Session
message_read s = record s { read = s.read + (length (before_first is_nul (unread s)) + 1) }

-- the peer after the next message was given, if there is one
abbrev pub after_message_in : Option ℕ → Peer → Peer
after_message_in None p = p
after_message_in (Some n) p = record p { sessions = changed_at n message_read p.sessions }

-- the same for the message that waits now
unfoldable pub after_message : Peer → Peer
after_message p = after_message_in (waiting_in p) p

-- ---- the connection of session 0

-- the connection of a session
abbrev pub conn_of : Option Session → Option Conn
conn_of None = None
conn_of (Some s) = Some s.link.conn

-- that of session 0, on which a client is told what is pushed to it
unfoldable pub first_conn : Peer → Option Conn
first_conn p = conn_of (slice_get p.sessions 0)

-- ---- how much is unread

-- the greatest number of plain text bytes that an open session has not read
abbrev pub most_unread : List Session → ℕ
most_unread [] = 0
most_unread (s ∷ sessions) = if s.is_open then max (length (unread s)) (most_unread sessions) else most_unread sessions

-- how many plain text bytes all open sessions together have not read
abbrev pub all_unread : List Session → ℕ
all_unread [] = 0
all_unread (s ∷ sessions) = if s.is_open then length (unread s) + all_unread sessions else all_unread sessions

-- ---- before the exchange

-- of the newest session nothing was read before it has keys
abbrev pub NothingReadBefore : List Session → Type 0
NothingReadBefore sessions = (s : Session) → newest_session sessions ≡ Some s → has_keys s ≡ false → s.read ≡ 0
