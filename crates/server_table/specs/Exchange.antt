-- A client's key exchange, and the messages behind it.
use Rattle.std.specs.Prelude.{ℕ, zero, suc, ◌&&◌, is_none, Bool, true, false, List, [], ◌∷◌, codes, Option, Some, None}
use Rattle.std.specs.Str.{bytes_eq}
use Rattle.vpn_base.specs.declared.names.Cipher.{Cipher}
use Rattle.vpn_base.specs.declared.names.Conn.{Conn}
use Rattle.vpn_base.specs.declared.names.Draw.{Draw}
use Rattle.vpn_base.specs.declared.names.Policy.{Policy}
use Rattle.vpn_base.specs.declared.names.Policy.TheVariants.{Fixed}
use Rattle.vpn_links.specs.declared.notes.Note.TheVariants as notes
use Rattle.peer_table.specs.declared.outcomes.Turn.{Turn}
use Rattle.peer_table.specs.Exchange.{after_message, all_unread, first_conn, cipher_of, exchanged, next_message}
use Rattle.peer_table.specs.Peer.{Outcome}
use Rattle.server_table.specs.Table.{Awaited, Client, Established, FileState, Known, Unasked}
use Rattle.server_table.specs.Lookups.{cid, client_here}
use Rattle.server_table.specs.Courses.{Course, acted, client_changed, did_all, reported}
use Rattle.server_table.specs.Endings.{turned}
use Rattle.server_table.specs.Establishing.{ccd_in, client_established, leased_to, reply}

-- ---- messages behind a key exchange

-- the request of a client for its options
abbrev pub push_request : List ℕ
push_request = codes "PUSH_REQUEST"

-- the reply to a client once more, or else it is established
abbrev pub requested_as : ℕ → Conn → Client → Course → Option Established → Course
requested_as n conn x c None = client_established n conn c
requested_as n conn x c (Some e) = did_all (reply c.table.settings x (leased_to c.table.settings (ccd_in x.file).address e) conn) c

-- it is answered: the same reply again where the client is established, which else it is now
abbrev pub requested : ℕ → Conn → Course → Option Client → Course
requested n conn c None = c
requested n conn c (Some x) = requested_as n conn x c x.established

-- any other message means nothing
abbrev pub other_message : ℕ → Conn → Course → Bool → Course
other_message n conn c true = requested n conn c (client_here c.table n)
other_message n conn c false = reported (notes.Ignored (cid n)) c

-- a message on this connection; an empty one does nothing
abbrev pub message_came : ℕ → Course → Conn → List ℕ → Course
message_came n c conn [] = c
message_came n c conn (b ∷ bytes) = other_message n conn c (bytes_eq (b ∷ bytes) push_request)

-- the next message, if one waits, with what comes behind it
abbrev pub messages_taken_of : (Course → Course) → ℕ → Course → Option (Conn × List ℕ) → Course
messages_taken_of behind n c None = c
messages_taken_of behind n c (Some m) = behind (message_came n (client_changed n (λ x. record x { session = after_message x.session }) c) m.0 m.1)

-- the same for the client as it is now
abbrev pub messages_taken_by : (Course → Course) → ℕ → Course → Option Client → Course
messages_taken_by behind n c None = c
messages_taken_by behind n c (Some x) = messages_taken_of behind n c (next_message x.session)

-- every message that waits at the client of this number, in order; no more than so many
unfoldable pub messages_taken_upto : ℕ → ℕ → Course → Course
messages_taken_upto zero n c = c
messages_taken_upto (suc most) n c = messages_taken_by (messages_taken_upto most n) n c (client_here c.table n)

-- more messages can't wait than there are bytes that were not read
abbrev pub most_messages : Client → ℕ
most_messages x = all_unread x.session.sessions

-- as many as may wait at a client
abbrev pub messages_taken_for : ℕ → Course → Option Client → Course
messages_taken_for n c None = c
messages_taken_for n c (Some x) = messages_taken_upto (most_messages x) n c

-- every message that waits at the client of this number, in order
unfoldable pub messages_taken : ℕ → Course → Course
messages_taken n c = messages_taken_for n c (client_here c.table n)

-- ---- the key exchange

-- later sessions keep the cipher of session 0
abbrev pub policy_with : Policy → Option Cipher → Policy
policy_with ours None = ours
policy_with ours (Some cipher) = Fixed cipher

-- each client has a session 0
abbrev pub established_on : ℕ → Course → Option Conn → Course
established_on n c None = c
established_on n c (Some conn) = client_established n conn c

-- a client whose message asks for it is established at once, on the connection of session 0
abbrev pub established_if : ℕ → Course → Client → Bool → Course
established_if n c x false = c
established_if n c x true = established_on n c (first_conn x.session)

-- whether it asks, and is not established
abbrev pub asks_to_be_established : Client → Bool
asks_to_be_established x = x.session.asks_push && is_none x.established

-- the same for the client as it is now
abbrev pub established_as_asked : ℕ → Course → Option Client → Course
established_as_asked n c None = c
established_as_asked n c (Some x) = established_if n c x (asks_to_be_established x)

-- the exchange was made, or has ended the client
abbrev pub exchange_made : ℕ → Course → Course
exchange_made n c = messages_taken n (established_as_asked n c (client_here c.table n))

-- the session makes its exchange
abbrev pub exchange_acted : ℕ → Client → Course → Outcome Turn → Course
exchange_acted n x c o = exchange_made n (turned n o.answer (acted n x.address o c))

-- it waits for the client's file
abbrev pub exchange_with : Draw → ℕ → Client → Course → FileState → Course
exchange_with draw n x c (Known file) =
    exchange_acted n x c (exchanged (policy_with c.table.settings.ciphers (cipher_of x.session)) x.peer_id draw x.session)
exchange_with draw n x c (Awaited name) = c
exchange_with draw n x c Unasked = c

-- the same for the client as it is now
abbrev pub exchange_for : Draw → ℕ → Course → Option Client → Course
exchange_for draw n c None = c
exchange_for draw n c (Some x) = exchange_with draw n x c x.file

-- the newest session of the client of this number makes its exchange, where it is prepared and the file is known; then the client is
-- established if its message asks for it, and what follows the message is read
unfoldable pub exchange : Draw → ℕ → Course → Course
exchange draw n c = exchange_for draw n c (client_here c.table n)
