-- The TLS engine answers on the connection of an open key session.
use Rattle.std.specs.Prelude.{ℕ, ◌&&◌, ◌==◌, Bool, true, false, List, ◌++◌, map, Option, Some, None, slice_get, if◌then◌else◌}
use Rattle.std.specs.Str.{bytes_eq}
use Rattle.vpn_base.specs.declared.names.Cause.TheVariants.{BadMessage, BadName, NameChanged}
use Rattle.vpn_base.specs.declared.names.Conn.{Conn}
use Rattle.vpn_base.specs.FileName.{is_file_name, is_name_byte}
use Rattle.key_method2.specs.declared.message.Km2.{Km2}
use Rattle.key_method2.specs.declared.message.Km2Read.{Km2Read}
use Rattle.key_method2.specs.declared.message.Km2Read.TheVariants.{Whole, More, Bad}
use Rattle.key_method2.specs.Reading.{reading}
use Rattle.vpn_links.specs.declared.events.Kind.{Kind}
use Rattle.vpn_links.specs.declared.events.Kind.TheVariants.{EngineText, EnginePlain, EngineUp, EngineDown}
use Rattle.control_link.specs.Calls as link
use Rattle.peer_table.specs.declared.outcomes.Turn.{Turn}
use Rattle.peer_table.specs.declared.outcomes.Turn.TheVariants.{Going, Ignored, Named, Exchange, Over}
use Rattle.peer_table.specs.Places.{changed_at, first_place}
use Rattle.peer_table.specs.KeySessions.{Session, Stage, newest_session}
use Rattle.peer_table.specs.KeySessions as sessions
use Rattle.peer_table.specs.Peer.{Outcome, Peer, answered, first_over, gone_on, other, remote_of}

-- whether a session is open and has this connection
abbrev pub is_on : Conn → Session → Bool
is_on conn s = s.is_open && (s.link.conn.0 == conn.0)

-- the open session with this connection
unfoldable pub open_with : Conn → Peer → Option ℕ
open_with conn p = first_place (is_on conn) p.sessions

-- ---- what is prepared, and what is bad

-- a message that is whole, with how many bytes it takes
abbrev pub whole_of : Km2Read → Option (Km2 × ℕ)
whole_of (Whole message used) = Some (message, used)
whole_of More = None
whole_of (Bad place kind) = None

-- the key exchange message of the other end in a session's plain text. It is looked for once the name is known, and until there are
-- keys: nothing was read of the text then.
abbrev pub message_in : Peer → Session → Stage → Option (Km2 × ℕ)
message_in p s sessions.Opening = None
message_in p s sessions.Named = whole_of (reading (other p.role) s.plain)
message_in p s (sessions.Keyed keys) = None

-- the same, where there is a session
abbrev pub message_of : Peer → Option Session → Option (Km2 × ℕ)
message_of p None = None
message_of p (Some s) = message_in p s s.stage

-- the message by which the newest session is prepared for its exchange: it has a name and no keys, and the message is whole
unfoldable pub prepared_message : Peer → Option (Km2 × ℕ)
prepared_message p = message_of p (newest_session p.sessions)

-- the client ends with a message that can't be one
abbrev pub bad_of : Km2Read → Turn
bad_of (Bad place kind) = Over (BadMessage place)
bad_of _ = Going

-- the same for a session's plain text, once the name is known and until there are keys
abbrev pub bad_in : Peer → Session → Stage → Turn
bad_in p s sessions.Opening = Going
bad_in p s sessions.Named = bad_of (reading (other p.role) s.plain)
bad_in p s (sessions.Keyed keys) = Going

-- the same, where there is a session
abbrev pub bad_at : Peer → Option Session → Turn
bad_at p None = Going
bad_at p (Some s) = bad_in p s s.stage

-- what the owner is to do: the exchange where the newest session is prepared for it, else to look for the file where the call gave
-- the client its name
abbrev pub next_turn : Option (Km2 × ℕ) → Bool → Turn
next_turn (Some message) gave_name = Exchange
next_turn None true = Named
next_turn None false = Going

-- the same behind an ending
abbrev pub with_next_turn : Bool → Outcome Turn → Outcome Turn
with_next_turn gave_name o = record o { answer = first_over o.answer (next_turn (prepared_message o.peer) gave_name) }

-- a message that is bad ends the client
abbrev pub judged_at : ℕ → Bool → Peer → Outcome Turn
judged_at n gave_name p = with_next_turn gave_name (answered p (bad_at p (slice_get p.sessions n)))

-- ---- text for the other end

-- a session offers the text and sends what may be sent
abbrev pub text_said : ℕ → List ℕ → ℕ → Peer → Option Session → Outcome Turn
text_said n bytes now p None = answered p Going
text_said n bytes now p (Some s) = with_next_turn false (gone_on n (link.said s.link p.envelope bytes (remote_of p) now) (answered p Going))

-- the engine has text for the other end, in the session of this number
unfoldable pub text_came : ℕ → List ℕ → ℕ → Peer → Outcome Turn
text_came n bytes now p = text_said n bytes now p (slice_get p.sessions n)

-- ---- plain text of the other end

-- it stands behind the session's plain text so far
abbrev pub with_plain : ℕ → List ℕ → Peer → Peer
with_plain n bytes p = record p { sessions = changed_at n (λ s. record s { plain = s.plain ++ bytes }) p.sessions }

-- plain text has come, in the session of this number
unfoldable pub plain_came : ℕ → List ℕ → Peer → Outcome Turn
plain_came n bytes p = judged_at n false (with_plain n bytes p)

-- ---- the name of the other end

-- a name as it is kept: each byte that no file name has becomes `_`
abbrev pub kept_name : List ℕ → List ℕ
kept_name name = map (λ b. if is_name_byte b then b else 95) name

-- the session's stage is that of a known name
abbrev pub with_named : ℕ → Peer → Peer
with_named n p = record p { sessions = changed_at n (λ s. record s { stage = sessions.Named }) p.sessions }

-- the name of session 0 is the client's; a later one has to be the same
abbrev pub name_given : ℕ → List ℕ → Peer → Option (List ℕ) → Outcome Turn
name_given n name p None = judged_at n true (with_named n (record p { name = Some name }))
name_given n name p (Some known) =
    if bytes_eq name known then judged_at n false (with_named n p) else answered p (Over NameChanged)

-- a name that can't be that of a file ends the client
abbrev pub name_judged : ℕ → List ℕ → Peer → Outcome Turn
name_judged n name p = if is_file_name name then name_given n name p p.name else answered p (Over BadName)

-- a second name in one session means nothing
abbrev pub name_in : ℕ → List ℕ → Peer → Stage → Outcome Turn
name_in n name p sessions.Opening = name_judged n (kept_name name) p
name_in n name p sessions.Named = answered p Ignored
name_in n name p (sessions.Keyed keys) = answered p Ignored

-- the same, where there is a session
abbrev pub name_at : ℕ → List ℕ → Peer → Option Session → Outcome Turn
name_at n name p None = answered p Going
name_at n name p (Some s) = name_in n name p s.stage

-- the engine has checked the other end, in the session of this number, and gives its common name
unfoldable pub name_came : ℕ → List ℕ → Peer → Outcome Turn
name_came n name p = name_at n name p (slice_get p.sessions n)

-- ---- any answer

-- the connection of an engine answer
abbrev pub conn_in : Kind → Option Conn
conn_in (EngineText conn bytes) = Some conn
conn_in (EnginePlain conn bytes) = Some conn
conn_in (EngineUp conn name) = Some conn
conn_in (EngineDown conn) = Some conn
conn_in kind = None

-- the open session that it is for
abbrev pub session_on : Option Conn → Peer → Option ℕ
session_on None p = None
session_on (Some conn) p = open_with conn p

-- it comes in the session of this number; that the engine is down the owner judges alone
abbrev pub answer_in : Kind → ℕ → ℕ → Peer → Outcome Turn
answer_in (EngineText conn bytes) n now p = text_came n bytes now p
answer_in (EnginePlain conn bytes) n now p = plain_came n bytes p
answer_in (EngineUp conn name) n now p = name_came n name p
answer_in kind n now p = answered p Going

-- the same, where there is such a session
abbrev pub answer_on : Kind → ℕ → Peer → Option ℕ → Outcome Turn
answer_on kind now p None = answered p Going
answer_on kind now p (Some n) = answer_in kind n now p

-- the engine has answered on a connection
unfoldable pub engine_came : Kind → ℕ → Peer → Outcome Turn
engine_came kind now p = answer_on kind now p (session_on (conn_in kind) p)
