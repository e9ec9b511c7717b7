-- A control packet comes to a client's session.
use Rattle.std.specs.Prelude.{ℕ, zero, suc, ◌%◌, ◌==◌, ◌&&◌, Bool, true, false, List, [], ◌∷◌, ◌++◌, length, Option, Some, None, slice_get, Result, Ok, Err}
use Rattle.std.specs.Option.{option_or}
use Rattle.vpn_base.specs.declared.names.Conn.{Conn}
use Rattle.vpn_base.specs.declared.names.Freshness.{Freshness}
use Rattle.vpn_base.specs.declared.names.Freshness.TheVariants.{Fresh}
use Rattle.vpn_base.specs.declared.names.Moment.{Moment}
use Rattle.vpn_base.specs.declared.names.Sid.{Sid}
use Rattle.opcode_codec.specs.ControlText.{ControlForm}
use Rattle.opcode_codec.specs.declared.opcodes.Opcode.{Opcode}
use Rattle.opcode_codec.specs.declared.opcodes.Opcode.TheVariants.{SoftReset}
use Rattle.opcode_codec.specs.FirstByte.{opcode_of}
use Rattle.packet_ids.specs.LongFreshness.{long_freshness}
use Rattle.tls_crypt.specs.Packets.{Packet}
use Rattle.control_link.specs.Calls as link
use Rattle.control_link.specs.Envelope.{EnvelopeHistory, with_accepted}
use Rattle.control_link.specs.Reading.{read_here, texts_here}
use Rattle.peer_table.specs.declared.outcomes.Refused.{Refused}
use Rattle.peer_table.specs.declared.outcomes.Refused.TheVariants.{Replayed, BadKey}
use Rattle.peer_table.specs.declared.outcomes.Turn.{Turn}
use Rattle.peer_table.specs.KeySessions.{Session, has_keys, kid_of, live_with, newest, newest_session, session_begun}
use Rattle.peer_table.specs.Peer.{Doing, Opens, Outcome, Peer, Puts, answered, done_first, turn_of, with_link}

-- a control packet that unwrapped and whose plain text was read, its moment, the number of the next engine connection, and whether
-- the client is established
pub record Incoming : Type 0 where
  pub packet : Packet
  pub form : ControlForm
  pub moment : Moment
  pub next_conn : Conn
  pub established : Bool

-- the key id in its first byte
abbrev pub kid_in : Incoming → ℕ
kid_in i = i.packet.first % 8

-- the session id of who sent a control packet
abbrev pub sid_of : Packet → Sid
sid_of p = record { 0 = p.sid }

-- who sent it
abbrev pub sender : Incoming → Sid
sender i = sid_of i.packet

-- as many payloads as may be in order once a packet was taken
abbrev pub most_in_order : ℕ
most_in_order = 12

-- its wrap is accepted
abbrev pub wrap_accepted : Incoming → EnvelopeHistory → EnvelopeHistory
wrap_accepted i h = with_accepted h i.packet.time i.packet.id i.moment

-- ---- which session

-- whether the opcode is that of a soft reset
abbrev pub is_soft_reset : Option Opcode → Bool
is_soft_reset (Some SoftReset) = true
is_soft_reset _ = false

-- whether the packet id is 0
abbrev pub is_first : Option ℕ → Bool
is_first None = false
is_first (Some id) = id == 0

-- a session is finished once it has keys, and session 0 only once its client is established, for which it has keys already
abbrev pub is_finished_as : Bool → ℕ → Option Session → Bool
is_finished_as established n None = false
is_finished_as established zero (Some s) = has_keys s && established
is_finished_as established (suc n) (Some s) = has_keys s

-- whether the newest session is finished
unfoldable pub newest_is_finished : Bool → List Session → Bool
newest_is_finished established sessions = is_finished_as established (newest sessions) (newest_session sessions)

-- whether it begins the next session: a soft reset with the next key id and packet id 0, where the newest session is finished
abbrev pub begins_next : Peer → Incoming → Bool
begins_next p i =
    is_soft_reset (opcode_of i.packet.first) && (kid_in i == kid_of (length p.sessions)) && is_first i.form.id
    && newest_is_finished i.established p.sessions

-- ---- taking it

-- each payload that is not empty is put to the engine
abbrev pub puts : Conn → List (List ℕ) → List Doing
puts conn [] = []
puts conn ([] ∷ texts) = puts conn texts
puts conn ((b ∷ bytes) ∷ texts) = Puts conn (b ∷ bytes) ∷ puts conn texts

-- a session of this number took it, as the link's call says: what is now in order is read, and the first packet that is taken fixes the
-- other end's session id
abbrev pub taken_as : Peer → Incoming → ℕ → link.Outcome → Outcome (Result Turn Refused)
taken_as p i n o = record {
  peer = record (with_link n (read_here most_in_order o.link) p)
      { envelope = wrap_accepted i o.envelope; remote = option_or p.remote (Some (sender i)) };
  doings = puts o.link.conn (texts_here most_in_order o.link);
  datagrams = o.datagrams;
  answer = Ok (turn_of o.end);
}

-- no session takes it
abbrev pub of_no_session : Peer → Incoming → Outcome (Result Turn Refused)
of_no_session p i = answered (record p { envelope = wrap_accepted i p.envelope }) (Err (BadKey (kid_in i)))

-- the session of this number takes it
abbrev pub taken_by : Peer → Incoming → ℕ → Option Session → Outcome (Result Turn Refused)
taken_by p i n None = of_no_session p i
taken_by p i n (Some s) = taken_as p i n (link.received s.link p.envelope i.form (sender i) i.moment.0)

-- the next session, which begins now on this connection
abbrev pub next_session : Conn → ℕ → Peer → Session
next_session conn now p = session_begun p.timers conn (length p.sessions) SoftReset now

-- it stands behind all others
abbrev pub with_next : Conn → ℕ → Peer → Peer
with_next conn now p = record p { sessions = p.sessions ++ next_session conn now p ∷ [] }

-- it begins the next session, which takes it, or goes to none
abbrev pub begun_by : Peer → Incoming → Bool → Outcome (Result Turn Refused)
begun_by p i true =
    done_first (Opens i.next_conn)
    (taken_by (with_next i.next_conn i.moment.0 p) i (length p.sessions) (Some (next_session i.next_conn i.moment.0 p)))
begun_by p i false = of_no_session p i

-- it goes to the live session with its key id, or else begins the next one
abbrev pub placed : Peer → Incoming → Option ℕ → Outcome (Result Turn Refused)
placed p i (Some n) = taken_by p i n (slice_get p.sessions n)
placed p i None = begun_by p i (begins_next p i)

-- a wrap that is fresh is accepted, also where the packet is refused then
abbrev pub judged : Peer → Incoming → Freshness → Outcome (Result Turn Refused)
judged p i Fresh = placed p i (live_with p.timers i.moment.0 p.sessions (kid_in i))
judged p i stale = answered p (Err (Replayed i.packet.time i.packet.id))

-- A control packet has come, with this peer's session id or where none is fixed yet. Refused in this order: replayed, of no session. Else
-- its acknowledgements count, its payload is held, what is in order is put to the engine, it is acknowledged, and what may be
-- sent now is sent.
unfoldable pub control_came : Peer → Incoming → Outcome (Result Turn Refused)
control_came p i = judged p i (long_freshness p.envelope.accepted i.packet.time i.packet.id i.moment)
