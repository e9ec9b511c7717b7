-- One client of a server as plain data, and what a call of its session comes to. A client core will have one such peer too, its
-- server: where the two roles differ, a function of the role says how.
use Rattle.std.specs.Prelude.{ℕ, ◌/◌, ◌%◌, ◌^◌, Bool, false, List, [], ◌∷◌, ◌++◌, replicate, Option, Some, None, unwrap_or, slice_get}
use Rattle.vpn_base.specs.declared.names.Cause.{Cause}
use Rattle.vpn_base.specs.declared.names.Cause.TheVariants as causes
use Rattle.vpn_base.specs.declared.names.Conn.{Conn}
use Rattle.vpn_base.specs.declared.names.Role.{Role}
use Rattle.vpn_base.specs.declared.names.Role.TheVariants.{Server, Client}
use Rattle.vpn_base.specs.declared.names.Sid.{Sid}
use Rattle.vpn_base.specs.declared.names.Timers.{Timers}
use Rattle.opcode_codec.specs.declared.opcodes.Opcode.{Opcode}
use Rattle.opcode_codec.specs.declared.opcodes.Opcode.TheVariants.{ClientReset, ServerReset}
use Rattle.tls_crypt.specs.Packets.{Wrapping}
use Rattle.control_link.specs.declared.link.LinkEnd.{LinkEnd}
use Rattle.control_link.specs.declared.link.LinkEnd.TheVariants as ends
use Rattle.control_link.specs.Calls as link
use Rattle.control_link.specs.Envelope.{EnvelopeHistory, envelope_begun}
use Rattle.control_link.specs.Links.{Link}
use Rattle.peer_table.specs.declared.outcomes.Turn.{Turn}
use Rattle.peer_table.specs.declared.outcomes.Turn.TheVariants.{Going, Over}
use Rattle.peer_table.specs.Places.{changed_at}
use Rattle.peer_table.specs.KeySessions.{Session, session_begun}

-- The other end of a tunnel: which role this end has towards it, the timers, the wrapping of control packets with all wrap ids
-- that were used and accepted, the other end's session id once it is fixed, its common name once it is known, whether it asked
-- to be established without a push request, and every key session that it ever had.
pub record Peer : Type 0 where
  pub role : Role
  pub timers : Timers
  pub envelope : EnvelopeHistory
  pub remote : Option Sid
  pub name : Option (List ℕ)
  pub asks_push : Bool
  pub sessions : List Session

-- what a session's calls do to the outside, beside the control datagrams that they stage: a connection of the TLS engine is opened,
-- control text of the other end is put to it, plain text is written on it, it is closed
pub data Doing : Type 0 where
  Opens : Conn → Doing
  Puts : Conn → List ℕ → Doing
  Writes : Conn → List ℕ → Doing
  Closes : Conn → Doing

-- what came of a call: the peer after it, what was done to the outside and the control datagrams that were staged, each in order, and what
-- the call answers
pub record Outcome (A : Type 0) : Type 0 where
  pub peer : Peer
  pub doings : List Doing
  pub datagrams : List (List ℕ)
  pub answer : A

-- nothing was done
abbrev pub answered : {A : Type 0} → Peer → A → Outcome A
answered p answer = record { peer = p; doings = []; datagrams = []; answer = answer }

-- one thing was done before all others
abbrev pub done_first : {A : Type 0} → Doing → Outcome A → Outcome A
done_first doing o = record o { doings = doing ∷ o.doings }

-- the other end's session id in what is sent; before it is fixed, nothing is sent that has it
abbrev pub remote_of : Peer → Sid
remote_of p = unwrap_or p.remote (record { 0 = replicate 8 0 })

-- the reset of session 0 by this end's role
abbrev pub first_reset : Role → Opcode
first_reset Server = ServerReset
first_reset Client = ClientReset

-- the role of the other end
abbrev pub other : Role → Role
other Server = Client
other Client = Server

-- the time of all own wraps: the second in which the session began, modulo 2^32
abbrev pub wrap_time : ℕ → ℕ
wrap_time now = now / 1000 % 2 ^ 32

-- a peer whose session 0 begins now, on this connection
abbrev pub peer_begun : Role → Wrapping → Sid → Timers → Conn → ℕ → Peer
peer_begun role wraps own timers conn now = record {
  role = role;
  timers = timers;
  envelope = envelope_begun wraps own (wrap_time now) timers.win timers.win_secs;
  remote = None;
  name = None;
  asks_push = false;
  sessions = session_begun timers conn 0 (first_reset role) now ∷ [];
}

-- ---- what a session's link leaves

-- the session of this number has another link
abbrev pub with_link : ℕ → Link → Peer → Peer
with_link n l p = record p { sessions = changed_at n (λ s. record s { link = l }) p.sessions }

-- why the client ends with a link's end
abbrev pub cause_of : LinkEnd → Cause
cause_of ends.TextFull = causes.TextFull
cause_of ends.WrapSpent = causes.WrapSpent

-- the client ends, where its link has ended
abbrev pub turn_of : Option LinkEnd → Turn
turn_of None = Going
turn_of (Some end) = Over (cause_of end)

-- the first cause of an ending stands
abbrev pub first_over : Turn → Turn → Turn
first_over (Over cause) later = Over cause
first_over _ later = later

-- a call of the link of this session has gone on with what was done so far
abbrev pub gone_on : ℕ → link.Outcome → Outcome Turn → Outcome Turn
gone_on n o so_far = record {
  peer = record (with_link n o.link so_far.peer) { envelope = o.envelope };
  doings = so_far.doings;
  datagrams = so_far.datagrams ++ o.datagrams;
  answer = first_over so_far.answer (turn_of o.end);
}

-- ---- the beginning

-- what may be sent for the first time is sent in a session
abbrev pub ready_sent_in : ℕ → ℕ → Outcome Turn → Option Session → Outcome Turn
ready_sent_in n now so_far None = so_far
ready_sent_in n now so_far (Some s) = gone_on n (link.with_ready s.link so_far.peer.envelope [] (remote_of so_far.peer) now) so_far

-- the same in the session of a number: one that has begun sends its reset
abbrev pub ready_sent : ℕ → ℕ → Outcome Turn → Outcome Turn
ready_sent n now so_far = ready_sent_in n now so_far (slice_get so_far.peer.sessions n)

-- the reset of session 0 by role: a client's is sent at once, a server's waits for the control packet that admits the client, so that
-- it carries the acknowledgement of it
abbrev pub reset_by : Role → ℕ → Outcome Turn → Outcome Turn
reset_by Server now so_far = so_far
reset_by Client now so_far = ready_sent 0 now so_far

-- a peer begins: the connection of its session 0 is opened
unfoldable pub began : Role → Wrapping → Sid → Timers → Conn → ℕ → Outcome Turn
began role wraps own timers conn now =
    reset_by role now (record { peer = peer_begun role wraps own timers conn now; doings = Opens conn ∷ []; datagrams = []; answer = Going })
