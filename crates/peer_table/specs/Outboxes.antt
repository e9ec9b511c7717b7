-- What a call of a client's session leaves: the session, and the outbox that it was lent.
use Rattle.std.specs.Prelude.{◌+◌, ◌≡◌, ◌≤◌, ℕ, Bool, List, [], ◌∷◌, ◌++◌, drop, length, map, Result, Ok, Err}
use Rattle.vpn_base.specs.declared.address.Addr.{Addr}
use Rattle.vpn_base.specs.declared.errors.NoMemory.{NoMemory}
use Rattle.vpn_base.specs.declared.names.Conn.{Conn}
use Rattle.vpn_base.specs.declared.names.Moment.{Moment}
use Rattle.vpn_base.specs.declared.names.Role.{Role}
use Rattle.vpn_links.specs.Actions.{Action, Contents, EngineClose, EngineOpen, EnginePut, EngineWrite, Holds, Wire}
use Rattle.opcode_codec.specs.ControlText.{control_form}
use Rattle.opcode_codec.specs.declared.control.ControlView.{ControlView}
use Rattle.tls_crypt.specs.declared.wrapping.Opened.{Opened}
use Rattle.control_link.specs.Calls.{datagrams_to}
use Rattle.packet_ids.specs.declared.sending.Spent.{Spent}
use Rattle.peer_table.specs.declared.outcomes.Message.{Message}
use Rattle.peer_table.specs.declared.outcomes.Refused.{Refused}
use Rattle.peer_table.specs.declared.outcomes.Turn.{Turn}
use Rattle.peer_table.specs.declared.outcomes.Turn.TheVariants.{Over}
use Rattle.peer_table.specs.declared.outcomes.SessionFault.{SessionFault}
use Rattle.peer_table.specs.declared.outcomes.SessionFault.TheVariants.{Stale}
use Rattle.peer_table.specs.ControlPackets.{Incoming}
use Rattle.peer_table.specs.Peer.{Closes, Doing, Opens, Outcome, Peer, Puts, Writes}

-- what a session did, as an effect
abbrev pub action_of : Role → Doing → Action
action_of role (Opens conn) = EngineOpen conn role
action_of role (Puts conn bytes) = EnginePut conn bytes
action_of role (Writes conn bytes) = EngineWrite conn bytes
action_of role (Closes conn) = EngineClose conn

-- the same for all that it did
abbrev pub actions_of : Role → List Doing → List Action
actions_of role doings = map (action_of role) doings

-- the session stands for the outcome's peer, and the outbox has what was there before and then what was done
pub record Leaves {S A : Type 0} (means : S → Peer → Type 0) (session : S) (before after : Contents) (to : Addr) (o : Outcome A) : Type 0 where
  pub peer : means session o.peer
  pub outbox : Holds after (before.effects ++ actions_of o.peer.role o.doings) (before.staged ++ datagrams_to to o.datagrams)

-- the same, where at want of memory nothing has changed
abbrev pub LeavesUnless : {S A B : Type 0} → Result B NoMemory → (S → Peer → Type 0) → S → Contents → Contents → Addr → Peer → Outcome A → Type 0
LeavesUnless (Ok b) means session before after to p o = Leaves means session before after to o
LeavesUnless (Err e) means session before after to p o = means session p × Holds after before.effects before.staged

-- a control packet as it is handed to a session
abbrev pub incoming : Opened → ControlView → Conn → Bool → Moment → Incoming
incoming o v next_conn established moment = record {
  packet = record { first = o.first; sid = o.sid.0; id = o.id; time = o.time; plain = o.plain.now };
  form = control_form v;
  moment = moment;
  next_conn = next_conn;
  established = established;
}

-- an outbox has room for so many effects or staged datagrams more, and for so many bytes
pub record HasRoom (before : Contents) (effects bytes : ℕ) : Type 0 where
  pub effects_fit : effects ≤ before.spare_effects
  pub bytes_fit : bytes ≤ before.spare_bytes

-- no more than so many effects and bytes of an outbox's room were used
pub record Uses (before after : Contents) (effects bytes : ℕ) : Type 0 where
  pub effects_left : before.spare_effects ≤ after.spare_effects + effects
  pub bytes_left : before.spare_bytes ≤ after.spare_bytes + bytes

-- a session that goes on after a turn goes on, and one that is over need not
abbrev pub GoesOnUnlessOver : Type 0 → Turn → Type 0
GoesOnUnlessOver goes_on (Over cause) = Unit {0}
GoesOnUnlessOver goes_on turn = goes_on

-- the same for what a control packet comes to
abbrev pub GoesOnAfter : Type 0 → Result Turn Refused → Type 0
GoesOnAfter goes_on (Ok turn) = GoesOnUnlessOver goes_on turn
GoesOnAfter goes_on (Err refused) = goes_on

-- what sealing puts on the wire
abbrev pub wired : Addr → Result (List ℕ) Spent → List Action
wired to (Ok datagram) = Wire to datagram ∷ []
wired to (Err spent) = []

-- the session stands for the outcome's peer, and what was sealed stands behind all effects
pub record LeavesSealed {S : Type 0} (means : S → Peer → Type 0) (session : S) (before after : Contents) (to : Addr) (o : Outcome (Result (List ℕ) Spent)) : Type 0 where
  pub peer : means session o.peer
  pub outbox : Holds after (before.effects ++ wired to o.answer) before.staged

-- the length of what was opened, which stands behind the first 24 bytes, or the refusal
abbrev pub TellsOpened : Result ℕ SessionFault → List ℕ → Result (List ℕ) SessionFault → Type 0
TellsOpened (Ok size) bytes (Ok inner) = (size ≡ length inner) × (drop 24 bytes ≡ inner)
TellsOpened (Err fault) bytes (Err wanted) = fault ≡ wanted
TellsOpened _ bytes _ = ⊥

-- nothing was opened in place, but by a packet whose id is stale
abbrev pub IsUnchanged : Result ℕ SessionFault → List ℕ → List ℕ → Type 0
IsUnchanged (Ok size) before after = Unit {0}
IsUnchanged (Err (Stale kind id greatest)) before after = Unit {0}
IsUnchanged (Err fault) before after = after ≡ before

-- a message behind a key exchange, and the connection that it came on
abbrev pub message_seen : Message → Conn × List ℕ
message_seen m = (m.conn, m.bytes.now)
