-- What the engine's answers come to in a client's session.
use Rattle.std.specs.Prelude.{◌≡◌, Bool, true, false, [], Result, Ok, Err}
use Rattle.vpn_base.specs.declared.errors.NoMemory.{NoMemory}
use Rattle.vpn_base.specs.declared.errors.Or.{Or}
use Rattle.vpn_base.specs.declared.errors.Or.TheVariants.{Memory, Why}
use Rattle.vpn_base.specs.declared.names.Cause.{Cause}
use Rattle.vpn_base.specs.declared.names.Cause.TheVariants as causes
use Rattle.control_link.specs.declared.link.LinkEnd.{LinkEnd}
use Rattle.key_sessions.specs.declared.name.NameFault.{NameFault}
use Rattle.key_sessions.specs.declared.name.NameFault.TheVariants.{BadName, NameChanged}
use Rattle.peer_table.specs.declared.outcomes.Turn.{Turn}
use Rattle.peer_table.specs.declared.outcomes.Turn.TheVariants.{Going, Over}
use Rattle.peer_table.specs.KeySessions as sessions
use Rattle.peer_table.specs.Peer.{Outcome, Peer, cause_of}

-- the session stands for the peer of an outcome by which nothing was done and nothing staged
pub record LeavesQuietly {S A : Type 0} (means : S → Peer → Type 0) (session : S) (o : Outcome A) : Type 0 where
  pub peer : means session o.peer
  pub doings : o.doings ≡ []
  pub datagrams : o.datagrams ≡ []

-- what an answer of a link comes to: the client ends where the link has ended
abbrev pub turn_told : {A : Type 0} → Result A (Or LinkEnd) → Result Turn NoMemory
turn_told (Ok a) = Ok Going
turn_told (Err Memory) = Err (record {})
turn_told (Err (Why end)) = Ok (Over (cause_of end))

-- whether the client has ended
abbrev pub is_over : Result Turn NoMemory → Bool
is_over (Ok (Over cause)) = true
is_over _ = false

-- why the client ends with a name that is refused
abbrev pub cause_named : NameFault → Cause
cause_named BadName = causes.BadName
cause_named NameChanged = causes.NameChanged

-- whether a session has no name yet
abbrev pub is_opening : sessions.Stage → Bool
is_opening sessions.Opening = true
is_opening sessions.Named = false
is_opening (sessions.Keyed keys) = false
