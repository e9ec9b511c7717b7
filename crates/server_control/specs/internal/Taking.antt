-- What comes of a control packet, in two steps: what its session does, and what is told of it.
use Rattle.std.specs.Prelude.{◌≡◌, ℕ, List, Option, Result, Ok, Err}
use Rattle.vpn_base.specs.declared.errors.NoMemory.{NoMemory}
use Rattle.vpn_base.specs.declared.names.Moment.{Moment}
use Rattle.vpn_base.specs.declared.names.Place.{Place}
use Rattle.vpn_links.specs.Actions.{Action, Contents}
use Rattle.vpn_links.specs.declared.notes.Note.TheVariants as notes
use Rattle.peer_table.specs.declared.outcomes.Refused.{Refused}
use Rattle.peer_table.specs.declared.outcomes.Refused.TheVariants.{Replayed, BadKey}
use Rattle.peer_table.specs.declared.outcomes.Turn.{Turn}
use Rattle.peer_table.specs.declared.outcomes.Turn.TheVariants.{Over}
use Rattle.peer_table.specs.ControlPackets.{control_came}
use Rattle.peer_table.specs.Peer.{Peer}
use Rattle.server_table.specs.ControlDatagrams.{ControlPacket, control_place, incoming, with_fresh}
use Rattle.server_table.specs.Courses.{Course, acted, client_changed, reported}
use Rattle.server_table.specs.DataDatagrams.{went_to}
use Rattle.server_table.specs.Endings.{turned}
use Rattle.server_table.specs.Lookups.{cid}
use Rattle.server_table.specs.Table.{Client}
use Rattle.server_state.specs.declared.client.ClientState.{ClientState}
use Rattle.server_state.specs.declared.state.ServerCore.{ServerCore}
use Rattle.server_state.specs.Core.{CourseStands, IsSound}
use Rattle.server_state.specs.Endings.{IsSoundBut}

-- what a core keeps of a client after it, with this session: a client whose packet has a fresh wrap is heard
abbrev pub heard_after : {S : Type 0} → Result (Result Turn Refused) NoMemory → Moment → ClientState S → S → ClientState S
heard_after (Ok (Ok turn)) now v session = record v { session = session; heard = now }
heard_after (Ok (Err (BadKey kid))) now v session = record v { session = session; heard = now }
heard_after (Ok (Err (Replayed time id))) now v session = record v { session = session }
heard_after (Err e) now v session = record v { session = session }

-- the key session to which the last datagram went: it reached this one where it was taken
abbrev pub last_after : Result Turn Refused → Option Place → Option Place → Option Place
last_after (Ok turn) reached last = reached
last_after (Err refused) reached last = last

-- the course once the session has answered, before anything is told
abbrev pub went : ℕ → Option Place → Course → Result Turn Refused → Course
went n reached c (Ok turn) = client_changed n (with_fresh c.table.moment) (record c { table = went_to reached c.table })
went n reached c (Err (BadKey kid)) = client_changed n (with_fresh c.table.moment) c
went n reached c (Err (Replayed time id)) = c

-- what is told of the answer
abbrev pub told : ℕ → Course → Result Turn Refused → Course
told n c (Ok turn) = turned n turn c
told n c (Err (BadKey kid)) = reported (notes.BadKey (cid n) kid) c
told n c (Err (Replayed time id)) = reported (notes.Replayed time id) c

-- the client whose turn it is has taken a packet, with this answer
pub record HasTaken {S : Type 0} (means : S → Peer → Type 0) (before : List Action) (core : ServerCore S) (after : Contents) (n : ℕ) (r : ControlPacket)
    (c : Course) (x : Client) (answer : Result Turn Refused) : Type 0 where
  pub answered : answer ≡ (control_came x.session (incoming r c x)).answer
  pub course : CourseStands means before core after
      (went n (control_place (incoming r c x) x.session (control_came x.session (incoming r c x)).peer) (acted n x.address (control_came x.session (incoming r c x)) c) answer)

-- what holds of the core after an answer: where the turn is over, the client's session need not go on
abbrev pub IsSoundAfter : {S : Type 0} → (S → Type 0) → (S → ℕ) → (S → ℕ) → ServerCore S → Result Turn Refused → Type 0
IsSoundAfter goes_on count since core (Ok (Over cause)) = IsSoundBut goes_on count since core.turn.0 core
IsSoundAfter goes_on count since core answer = IsSound goes_on count since core
