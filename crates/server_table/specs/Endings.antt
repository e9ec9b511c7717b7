-- A client ends.
use Rattle.std.specs.Prelude.{ℕ, ◌==◌, not, false, List, [], ◌∷◌, ◌++◌, codes, Option, Some, None, filter}
use Rattle.std.specs.Fmt.{decimal}
use Rattle.vpn_base.specs.declared.names.Cause.{Cause}
use Rattle.vpn_links.specs.Actions.{Action, Report, Say}
use Rattle.vpn_links.specs.declared.notes.Note.TheVariants.{Ended}
use Rattle.peer_table.specs.declared.outcomes.Turn.{Turn}
use Rattle.peer_table.specs.declared.outcomes.Turn.TheVariants.{Over}
use Rattle.peer_table.specs.Outboxes.{actions_of}
use Rattle.peer_table.specs.Time.{all_closed, closings}
use Rattle.route_table.specs.Learned.{without_client}
use Rattle.server_table.specs.Table.{Client, Established, Table}
use Rattle.server_table.specs.Lookups.{cid, client_here}
use Rattle.server_table.specs.Courses.{Course, Staged, with_client}

-- what a manager is told of the end of a client that was established
abbrev pub disconnect_line : ℕ → Option Established → List Action
disconnect_line n None = []
disconnect_line n (Some e) = Say (codes ">CLIENT:DISCONNECT," ++ decimal n) ∷ []

-- the note with its cause, that line, and each open connection closed
abbrev pub ending_effects : ℕ → Cause → Client → List Action
ending_effects n cause x =
    Report (Ended (cid n) cause) ∷ disconnect_line n x.established ++ actions_of x.session.role (closings x.session.sessions)

-- a client that has ended: it is not here, and its sessions are closed
abbrev pub gone : Client → Client
gone x = record x { is_here = false; session = all_closed x.session }

-- its rows and learned hosts are given up; with it, being here, its peer id and its address
abbrev pub without : ℕ → Table → Table
without n t = record (with_client n gone t) { routes = without_client (cid n) t.routes }

-- the control datagrams of all others
abbrev pub of_others : ℕ → List Staged → List Staged
of_others n staged = filter (λ s. not (s.number == n)) staged

-- the client ends, if it is here; control datagrams that this step staged for it are not sent
abbrev pub ended_as : ℕ → Cause → Course → Option Client → Course
ended_as n cause c None = c
ended_as n cause c (Some x) = record {
  table = without n c.table;
  effects = c.effects ++ ending_effects n cause x;
  staged = of_others n c.staged;
}

-- the client of this number ends
unfoldable pub ended : ℕ → Cause → Course → Course
ended n cause c = ended_as n cause c (client_here c.table n)

-- it ends where its session says so
abbrev pub turned : ℕ → Turn → Course → Course
turned n (Over cause) c = ended n cause c
turned n turn c = c
