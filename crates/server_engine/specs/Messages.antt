-- Messages behind a client's key exchange, as they are found and passed.
use Rattle.std.specs.Prelude.{◌≡◌, ◌≤◌, ℕ, true, false, List, length, Option, Some, None}
use Rattle.std.specs.Str.{bytes_eq}
use Rattle.vpn_base.specs.declared.names.Conn.{Conn}
use Rattle.vpn_links.specs.Actions.{Action, Contents}
use Rattle.vpn_links.specs.declared.notes.Note.TheVariants.{Ignored}
use Rattle.peer_table.specs.Exchange.{after_message}
use Rattle.peer_table.specs.Peer.{Peer}
use Rattle.server_table.specs.Courses.{Course, client_changed, reported}
use Rattle.server_table.specs.Exchange.{messages_taken_by, push_request, requested}
use Rattle.server_table.specs.Lookups.{cid, client_here}
use Rattle.server_state.specs.declared.state.ServerCore.{ServerCore}
use Rattle.server_state.specs.Core.{CourseStands}
use Rattle.server_engine.specs.declared.messages.Waiting.{Waiting}
use Rattle.server_engine.specs.declared.messages.Waiting.TheVariants as found

-- what a message on this connection is found to be
abbrev pub SeesBytes : Waiting → Conn → List ℕ → Type 0
SeesBytes found.Nothing conn bytes = ⊥
SeesBytes found.Empty conn bytes = length bytes ≡ 0
SeesBytes (found.Request on) conn bytes = (on ≡ conn) × (bytes_eq bytes push_request ≡ true)
SeesBytes found.Other conn bytes = (1 ≤ length bytes) × (bytes_eq bytes push_request ≡ false)

-- what the next message is found to be, if one waits
abbrev pub Sees : Waiting → Option (Conn × List ℕ) → Type 0
Sees seen (Some m) = SeesBytes seen m.0 m.1
Sees found.Nothing None = Unit {0}
Sees seen None = ⊥

-- the next message of the client of this number was passed
abbrev pub passed : ℕ → Course → Course
passed n c = client_changed n (λ x. record x { session = after_message x.session }) c

-- the same by what it was found to be: one that is neither empty nor a request is reported
abbrev pub passed_on : ℕ → Course → Waiting → Course
passed_on n c found.Nothing = c
passed_on n c found.Empty = passed n c
passed_on n c (found.Request conn) = passed n c
passed_on n c found.Other = reported (Ignored (cid n)) (passed n c)

-- a message was passed, and this is to be done of it before what comes behind it
pub record HasPassed {S : Type 0} (means : S → Peer → Type 0) (before : List Action) (core : ServerCore S) (out : Contents) (n : ℕ) (c : Course) (rest : Course → Course) : Type 0 where
  pub so_far : Course
  pub stands : CourseStands means before core out so_far
  pub leads : (behind : Course → Course) → messages_taken_by behind n c (client_here c.table n) ≡ behind (rest so_far)

-- no message waits, or one was passed; nothing is to be done of it any more but of a request
abbrev pub IsPassed : {S : Type 0} → (S → Peer → Type 0) → List Action → ServerCore S → Contents → ℕ → Course → Waiting → Type 0
IsPassed means before core out n c found.Nothing =
    CourseStands means before core out c × ((behind : Course → Course) → messages_taken_by behind n c (client_here c.table n) ≡ c)
IsPassed means before core out n c found.Empty = HasPassed means before core out n c (λ c. c)
IsPassed means before core out n c (found.Request conn) = HasPassed means before core out n c (λ c. requested n conn c (client_here c.table n))
IsPassed means before core out n c found.Other = HasPassed means before core out n c (λ c. c)
