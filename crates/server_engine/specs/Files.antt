-- What is told of clients' files.
use Rattle.std.specs.Prelude.{◌≡◌, ◌≤◌, ℕ, List, length, Option, Some, None, Ok, Err}
use Rattle.vpn_base.specs.declared.names.Cid.{Cid}
use Rattle.vpn_base.specs.declared.names.Draw.{Draw}
use Rattle.vpn_links.specs.Actions.{Action, Contents}
use Rattle.vpn_links.specs.declared.events.FileAnswer.{FileAnswer}
use Rattle.vpn_links.specs.declared.events.FileAnswer.TheVariants as answers
use Rattle.ccd_files.specs.declared.client_file.Ccd.{Ccd}
use Rattle.ccd_files.specs.ClientFile.{ccd}
use Rattle.peer_table.specs.Peer.{Peer}
use Rattle.server_table.specs.Courses.{Course}
use Rattle.server_table.specs.Engine.{file_came, file_known}
use Rattle.server_table.specs.Lookups.{client_here}
use Rattle.server_table.specs.Table.{Client, Table}
use Rattle.server_state.specs.declared.state.ServerCore.{ServerCore}
use Rattle.server_state.specs.Core.{CourseStands}
use Rattle.server_engine.specs.declared.answers.ReadAnswer.{ReadAnswer}
use Rattle.server_engine.specs.declared.answers.ReadAnswer.TheVariants as read

-- a name is known, and has no more bytes than these
abbrev pub NameFits : ℕ → Option (List ℕ) → Type 0
NameFits longest None = ⊥
NameFits longest (Some name) = length name ≤ longest

-- the same for the name of the client of a number, if it is here
abbrev pub HasNameWithin : ℕ → Table → ℕ → Type 0
HasNameWithin longest t n = (x : Client) → client_here t n ≡ Some x → NameFits longest x.session.name

-- an answer for a client's file, whose text was read
abbrev pub Tells : ReadAnswer → FileAnswer → Type 0
Tells (read.Accepted file) (answers.Held text) = ccd text ≡ Ok file
Tells (read.Refused fault) (answers.Held text) = ccd text ≡ Err fault
Tells read.Missing answers.Missing = Unit {0}
Tells read.Failed answers.Failed = Unit {0}
Tells _ _ = ⊥

-- An answer for a client's file was taken as far as it goes without a key exchange: all is done, or the file is known, with which it goes on, and
-- nothing was done.
abbrev pub IsTaken : {S : Type 0} → (S → Peer → Type 0) → List Action → ServerCore S → Contents → Draw → Cid → FileAnswer → Course → Option Ccd → Type 0
IsTaken means before core out draw cid answer c None = CourseStands means before core out (file_came draw cid answer c)
IsTaken means before core out draw cid answer c (Some file) =
    CourseStands means before core out c × (file_came draw cid answer c ≡ file_known draw cid.0 file c)
