-- What is known of a client's file.
use Rattle.std.specs.Prelude.{◌≡◌, Bool, true, false, ℕ, List, Option, Some, None}
use Rattle.std.specs.Str.{bytes_eq}
use Rattle.vpn_base.specs.declared.names.Draw.{Draw}
use Rattle.vpn_links.specs.Actions.{Action, Contents}
use Rattle.ccd_files.specs.declared.client_file.Ccd.{Ccd}
use Rattle.peer_table.specs.Peer.{Peer}
use Rattle.server_table.specs.Courses.{Course}
use Rattle.server_table.specs.Engine.{default_name, file_known}
use Rattle.server_table.specs.Table.{Awaited, FileState, Known, Unasked}
use Rattle.server_state.specs.declared.client.ClientFile.{ClientFile}
use Rattle.server_state.specs.declared.client.ClientFile.TheVariants as files
use Rattle.server_state.specs.declared.state.ServerCore.{ServerCore}
use Rattle.server_state.specs.Core.{CourseStands}

-- whether a file was not asked for
abbrev pub is_unasked : ClientFile → Bool
is_unasked files.Unasked = true
is_unasked file = false

-- whether the file that is waited for is the one for all clients that have none, if one is
abbrev pub awaited_default : FileState → Option Bool
awaited_default (Awaited name) = Some (bytes_eq name default_name)
awaited_default Unasked = None
awaited_default (Known file) = None

-- all that this function says is done, or the file is known, with which it goes on, and nothing was done
abbrev pub IsTakenAs : {S : Type 0} → (S → Peer → Type 0) → List Action → ServerCore S → Contents → Draw → ℕ → Course → Course → Option Ccd → Type 0
IsTakenAs means before core out draw n c done None = CourseStands means before core out done
IsTakenAs means before core out draw n c done (Some file) = CourseStands means before core out c × (done ≡ file_known draw n file c)

-- whether it is known what the file says
abbrev pub is_known : ClientFile → Bool
is_known (files.Known ccd) = true
is_known file = false
