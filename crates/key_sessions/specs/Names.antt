-- Common names of the other end: which are refused, and why.
use Rattle.std.specs.Prelude.{ℕ, List, Option, Some, None, if◌then◌else◌}
use Rattle.std.specs.Str.{bytes_eq}
use Rattle.vpn_base.specs.FileName.{is_file_name}
use Rattle.key_sessions.specs.declared.name.NameFault.{NameFault}
use Rattle.key_sessions.specs.declared.name.NameFault.TheVariants.{BadName, NameChanged}

-- a name is to be the same as the one that is known, if one is
abbrev pub fault_beside : List ℕ → Option (List ℕ) → Option NameFault
fault_beside name None = None
fault_beside name (Some known) = if bytes_eq name known then None else Some NameChanged

-- why a name, as it is kept, is refused beside the one that is known, if it is: first it has to be a file's name
unfoldable pub name_fault : List ℕ → Option (List ℕ) → Option NameFault
name_fault name known = if is_file_name name then fault_beside name known else Some BadName
