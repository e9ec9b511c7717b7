-- Who waits for a file.
use Rattle.std.specs.Prelude.{Bool, true, false, Option, Some, None}
use Rattle.server_table.specs.Table.{Awaited, Client, FileState, Known, Unasked}

-- whether a file is waited for
abbrev pub awaits : FileState → Bool
awaits (Awaited name) = true
awaits Unasked = false
awaits (Known file) = false

-- whether a client is here and waits for its file
abbrev pub is_waited_for : Option Client → Bool
is_waited_for None = false
is_waited_for (Some x) = awaits x.file
