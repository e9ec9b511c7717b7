-- What a text that is no more than its engine connection stands for.
use Rattle.std.specs.Prelude.{◌≡◌}
use Rattle.peer_table.specs.KeySessions.{Session}
use Rattle.key_sessions.specs.declared.runs.BareText.{BareText}

-- a bare text stands for the sessions on its connection
abbrev pub bare_stands : BareText → Session → Type 0
bare_stands text s = text.conn ≡ s.link.conn
