-- How much room in an outbox the messages take that stand in so many bytes of unread text.
use Rattle.std.specs.Prelude.{ℕ, ◌+◌, ◌*◌, ◌/◌}
use Rattle.server_establishing.specs.declared.asking.Prepared.{Prepared}
use Rattle.server_establishing.specs.Prepared.{prepared_bytes, prepared_effects}

-- how many effects: a request has 13 bytes with its NUL, and any other message, of which a note may tell, has one at least
abbrev pub messages_effects : Prepared → ℕ → ℕ
messages_effects prepared left = prepared_effects prepared * (left / 13) + left

-- how many bytes
abbrev pub messages_bytes : Prepared → ℕ → ℕ
messages_bytes prepared left = prepared_bytes prepared * (left / 13)
