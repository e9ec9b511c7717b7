-- What is prepared for a client in a step: to establish it, or to write the same reply again.
use Rattle.std.specs.Prelude.{◌≡◌, ℕ, ◌+◌, ◌≤◌, length, Some, None}
use Rattle.server_table.specs.Courses.{Course}
use Rattle.server_table.specs.Establishing.{ccd_in}
use Rattle.server_table.specs.Table.{Client}
use Rattle.server_texts.specs.Replies.{reply_bytes, reply_effects}
use Rattle.server_state.specs.declared.state.ServerCore.{ServerCore}
use Rattle.server_establishing.specs.declared.ahead.Ahead.{Ahead}
use Rattle.server_establishing.specs.declared.asking.Prepared.{Prepared}
use Rattle.server_establishing.specs.declared.asking.Prepared.TheVariants.{Again, New, Nothing}
use Rattle.server_establishing.specs.Ahead.{IsEstablishedWith, IsMadeFor, bytes_with, effects_with, held_for}

-- a client is not established, and this was made ahead for it
pub record IsAwaited (c : Course) (n : ℕ) (x : Client) (ahead : Ahead) : Type 0 where
  pub not_yet : x.established ≡ None
  pub name : x.session.name ≡ Some ahead.name
  pub file : ccd_in x.file ≡ ahead.file
  pub made : IsMadeFor c n ahead.name ahead.file ahead

-- this is prepared for a client that is here
abbrev pub IsPrepared : Course → ℕ → Client → Prepared → Type 0
IsPrepared c n x (New ahead) = IsAwaited c n x ahead
IsPrepared c n x (Again replies) = IsEstablishedWith c.table x (Some replies)
IsPrepared c n x Nothing = ⊥

-- the core has what belongs to it: the address that is held, and room for the rows
pub record IsKeptFor {S : Type 0} (core : ServerCore S) (ahead : Ahead) : Type 0 where
  pub held : core.held ≡ held_for ahead.lease
  pub rows : 1 + length ahead.file.iroutes ≤ core.routes.spare_rows

-- the same for all that may be prepared
abbrev pub IsKept : {S : Type 0} → ServerCore S → Prepared → Type 0
IsKept core (New ahead) = IsKeptFor core ahead
IsKept core (Again replies) = core.held ≡ None
IsKept core Nothing = core.held ≡ None

-- how many effects an outbox takes of it at most
abbrev pub prepared_effects : Prepared → ℕ
prepared_effects (New ahead) = 5 + effects_with ahead.file ahead.lease
prepared_effects (Again replies) = reply_effects replies
prepared_effects Nothing = 0

-- how many bytes
abbrev pub prepared_bytes : Prepared → ℕ
prepared_bytes (New ahead) = 39 + bytes_with ahead.file ahead.lease
prepared_bytes (Again replies) = reply_bytes replies
prepared_bytes Nothing = 0
