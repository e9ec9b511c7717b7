-- What follows an answer of the engine.
use Rattle.std.specs.Prelude.{◌≤◌, ℕ, ◌+◌, Option, Some, None}
use Rattle.vpn_base.specs.declared.names.Cipher.{Cipher}
use Rattle.peer_table.specs.declared.outcomes.Turn.{Turn}
use Rattle.peer_table.specs.declared.outcomes.Turn.TheVariants as turns
use Rattle.peer_table.specs.Exchange.{all_unread, cipher_of}
use Rattle.server_table.specs.Courses.{Course}
use Rattle.server_table.specs.Table.{Client}
use Rattle.server_engine.specs.Rests.{NameFitsFor}
use Rattle.server_establishing.specs.declared.asking.Prepared.{Prepared}
use Rattle.server_establishing.specs.Prepared.{IsPrepared, prepared_bytes, prepared_effects}
use Rattle.server_answers.specs.Rooms.{messages_bytes, messages_effects}

-- this holds, where there are keys
abbrev pub IfKeyed : Option Cipher → Type 0 → Type 0
IfKeyed None holds = Unit {0}
IfKeyed (Some cipher) holds = holds

-- what has to be prepared for a client, by what is to be done
abbrev pub IsPreparedFor : Turn → Course → ℕ → Client → Prepared → Type 0
IsPreparedFor turns.Going c n x p = IfKeyed (cipher_of x.session) (IsPrepared c n x p)
IsPreparedFor turns.Exchange c n x p = IsPrepared c n x p
IsPreparedFor turn c n x p = Unit {0}

-- all that the client needs for it
pub record MayFollow (turn : Turn) (c : Course) (n : ℕ) (x : Client) (p : Prepared) (left longest : ℕ) : Type 0 where
  pub prepared : IsPreparedFor turn c n x p
  pub unread : all_unread x.session.sessions ≤ left
  pub name : NameFitsFor longest x.session turn

-- how many effects a key exchange takes, with what follows it
abbrev pub exchange_effects : Prepared → ℕ → ℕ
exchange_effects p left = 7 + (prepared_effects p + messages_effects p left)

-- how many bytes
abbrev pub exchange_bytes : Prepared → ℕ → ℕ
exchange_bytes p left = 132 + (prepared_bytes p + messages_bytes p left)

-- how many effects all that may follow takes: the question for a file, the exchange, and an ending
abbrev pub follow_effects : Prepared → ℕ → ℕ
follow_effects p left = 6 + exchange_effects p left

-- how many bytes
abbrev pub follow_bytes : Prepared → ℕ → ℕ → ℕ
follow_bytes p left longest = longest + 39 + exchange_bytes p left
