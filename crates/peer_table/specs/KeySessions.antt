-- The key sessions of one client, numbered from 0 in the order in which they began: none is ever taken out. Which of
-- them are live, and which are usable.
use Rattle.std.specs.Prelude.{ℕ, zero, suc, ◌+◌, ◌-◌, ◌*◌, ◌%◌, nat_le, not, ◌==◌, Bool, true, false, List, [], ◌∷◌, length, take, Option, Some, None, slice_get}
use Rattle.std.specs.List.{find}
use Rattle.vpn_base.specs.declared.names.Cipher.{Cipher}
use Rattle.vpn_base.specs.declared.names.Conn.{Conn}
use Rattle.vpn_base.specs.declared.names.Timers.{Timers}
use Rattle.opcode_codec.specs.declared.opcodes.Opcode.{Opcode}
use Rattle.packet_ids.specs.Freshness.{History, begun}
use Rattle.control_link.specs.Links.{Link, link_begun}
use Rattle.peer_table.specs.Places.{last_place, places_from}

-- the keys of a session: the block of 256 bytes that they are cut from, the cipher that they are for, and the peer id that stands in
-- what is sealed under them
pub record Keys : Type 0 where
  pub block : List ℕ
  pub cipher : Cipher
  pub peer_id : ℕ

-- how far the negotiation of a key session has come: it began, the other end's name is known, it has keys
pub data Stage : Type 0 where
  Opening : Stage
  Named : Stage
  Keyed : Keys → Stage

-- One key session: its control link with everything that was sent and taken on it, the moment in milliseconds at which it began,
-- whether it is open, all plain text of the other end that came and how many bytes of it were read, its stage, every
-- data packet id that was accepted under its keys, and the last one that was sealed under them. A session that was closed
-- stays as it was then.
pub record Session : Type 0 where
  pub link : Link
  pub began : ℕ
  pub is_open : Bool
  pub plain : List ℕ
  pub read : ℕ
  pub stage : Stage
  pub received : History
  pub sealed : ℕ

-- the key id of a session's number: 0, then 1 to 7 over and over
abbrev pub kid_of : ℕ → ℕ
kid_of zero = 0
kid_of (suc n) = 1 + n % 7

-- a session of this number that begins now, on this connection and by this reset
abbrev pub session_begun : Timers → Conn → ℕ → Opcode → ℕ → Session
session_begun timers conn number first now = record {
  link = link_begun conn (kid_of number) first timers.timeout;
  began = now;
  is_open = true;
  plain = [];
  read = 0;
  stage = Opening;
  received = begun timers.win timers.win_secs;
  sealed = 0;
}

-- the keys of a stage, if it has them
abbrev pub keys_of : Stage → Option Keys
keys_of Opening = None
keys_of Named = None
keys_of (Keyed keys) = Some keys

-- whether it has keys
abbrev pub is_keyed : Stage → Bool
is_keyed Opening = false
is_keyed Named = false
is_keyed (Keyed keys) = true

-- whether a session has keys, be it open or closed
abbrev pub has_keys : Session → Bool
has_keys s = is_keyed s.stage

-- the session of a number, if there is one
abbrev pub session_at : List Session → Option ℕ → Option Session
session_at sessions None = None
session_at sessions (Some n) = slice_get sessions n

-- the number of the newest session
abbrev pub newest : List Session → ℕ
newest sessions = length sessions - 1

-- the newest session
abbrev pub newest_session : List Session → Option Session
newest_session sessions = slice_get sessions (newest sessions)

-- whether a session is open
abbrev pub is_open : Session → Bool
is_open s = s.is_open

-- the numbers of the open sessions, in order
abbrev pub open_numbers : List Session → List ℕ
open_numbers sessions = places_from is_open 0 sessions

-- a session that is closed keeps what it had
abbrev pub closed : Session → Session
closed s = record s { is_open = false }

-- ---- which keys may be used

-- the last session that has keys: it seals
unfoldable pub newest_usable : List Session → Option ℕ
newest_usable sessions = last_place has_keys sessions

-- of the sessions before this one the last that has keys
abbrev pub keyed_before : List Session → Option ℕ → Option ℕ
keyed_before sessions None = None
keyed_before sessions (Some n) = last_place has_keys (take n sessions)

-- the one before the last among those that have or had keys
unfoldable pub retiring : List Session → Option ℕ
retiring sessions = keyed_before sessions (newest_usable sessions)

-- whether so many seconds have passed since a moment
abbrev pub has_passed : ℕ → ℕ → ℕ → Bool
has_passed seconds since now = nat_le (since + 1000 * seconds) now

-- whether so many seconds have passed since a session began
abbrev pub began_before : ℕ → ℕ → Option Session → Bool
began_before seconds now None = false
began_before seconds now (Some s) = has_passed seconds s.began now

-- whether the one before the last with keys may still be used: the last one began less than the transition window ago
unfoldable pub in_transition : Timers → ℕ → List Session → Bool
in_transition timers now sessions = not (began_before timers.tran now (session_at sessions (newest_usable sessions)))

-- the last with keys, and the one before it where it may still be used
abbrev pub usable_of : Option ℕ → Option ℕ → Bool → List ℕ
usable_of None older still = []
usable_of (Some last) (Some older) true = last ∷ older ∷ []
usable_of (Some last) older still = last ∷ []

-- the usable sessions, the newest first
unfoldable pub usable : Timers → ℕ → List Session → List ℕ
usable timers now sessions = usable_of (newest_usable sessions) (retiring sessions) (in_transition timers now sessions)

-- the first of these sessions that has this key id
abbrev pub with_kid : ℕ → List ℕ → Option ℕ
with_kid kid numbers = find (λ n. kid_of n == kid) numbers

-- the usable session with this key id: data packets go to it
unfoldable pub usable_with : Timers → ℕ → List Session → ℕ → Option ℕ
usable_with timers now sessions kid = with_kid kid (usable timers now sessions)

-- the live session with this key id, the newest one or a usable one: control packets go to it
unfoldable pub live_with : Timers → ℕ → List Session → ℕ → Option ℕ
live_with timers now sessions kid = with_kid kid (newest sessions ∷ usable timers now sessions)
