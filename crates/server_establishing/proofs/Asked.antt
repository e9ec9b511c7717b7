-- A client asks for its options.
use Rattle.std.proofs.Common.{◌≡◌, ◌≤◌, ℕ, ◌+◌, ◌&&◌, Bool, true, false, Option, Some, None, refl, ap, ◌∙◌, arith}
use Rattle.std.specs.Prelude.{is_none}
use Rattle.vpn_base.specs.declared.names.Conn.{Conn}
use Rattle.server_table.specs.Courses.{Course}
use Rattle.server_table.specs.Exchange.{established_as_asked, established_if, established_on}
use Rattle.server_table.specs.Table.{Client, Established}
use Rattle.ccd_files.specs.declared.client_file.Ccd.{Ccd}
use Rattle.server_texts.specs.Replies.{Replies, reply_bytes, reply_effects}
use Rattle.server_texts.specs.Told.{lines_bytes, lines_effects}
use Rattle.server_establishing.specs.declared.ahead.LeaseAhead.{LeaseAhead}
use Rattle.server_establishing.specs.Ahead.{IsEstablishedWith, bytes_with, effects_with, replies_in}
use Rattle.server_establishing.specs.internal.Asking.{asked_on, prepared_after}
use Rattle.server_establishing.specs.Prepared.{IsPrepared, prepared_bytes, prepared_effects}

-- what follows the establishing
pub prepared_is : (c : Course) (n : ℕ) (y : Client) (o : Option Replies) → IsEstablishedWith c.table y o → IsPrepared c n y (prepared_after o)
prepared_is c n y None h = h.again
prepared_is c n y (Some replies) h = h

asked_step : (n : ℕ) (c : Course) (x : Client) (o : Option Conn) (b e : Bool) → e ≡ true → asked_on x.session b ≡ o → established_if n c x (b && e) ≡ established_on n c o
asked_step n c x o true e is asked = ap (established_if n c x) is ∙ ap (established_on n c) asked
asked_step n c x o false e is asked = ap (established_on n c) asked

-- a client that is not established
pub as_asked : (n : ℕ) (c : Course) (x : Client) (o : Option Conn) → x.established ≡ None → asked_on x.session x.session.asks_push ≡ o
    → established_as_asked n c (Some x) ≡ established_on n c o
as_asked n c x o none asked = asked_step n c x o x.session.asks_push (is_none x.established) (ap is_none none) asked

not_step : (n : ℕ) (c : Course) (x : Client) (b e : Bool) → e ≡ false → established_if n c x (b && e) ≡ c
not_step n c x true e is = ap (established_if n c x) is
not_step n c x false e is = refl

-- one that is
pub not_asked : (n : ℕ) (c : Course) (x : Client) (when : Established) → x.established ≡ Some when → established_as_asked n c (Some x) ≡ c
not_asked n c x when is = not_step n c x x.session.asks_push (is_none x.established) (ap is_none is)

-- ---- how much room it takes

part_of : (n a b : ℕ) → a ≤ n + (a + b)
part_of n a b = omega arith

-- the reply alone takes no more than the establishing with it
pub room_after : (file : Ccd) (lease : Option LeaseAhead)
    → (prepared_effects (prepared_after (replies_in lease)) ≤ 5 + effects_with file lease) × (prepared_bytes (prepared_after (replies_in lease)) ≤ 39 + bytes_with file lease)
room_after file None = (omega arith, omega arith)
room_after file (Some l) =
    (part_of 5 (reply_effects l.replies) (lines_effects file), part_of 39 (reply_bytes l.replies) (lines_bytes file))
