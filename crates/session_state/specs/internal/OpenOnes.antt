-- What the open key sessions of a client come to, number by number.
use Rattle.std.specs.List.{list_any}
use Rattle.std.specs.Prelude.{ℕ, ◌+◌, ◌&&◌, max, Bool, false, List, [], ◌∷◌, ◌++◌, length, Option, Some, None, if◌then◌else◌}
use Rattle.peer_table.specs.KeySessions.{Session}
use Rattle.peer_table.specs.Exchange.{closing, has_message, is_nul, unread}
use Rattle.peer_table.specs.Peer.{Doing}

-- whether a message waits in a session that may be there
abbrev pub waits_in : Option Session → Bool
waits_in None = false
waits_in (Some s) = has_message s

-- whether a NUL stands in what was not read, where it is open
abbrev pub nul_in : Option Session → Bool
nul_in None = false
nul_in (Some s) = s.is_open && list_any is_nul (unread s)

-- how many bytes of it were not read, where it is open
abbrev pub unread_in : Option Session → ℕ
unread_in None = 0
unread_in (Some s) = if s.is_open then length (unread s) else 0

-- the first of these numbers at which a message waits
abbrev pub waiting_among : (ℕ → Option Session) → List ℕ → Option ℕ
waiting_among at [] = None
waiting_among at (n ∷ numbers) = if waits_in (at n) then Some n else waiting_among at numbers

-- the greatest number of unread bytes at one of these numbers
abbrev pub unread_among : (ℕ → Option Session) → List ℕ → ℕ
unread_among at [] = 0
unread_among at (n ∷ numbers) = max (unread_in (at n)) (unread_among at numbers)

-- how many unread bytes there are at these numbers together
abbrev pub unread_sum : (ℕ → Option Session) → List ℕ → ℕ
unread_sum at [] = 0
unread_sum at (n ∷ numbers) = unread_in (at n) + unread_sum at numbers

-- what closing the sessions of these numbers does to the outside
abbrev pub closings_among : (ℕ → Option Session) → List ℕ → List Doing
closings_among at [] = []
closings_among at (n ∷ numbers) = closing (at n) ++ closings_among at numbers
