-- Time passes: for each client in order, and for the byte counts.
use Rattle.std.specs.Prelude.{ℕ, zero, suc, ◌*◌, ◌==◌, ◌&&◌, not, is_some, Bool, true, false, List, [], ◌∷◌, ◌++◌, length, codes, Option, Some, None}
use Rattle.std.specs.Fmt.{decimal}
use Rattle.vpn_links.specs.Actions.{Action, Say}
use Rattle.peer_table.specs.declared.outcomes.Turn.{Turn}
use Rattle.peer_table.specs.KeySessions.{has_passed}
use Rattle.peer_table.specs.Peer.{Outcome}
use Rattle.peer_table.specs.Time.{Ticking, ticked, ticking}
use Rattle.server_table.specs.Table.{Client, Table}
use Rattle.server_table.specs.Lookups.{client_here}
use Rattle.server_table.specs.Courses.{Course, acted, did_all}
use Rattle.server_table.specs.Endings.{turned}
use Rattle.server_table.specs.InnerPackets.{sealed_to}
use Rattle.server_table.specs.DataDatagrams.{ping}

-- ---- one client

-- with `keepalive`, a client is idle of which nothing fresh has come for twice the restart time
abbrev pub is_idle : Option (ℕ × ℕ) → ℕ → Client → Bool
is_idle None now x = false
is_idle (Some times) now x = has_passed (2 * times.1) x.heard now

-- with `keepalive`, a ping is due to an established client to which nothing was sealed for so long
abbrev pub ping_is_due : Option (ℕ × ℕ) → ℕ → Client → Bool
ping_is_due None now x = false
ping_is_due (Some times) now x = is_some x.established && has_passed times.0 x.sealed_at now

-- a ping is sealed
abbrev pub pinged_if : ℕ → Course → Bool → Course
pinged_if n c true = sealed_to n ping c
pinged_if n c false = c

-- the same for the client as it is now
abbrev pub pinged : ℕ → Course → Option Client → Course
pinged n c None = c
pinged n c (Some x) = pinged_if n c (ping_is_due c.table.settings.keepalive c.table.moment x)

-- the moment as it comes to a client
abbrev pub ticking_for : Table → Client → Ticking
ticking_for t x =
    ticking t.moment (record { 0 = t.connections }) (is_some x.established) (is_idle t.settings.keepalive t.moment x)

-- once its session has answered, which may end it, it may be due a ping
abbrev pub then_pinged : ℕ → Course → Course
then_pinged n c = pinged n c (client_here c.table n)

-- its session has answered
abbrev pub tick_acted : ℕ → Client → Course → Outcome Turn → Course
tick_acted n x c o = then_pinged n (turned n o.answer (acted n x.address o c))

-- a client that is here
abbrev pub tick_for : ℕ → Course → Option Client → Course
tick_for n c None = c
tick_for n c (Some x) = tick_acted n x c (ticked (ticking_for c.table x) x.session)

-- time has passed for the client of this number
unfoldable pub client_ticked : ℕ → Course → Course
client_ticked n c = tick_for n c (client_here c.table n)

-- the same for so many clients from this number on
unfoldable pub clients_ticked : ℕ → ℕ → Course → Course
clients_ticked zero n c = c
clients_ticked (suc most) n c = clients_ticked most (suc n) (client_ticked n c)

-- ---- byte counts (OpenVPN 2.6, doc/management-notes.txt, bytecount)

-- the line of a client
abbrev pub count_line : ℕ → Client → Action
count_line n x =
    Say (codes ">BYTECOUNT_CLI:" ++ decimal n ++ codes "," ++ decimal x.bytes_in ++ codes "," ++ decimal x.bytes_out)

-- whether a client is counted: it is here and established
abbrev pub is_counted : Client → Bool
is_counted x = x.is_here && is_some x.established

-- a line for a client that is counted, before those of others
abbrev pub count_line_if : ℕ → Client → List Action → Bool → List Action
count_line_if n x lines true = count_line n x ∷ lines
count_line_if n x lines false = lines

-- the lines of all clients from this number on, in order
abbrev pub count_lines : ℕ → List Client → List Action
count_lines n [] = []
count_lines n (x ∷ clients) = count_line_if n x (count_lines (suc n) clients) (is_counted x)

-- whether they are due
abbrev pub counts_are_due : Table → Bool
counts_are_due t = not (t.count_interval == 0) && has_passed t.count_interval t.counted_at t.moment

-- they are told, and the interval begins anew
abbrev pub told_counts : Course → Bool → Course
told_counts c false = c
told_counts c true = did_all (count_lines 0 c.table.clients) (record c { table = record c.table { counted_at = c.table.moment } })

-- the same for the table as it is now
abbrev pub told_byte_counts : Course → Course
told_byte_counts c = told_counts c (counts_are_due c.table)

-- time has passed: for each client in order of number, and then for the byte counts
unfoldable pub tick : Course → Course
tick c = told_byte_counts (clients_ticked (length c.table.clients) 0 c)
