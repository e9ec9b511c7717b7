-- Time passes: a session that begins has a line of its own, and all other lines are left.
use Rattle.std.proofs.Common.{◌≡◌, ℕ, zero, suc, Bool, true, false, List, [], ◌∷◌, length, Option, Some, None, refl}
use Rattle.vpn_links.specs.Actions.{Action}
use Rattle.reliable_recv.specs.Receiving.{Arrival, begun}
use Rattle.control_link.specs.Reading.{IsReadUp}
use Rattle.peer_table.specs.declared.outcomes.Turn.{Turn}
use Rattle.peer_table.specs.Peer.{Outcome}
use Rattle.peer_table.specs.Time.{ticked}
use Rattle.server_table.specs.Table.{Client}
use Rattle.server_table.specs.Lookups.{client_here}
use Rattle.server_table.specs.Courses.{Course, acted}
use Rattle.server_table.specs.Endings.{turned}
use Rattle.server_table.specs.DataDatagrams.{ping}
use Rattle.server_table.specs.Time.{client_ticked, clients_ticked, count_line_if, count_lines, counts_are_due, is_counted, ping_is_due, pinged, pinged_if, tick, tick_acted, tick_for, ticking_for, told_counts}
use Rattle.control_laws.proofs.Actions.{are_quiet}
use Rattle.control_laws.proofs.Calls.{Renews, Rests, Ticked, tick_ticked}
use Rattle.control_laws.proofs.Kept.{Before, Kept, quiet_kept}
use Rattle.control_laws.proofs.Keeps.{begins_acted, quiet_acted}
use Rattle.control_laws.proofs.KeptEndings.{turned_kept}
use Rattle.control_laws.proofs.KeptPackets.{sealed_kept}

line_if_quiet : (n : ℕ) (x : Client) (lines : List Action) (b : Bool) → are_quiet lines ≡ true → are_quiet (count_line_if n x lines b) ≡ true
line_if_quiet n x lines true quiet = quiet
line_if_quiet n x lines false quiet = quiet

lines_quiet : (n : ℕ) (clients : List Client) → are_quiet (count_lines n clients) ≡ true
lines_quiet n [] = refl
lines_quiet n (x ∷ clients) = line_if_quiet n x (count_lines (suc n) clients) (is_counted x) (lines_quiet (suc n) clients)

module _ (up : IsReadUp begun) {brought : ℕ → ℕ → Arrival → Type 0} {base : Before} where
  pinged_if_kept : (n : ℕ) (c : Course) (b : Bool) → Kept brought base c → Kept brought base (pinged_if n c b)
  pinged_if_kept n c true is = sealed_kept n ping c is
  pinged_if_kept n c false is = is

  pinged_kept : (n : ℕ) (c : Course) (x : Option Client) → Kept brought base c → Kept brought base (pinged n c x)
  pinged_kept n c None is = is
  pinged_kept n c (Some x) is = pinged_if_kept n c (ping_is_due c.table.settings.keepalive c.table.moment x) is

  ticked_acted : (n : ℕ) (x : Client) (c : Course) (o : Outcome Turn) → client_here c.table n ≡ Some x →
      Ticked x.session (record { 0 = c.table.connections }) o → Kept brought base c → Kept brought base (acted n x.address o c)
  ticked_acted n x c o here (Rests quiet) is = quiet_acted n x o c here quiet is
  ticked_acted n x c o here (Renews begins) is = begins_acted n x o c (record { 0 = c.table.connections }) up refl here begins is

  tick_acted_kept : (n : ℕ) (x : Client) (c : Course) (o : Outcome Turn) → client_here c.table n ≡ Some x →
      Ticked x.session (record { 0 = c.table.connections }) o → Kept brought base c → Kept brought base (tick_acted n x c o)
  tick_acted_kept n x c o here goes is =
      let d = turned n o.answer (acted n x.address o c) in
      pinged_kept n d (client_here d.table n) (turned_kept n o.answer (acted n x.address o c) (ticked_acted n x c o here goes is))

  tick_for_kept : (n : ℕ) (c : Course) (x : Option Client) → client_here c.table n ≡ x → Kept brought base c → Kept brought base (tick_for n c x)
  tick_for_kept n c None here is = is
  tick_for_kept n c (Some x) here is =
      tick_acted_kept n x c (ticked (ticking_for c.table x) x.session) here (tick_ticked (ticking_for c.table x) x.session) is

  client_ticked_kept : (n : ℕ) (c : Course) → Kept brought base c → Kept brought base (client_ticked n c)
  unfolding client_ticked
  client_ticked_kept n c is = tick_for_kept n c (client_here c.table n) refl is

  clients_ticked_kept : (most n : ℕ) (c : Course) → Kept brought base c → Kept brought base (clients_ticked most n c)
  unfolding clients_ticked
  clients_ticked_kept zero n c is = is
  clients_ticked_kept (suc most) n c is = clients_ticked_kept most (suc n) (client_ticked n c) (client_ticked_kept n c is)

  told_counts_kept : (c : Course) (b : Bool) → Kept brought base c → Kept brought base (told_counts c b)
  told_counts_kept c false is = is
  told_counts_kept c true is = quiet_kept (count_lines 0 c.table.clients) (lines_quiet 0 c.table.clients) is

  pub tick_kept : (c : Course) → Kept brought base c → Kept brought base (tick c)
  unfolding tick
  tick_kept c is =
      let d = clients_ticked (length c.table.clients) 0 c in
      told_counts_kept d (counts_are_due d.table) (clients_ticked_kept (length c.table.clients) 0 c is)
