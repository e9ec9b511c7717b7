-- Time that passes keeps what a course keeps.
use Rattle.std.proofs.Common.{◌≡◌, ℕ, zero, suc, Bool, true, false, List, [], ◌∷◌, length, Option, Some, None, not, ap, refl}
use Rattle.vpn_links.specs.Actions.{Action}
use Rattle.peer_table.specs.declared.outcomes.Turn.{Turn}
use Rattle.peer_table.specs.Orderly.{IsOrderly, IsOrderlyFrom}
use Rattle.peer_table.specs.Peer.{Outcome}
use Rattle.peer_table.specs.Time.{ticked}
use Rattle.server_table.specs.Table.{Client, Table}
use Rattle.server_table.specs.Lookups.{client_here}
use Rattle.server_table.specs.Courses.{Course, acted}
use Rattle.server_table.specs.Endings.{turned}
use Rattle.server_table.specs.DataDatagrams.{ping}
use Rattle.server_table.specs.Time.{client_ticked, clients_ticked, count_line_if, count_lines, counts_are_due, is_counted, ping_is_due, pinged, pinged_if, tick, tick_acted, tick_for, ticking_for, told_counts}
use Rattle.server_table.specs.internal.CallsKeepOrder.{CallsKeepOrder}
use Rattle.server_table.proofs.Kept.{Kept, done_kept, is_plain, orderly_from, plain_onward}
use Rattle.server_table.proofs.Keeps.{acted_kept}
use Rattle.server_table.proofs.KeptEndings.{turned_kept}
use Rattle.server_table.proofs.KeptPackets.{sealed_kept}

plain_line_if : (n : ℕ) (x : Client) (lines : List Action) (b : Bool) → is_plain lines ≡ true → is_plain (count_line_if n x lines b) ≡ true
plain_line_if n x lines true plain = ap not (plain_onward lines plain)
plain_line_if n x lines false plain = plain

plain_lines : (n : ℕ) (clients : List Client) → is_plain (count_lines n clients) ≡ true
plain_lines n [] = refl
plain_lines n (x ∷ clients) = plain_line_if n x (count_lines (suc n) clients) (is_counted x) (plain_lines (suc n) clients)

module _ (calls : CallsKeepOrder) {a : Table} {k : ℕ} where
  pinged_if_kept : (n : ℕ) (c : Course) (b : Bool) → Kept a k c → Kept a k (pinged_if n c b)
  pinged_if_kept n c true is = sealed_kept calls n ping c is
  pinged_if_kept n c false is = is

  pinged_kept : (n : ℕ) (c : Course) (x : Option Client) → Kept a k c → Kept a k (pinged n c x)
  pinged_kept n c None is = is
  pinged_kept n c (Some x) is = pinged_if_kept n c (ping_is_due c.table.settings.keepalive c.table.moment x) is

  tick_acted_kept : (n : ℕ) (x : Client) (c : Course) (o : Outcome Turn) → client_here c.table n ≡ Some x →
      (IsOrderly x.session.sessions → IsOrderlyFrom x.session.remote o.peer) → Kept a k c → Kept a k (tick_acted n x c o)
  tick_acted_kept n x c o here orderly is =
      let d = turned n o.answer (acted n x.address o c) in
      pinged_kept n d (client_here d.table n) (turned_kept calls n o.answer (acted n x.address o c) (acted_kept n x o c here orderly is))

  tick_for_kept : (n : ℕ) (c : Course) (x : Option Client) → client_here c.table n ≡ x → Kept a k c → Kept a k (tick_for n c x)
  tick_for_kept n c None here is = is
  tick_for_kept n c (Some x) here is =
      tick_acted_kept n x c (ticked (ticking_for c.table x) x.session) here
      (λ o. calls.tick x.session.remote (ticking_for c.table x) x.session (orderly_from x.session o)) is

  client_ticked_kept : (n : ℕ) (c : Course) → Kept a k c → Kept a k (client_ticked n c)
  unfolding client_ticked
  client_ticked_kept n c is = tick_for_kept n c (client_here c.table n) refl is

  clients_ticked_kept : (most n : ℕ) (c : Course) → Kept a k c → Kept a k (clients_ticked most n c)
  unfolding clients_ticked
  clients_ticked_kept zero n c is = is
  clients_ticked_kept (suc most) n c is = clients_ticked_kept most (suc n) (client_ticked n c) (client_ticked_kept n c is)

  told_counts_kept : (c : Course) (b : Bool) → Kept a k c → Kept a k (told_counts c b)
  told_counts_kept c false is = is
  told_counts_kept c true is = done_kept (count_lines 0 c.table.clients) (plain_lines 0 c.table.clients) is

  pub tick_kept : (c : Course) → Kept a k c → Kept a k (tick c)
  unfolding tick
  tick_kept c is =
      let d = clients_ticked (length c.table.clients) 0 c in
      told_counts_kept d (counts_are_due d.table) (clients_ticked_kept (length c.table.clients) 0 c is)
