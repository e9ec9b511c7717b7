-- What time brings is no refusal that comes before anything is done.
use Rattle.std.proofs.Common.{◌≡◌, ℕ, zero, suc, Bool, true, false, List, [], ◌∷◌, length, Option, Some, None, Result, Ok, Err, refl}
use Rattle.packet_ids.specs.declared.sending.Spent.{Spent}
use Rattle.vpn_links.specs.declared.notes.Note.TheVariants.{KeySpent}
use Rattle.vpn_links.specs.Actions.{Report, Wire}
use Rattle.peer_table.specs.DataPackets as packets
use Rattle.peer_table.specs.Outboxes.{actions_of}
use Rattle.peer_table.specs.Peer.{Peer}
use Rattle.peer_table.specs.Time as time
use Rattle.server_table.specs.Courses.{Course, acted, outs}
use Rattle.server_table.specs.DataDatagrams.{ping}
use Rattle.server_table.specs.Endings.{turned}
use Rattle.server_table.specs.InnerPackets.{sealed_as, sealed_for, sealed_to}
use Rattle.server_table.specs.Lookups.{cid, client_here}
use Rattle.server_table.specs.Runs.{is_refusal}
use Rattle.server_table.specs.Table.{Client}
use Rattle.server_table.specs.Time.{client_ticked, clients_ticked, count_line_if, count_lines, counts_are_due, is_counted, ping_is_due, pinged, pinged_if, tick, tick_for, ticking_for, told_counts}
use Rattle.server_table.proofs.Early.{NoneEarly, no_refusal, none_append, none_begun, none_done, none_turned}

none_sealed : (n : ℕ) (inner : List ℕ) (c : Course) → NoneEarly c.effects → NoneEarly (sealed_to n inner c).effects
unfolding sealed_to
none_sealed n inner c none = by_client (client_here c.table n)
  where
    by_answer : (x : Client) (peer : Peer) (answer : Result (List ℕ) Spent) → NoneEarly (sealed_as n x c peer answer).effects
    by_answer x peer (Ok datagram) = none_append c.effects (Wire x.address datagram ∷ []) none refl
    by_answer x peer (Err spent) = none_append c.effects (Report (KeySpent (cid n)) ∷ []) none refl

    by_client : (o : Option Client) → NoneEarly (sealed_for n inner c o).effects
    by_client None = none
    by_client (Some x) = let o = packets.sealed_to inner x.session in by_answer x o.peer o.answer

none_pinged : (n : ℕ) (c : Course) (o : Option Client) → NoneEarly c.effects → NoneEarly (pinged n c o).effects
none_pinged n c None none = none
none_pinged n c (Some x) none = by_due (ping_is_due c.table.settings.keepalive c.table.moment x)
  where
    by_due : (due : Bool) → NoneEarly (pinged_if n c due).effects
    by_due true = none_sealed n ping c none
    by_due false = none

none_ticked : (n : ℕ) (c : Course) → NoneEarly c.effects → NoneEarly (client_ticked n c).effects
unfolding client_ticked
none_ticked n c none = by_client (client_here c.table n)
  where
    by_client : (o : Option Client) → NoneEarly (tick_for n c o).effects
    by_client None = none
    by_client (Some x) =
        let o = time.ticked (ticking_for c.table x) x.session in
        let d = turned n o.answer (acted n x.address o c) in
        none_pinged n d (client_here d.table n)
        (none_turned n o.answer (acted n x.address o c) (none_append c.effects (actions_of o.peer.role o.doings) none (none_done o.peer.role o.doings)))

none_all_ticked : (most n : ℕ) (c : Course) → NoneEarly c.effects → NoneEarly (clients_ticked most n c).effects
unfolding clients_ticked
none_all_ticked zero n c none = none
none_all_ticked (suc most) n c none = none_all_ticked most (suc n) (client_ticked n c) (none_ticked n c none)

none_lines : (n : ℕ) (clients : List Client) → NoneEarly (count_lines n clients)
none_lines n [] = refl
none_lines n (x ∷ clients) = by_counted (is_counted x) (none_lines (suc n) clients)
  where
    by_counted : (is : Bool) → NoneEarly (count_lines (suc n) clients) → NoneEarly (count_line_if n x (count_lines (suc n) clients) is)
    by_counted true none = none
    by_counted false none = none

pub time_is_no_refusal : (c : Course) → c.effects ≡ [] → is_refusal (outs (tick c)) ≡ false
unfolding tick
time_is_no_refusal c fresh =
    let d = clients_ticked (length c.table.clients) 0 c in
    let none = none_all_ticked (length c.table.clients) 0 c (none_begun c fresh) in
    no_refusal (told_counts d (counts_are_due d.table)) (by_due (counts_are_due d.table) d none)
  where
    by_due : (due : Bool) (d : Course) → NoneEarly d.effects → NoneEarly (told_counts d due).effects
    by_due true d none = none_append d.effects (count_lines 0 d.table.clients) none (none_lines 0 d.table.clients)
    by_due false d none = none
