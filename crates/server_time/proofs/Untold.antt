-- Nothing is told of bytes where no interval is set.
use Rattle.std.proofs.Common.{◌≡◌, ℕ, zero, suc, ◌==◌, not, ◌&&◌, Bool, true, false, List, length, Option, None, Some, Result, Ok, Err, refl, ap, ◌∙◌}
use Rattle.vpn_base.specs.declared.names.Cause.{Cause}
use Rattle.packet_ids.specs.declared.sending.Spent.{Spent}
use Rattle.peer_table.specs.declared.outcomes.Turn.{Turn}
use Rattle.peer_table.specs.declared.outcomes.Turn.TheVariants.{Exchange, Going, Ignored, Named, Over}
use Rattle.peer_table.specs.DataPackets as packets
use Rattle.peer_table.specs.KeySessions.{has_passed}
use Rattle.peer_table.specs.Peer.{Outcome, Peer}
use Rattle.peer_table.specs.Time.{ticked}
use Rattle.server_table.specs.Courses.{Course, acted}
use Rattle.server_table.specs.DataDatagrams.{ping}
use Rattle.server_table.specs.Endings.{ended, ended_as, turned}
use Rattle.server_table.specs.InnerPackets.{sealed_as, sealed_for, sealed_to}
use Rattle.server_table.specs.Lookups.{client_here}
use Rattle.server_table.specs.Table.{Client}
use Rattle.server_table.specs.Time.{client_ticked, clients_ticked, ping_is_due, pinged, pinged_if, then_pinged, tick, tick_for, ticking_for, told_counts}

abbrev interval : Course → ℕ
interval c = c.table.count_interval

as_keeps : (n : ℕ) (x : Client) (c : Course) (p : Peer) (a : Result (List ℕ) Spent) → interval (sealed_as n x c p a) ≡ interval c
as_keeps n x c p (Ok datagram) = refl
as_keeps n x c p (Err spent) = refl

for_keeps : (n : ℕ) (inner : List ℕ) (c : Course) (o : Option Client) → interval (sealed_for n inner c o) ≡ interval c
for_keeps n inner c None = refl
for_keeps n inner c (Some x) = as_keeps n x c (packets.sealed_to inner x.session).peer (packets.sealed_to inner x.session).answer

sealed_keeps : (n : ℕ) (inner : List ℕ) (c : Course) → interval (sealed_to n inner c) ≡ interval c
unfolding sealed_to
sealed_keeps n inner c = for_keeps n inner c (client_here c.table n)

if_keeps : (n : ℕ) (c : Course) (b : Bool) → interval (pinged_if n c b) ≡ interval c
if_keeps n c true = sealed_keeps n ping c
if_keeps n c false = refl

pinged_keeps : (n : ℕ) (c : Course) (o : Option Client) → interval (pinged n c o) ≡ interval c
pinged_keeps n c None = refl
pinged_keeps n c (Some x) = if_keeps n c (ping_is_due c.table.settings.keepalive c.table.moment x)

ended_as_keeps : (n : ℕ) (cause : Cause) (c : Course) (o : Option Client) → interval (ended_as n cause c o) ≡ interval c
ended_as_keeps n cause c None = refl
ended_as_keeps n cause c (Some x) = refl

ended_keeps : (n : ℕ) (cause : Cause) (c : Course) → interval (ended n cause c) ≡ interval c
unfolding ended
ended_keeps n cause c = ended_as_keeps n cause c (client_here c.table n)

turned_keeps : (n : ℕ) (turn : Turn) (c : Course) → interval (turned n turn c) ≡ interval c
turned_keeps n Going c = refl
turned_keeps n Ignored c = refl
turned_keeps n Named c = refl
turned_keeps n Exchange c = refl
turned_keeps n (Over cause) c = ended_keeps n cause c

acted_keeps : (n : ℕ) (x : Client) (c : Course) (o : Outcome Turn) → interval (then_pinged n (turned n o.answer (acted n x.address o c))) ≡ interval c
acted_keeps n x c o =
    let after = turned n o.answer (acted n x.address o c) in
    pinged_keeps n after (client_here after.table n) ∙ turned_keeps n o.answer (acted n x.address o c)

tick_for_keeps : (n : ℕ) (c : Course) (o : Option Client) → interval (tick_for n c o) ≡ interval c
tick_for_keeps n c None = refl
tick_for_keeps n c (Some x) = acted_keeps n x c (ticked (ticking_for c.table x) x.session)

client_keeps : (n : ℕ) (c : Course) → interval (client_ticked n c) ≡ interval c
unfolding client_ticked
client_keeps n c = tick_for_keeps n c (client_here c.table n)

clients_keep : (most n : ℕ) (c : Course) → interval (clients_ticked most n c) ≡ interval c
unfolding clients_ticked
clients_keep zero n c = refl
clients_keep (suc most) n c = clients_keep most (suc n) (client_ticked n c) ∙ client_keeps n c

never_due : (c : Course) (n : ℕ) → n ≡ 0 → told_counts c (not (n == 0) && has_passed n c.table.counted_at c.table.moment) ≡ c
never_due c n none = ap (λ (n : ℕ). told_counts c (not (n == 0) && has_passed n c.table.counted_at c.table.moment)) none

pub untold : (c : Course) → c.table.count_interval ≡ 0 → tick c ≡ clients_ticked (length c.table.clients) 0 c
unfolding tick
untold c none =
    let after = clients_ticked (length c.table.clients) 0 c in
    never_due after after.table.count_interval (clients_keep (length c.table.clients) 0 c ∙ none)
