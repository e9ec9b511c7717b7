-- What a client does with a control packet is no refusal that comes before anything is done.
use Rattle.std.proofs.Common.{◌≡◌, ℕ, Bool, false, List, [], length, Option, Some, None, Result, Ok, Err, refl}
use Rattle.vpn_base.specs.declared.address.Addr.{Addr}
use Rattle.vpn_base.specs.declared.names.Draw.{Draw}
use Rattle.vpn_base.specs.declared.names.Place.{Place}
use Rattle.peer_table.specs.ControlPackets.{control_came}
use Rattle.peer_table.specs.Outboxes.{actions_of}
use Rattle.peer_table.specs.declared.outcomes.Refused.{Refused}
use Rattle.peer_table.specs.declared.outcomes.Refused.TheVariants.{BadKey, Replayed}
use Rattle.peer_table.specs.declared.outcomes.Turn.{Turn}
use Rattle.server_table.specs.ControlDatagrams.{ControlPacket, admitted, control_answered, control_for, control_place, incoming, opened_for, session_begun, to_client}
use Rattle.server_table.specs.Courses.{Course, acted, outs}
use Rattle.server_table.specs.Lookups.{client_here}
use Rattle.server_table.specs.Runs.{is_refusal}
use Rattle.server_table.specs.Table.{Client}
use Rattle.server_table.proofs.Early.{NoneEarly, no_refusal, none_append, none_begun, none_done, none_turned}

none_answered : (n : ℕ) (to : Option Place) (c : Course) (answer : Result Turn Refused) → NoneEarly c.effects → NoneEarly (control_answered n to c answer).effects
none_answered n to c (Ok turn) none = none_turned n turn _ none
none_answered n to c (Err (BadKey kid)) none = none_append c.effects _ none refl
none_answered n to c (Err (Replayed time id)) none = none_append c.effects _ none refl

-- a client that takes a packet, or refuses it, has it reported with no such note
none_to_client : (r : ControlPacket) (n : ℕ) (c : Course) → NoneEarly c.effects → NoneEarly (to_client r n c).effects
unfolding to_client
none_to_client r n c none = answer_by (client_here c.table n)
  where
    answer_by : (o : Option Client) → NoneEarly (control_for r n c o).effects
    answer_by None = none
    answer_by (Some x) =
        let o = control_came x.session (incoming r c x) in
        none_answered n (control_place (incoming r c x) x.session o.peer) (acted n x.address o c) o.answer
        (none_append c.effects (actions_of o.peer.role o.doings) none (none_done o.peer.role o.doings))

pub taking_is_no_refusal : (r : ControlPacket) (n : ℕ) (c : Course) → c.effects ≡ [] → is_refusal (outs (to_client r n c)) ≡ false
taking_is_no_refusal r n c fresh = no_refusal (to_client r n c) (none_to_client r n c (none_begun c fresh))

pub admitting_is_no_refusal : (from : Addr) (bytes : List ℕ) (lacks : Bool) (draw : Draw) (r : ControlPacket) (c : Course) → c.effects ≡ []
    → is_refusal (outs (admitted (record { from = from; bytes = bytes; lacks = lacks }) draw r c)) ≡ false
admitting_is_no_refusal from bytes lacks draw r c fresh =
    let o = session_begun c.table draw in
    no_refusal (admitted (record { from = from; bytes = bytes; lacks = lacks }) draw r c)
    (none_to_client r (length c.table.clients) (opened_for from c o)
    (none_append c.effects (actions_of o.peer.role o.doings) (none_begun c fresh) (none_done o.peer.role o.doings)))
