use Rattle.std.proofs.Common.{◌≡◌, ◌++◌, ◌∷◌, [], true, false, None, Some, refl}
use Rattle.std.specs.Prelude.{◌≢◌}
use Rattle.std.specs.List.{AllByRecursion}
use Rattle.vpn_links.specs.Steps.{Lack, LacksAll}
use Rattle.vpn_links.specs.declared.events.Kind.TheVariants.{DeviceIn}
use Rattle.server_table.specs.Runs.{MayLack, after_all}
use Rattle.server_table.specs.Table.{Table, table_begun}
use Rattle.server_laws.specs.HandedOn.{BringsNone, BringsOne, IsDealtWith, IsPingToOneHere, IsSentOn, carrying}
use Rattle.control_laws.specs.Brought.{IsTakenIn}
use Rattle.server_promise.specs.Promise.{course_lacking, lacks_host}
use Rattle.server_promise.proofs.Parts.{by_lack, lacks_at, lacks_front, never_lacks}
use Rattle.server_promise.proofs.promise.runs_keep_the_promise.Goals as goal

pub returns : goal.returns
returns c = λ settings key entries may.
    let t : Table = table_begun settings key in
    let go = c.packets_go_where_they_should.ensures in
    let device = c.packets_of_the_device_go_to_owners.ensures.dealt in
    let none = c.no_packet_is_lost.ensures in
    let others = c.other_events_hand_nothing_on.ensures in
    let lost = c.no_control_packet_is_lost.ensures in
    record {
      packets = record {
        handed_on = λ before rest entry from datagram is came.
            by_lack (λ (lack : Lack). BringsOne (after_all t before) entry.0 (course_lacking (after_all t before) entry.0 lack))
            (go settings key before false entry.0 from datagram came) (BringsNone refl refl) (go settings key before true entry.0 from datagram came) entry.1;
        first_time = λ before between rest first second n k id inner other is one two.
            c.ids_are_accepted_once.ensures settings key before between first second.0 n k id inner other
            (lacks_front t entries (before ++ first ∷ between) (second ∷ rest) is may) one two;
        in_order = c.packets_wait_in_order.ensures settings key entries;
        of_device = λ before rest entry inner is goes came.
            by_lack (λ (lack : Lack). MayLack (after_all t before) entry.0 lack → IsDealtWith (after_all t before) None inner (course_lacking (after_all t before) entry.0 lack))
            (λ lacks. device settings key before false entry.0 inner goes came) (λ lacks. absurd (never_lacks (after_all t before) entry.0 (DeviceIn inner) came refl lacks))
            (λ lacks. device settings key before true entry.0 inner goes came) entry.1 (lacks_at t entries before rest entry is may);
        at_ticks = λ before rest entry is came.
            by_lack (λ (lack : Lack). ((course_lacking (after_all t before) entry.0 lack).table.queue ≡ (after_all t before).queue)
            × AllByRecursion (IsPingToOneHere (course_lacking (after_all t before) entry.0 lack).table) (carrying (course_lacking (after_all t before) entry.0 lack).effects))
            ((others.ticks settings key before false entry.0 came).0, others.here settings key before false entry.0 came) (refl, tt)
            ((others.ticks settings key before true entry.0 came).0, others.here settings key before true entry.0 came) entry.1;
        at_others = λ before rest entry is quiet.
            by_lack (λ (lack : Lack). ((course_lacking (after_all t before) entry.0 lack).table.queue ≡ (after_all t before).queue)
            × (carrying (course_lacking (after_all t before) entry.0 lack).effects ≡ []))
            (others.quiet false (after_all t before) entry.0 quiet) (refl, refl) (others.quiet true (after_all t before) entry.0 quiet) entry.1;
        dealt_with = λ before rest entry n k id inner is accepts.
            by_lack (λ (lack : Lack). MayLack (after_all t before) entry.0 lack → IsDealtWith (after_all t before) (Some n) inner (course_lacking (after_all t before) entry.0 lack))
            (λ lacks. none.dealt settings key before false entry.0 n k id inner accepts)
            (λ lacks. absurd (none.memory (after_all t before) entry.0 accepts.from accepts.datagram accepts.accepted.form accepts.comes accepts.accepted.is_data lacks))
            (λ lacks. none.dealt settings key before true entry.0 n k id inner accepts) entry.1 (lacks_at t entries before rest entry is may);
        sent_on = λ before rest entry n k id inner is accepts no_ping forward.
            by_lack (λ (lack : Lack). MayLack (after_all t before) entry.0 lack → IsSentOn (after_all t before) n inner (course_lacking (after_all t before) entry.0 lack))
            (λ lacks. none.passed settings key before false entry.0 n k id inner accepts no_ping forward)
            (λ lacks. absurd (none.memory (after_all t before) entry.0 accepts.from accepts.datagram accepts.accepted.form accepts.comes accepts.accepted.is_data lacks))
            (λ lacks. none.passed settings key before true entry.0 n k id inner accepts no_ping forward) entry.1 (lacks_at t entries before rest entry is may);
        owned = λ before n inner found is. none.owned (after_all t before) n inner found is;
      };
      texts = record {
        in_order = λ n k s there. c.control_text_is_put_in_order.ensures.read settings key entries n k s there;
        apart = λ n k m j s r there also same. c.connections_are_never_shared.ensures.apart settings key entries n k m j s r there also same;
        brought = λ n k s there. c.control_text_was_brought.ensures.brought settings key entries n k s there;
        none_lost = λ before rest entry r n k is whole meets.
            by_lack (λ (lack : Lack). (lack ≢ LacksAll) → IsTakenIn (lacks_host lack) (after_all t before) entry.0 r n k)
            (λ _. lost settings key before false entry.0 r n k meets) (λ never. absurd (never refl)) (λ _. lost settings key before true entry.0 r n k meets) entry.1 whole;
      };
    }
