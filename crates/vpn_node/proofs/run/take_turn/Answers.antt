use Rattle.std.proofs.Common.{◌+◌, refl}
use Rattle.vpn_node.proofs.Ends.{turn_broken, turn_whole}
use Rattle.vpn_node.proofs.run.take_turn.Goals as goal

pub returns-in-Some-clause-turned : goal.returns-in-Some-clause-turned
returns-in-Some-clause-turned g c = λ t stands.
    let m = g.M.Machine in
    let links = g.L.Links in
    turn_broken links.may_fail m.next m.effects m.may_lack (m.stands c.step_event-refused.new.machine)
    (links.stands c.args.links.now) (links.stands c.next.new.self) (links.stands c.give_all.new.links)
    t c.next.new.into c.step_event-refused.new.out c.step_event-refused.result c.args.tally.now
    (record { events = c.args.tally.now.events + 1; lost = c.give_all.new.lost; refused = c.saturating_add-tally.result })
    (links.faults c.next.new.self) (links.faults c.give_all.new.links) c.in-Some.outcome
    c.in_default.ensures.given (c.step_event-refused.ensures t stands) c.in-Some.ensures.gave refl c.saturating_add-tally.ensures c.in-Some.ensures.failed

pub returns-in-None-clause-turned : goal.returns-in-None-clause-turned
returns-in-None-clause-turned g c = λ t stands.
    let m = g.M.Machine in
    let links = g.L.Links in
    rw c.end_of.ensures
    (turn_whole links.may_fail m.next m.effects m.may_lack (m.stands c.step_event-refused.new.machine)
    (links.stands c.args.links.now) (links.stands c.next.new.self) (links.stands c.give_all.new.links)
    t c.next.new.into c.step_event-refused.new.out c.step_event-refused.result c.args.tally.now
    (record { events = c.args.tally.now.events + 1; lost = c.give_all.new.lost; refused = c.saturating_add-tally.result })
    c.look.result.stops
    c.in_default.ensures.given (c.step_event-refused.ensures t stands) c.in-None.ensures.gave refl c.saturating_add-tally.ensures c.look.ensures.stops)
