use Rattle.std.proofs.Common.{◌∙◌, refl, arith, None}
use Rattle.vpn_node.proofs.Ends.{course_begun, course_on, run_ended}
use Rattle.vpn_node.proofs.run.run_turns.Goals as goal

pub loop-tally-init : goal.loop-tally-init
loop-tally-init g c =
    let m = g.M.Machine in
    record {
      within = omega arith;
      going = λ t stands. course_begun g.L.Links.may_fail m.next m.effects m.may_lack (m.stands c.args.machine.now) (g.L.Links.stands c.args.links.now None) t stands;
      never_falls = λ k. omega arith;
      started = refl;
      origin = refl;
    }

pub loop-tally-preserved : goal.loop-tally-preserved
loop-tally-preserved g c =
    let m = g.M.Machine in
    let links = g.L.Links in
    record {
      within = omega (arith, c.loop-tally-test.true, c.in_default.ensures.further);
      going = λ t stands.
          let going = c.loop-tally.invariant.going t stands in
          course_on links.may_fail m.next m.effects m.may_lack (m.stands c.loop-tally.machine) (m.stands c.take_turn.new.machine)
          (links.stands c.args.links.now None) (links.stands c.loop-tally.links None) (links.stands c.take_turn.new.links None) t c.loop-tally.tally c.take_turn.new.tally
          going (c.in_default.ensures.turned _ going.course.stands);
      never_falls = λ k. omega (arith, c.loop-tally.invariant.never_falls k, c.in_default.ensures.never_falls k);
      started = c.in_default.ensures.started ∙ c.loop-tally.invariant.started;
      origin = c.in_default.ensures.origin ∙ c.loop-tally.invariant.origin;
    }

pub returns-in-Some-clause-run : goal.returns-in-Some-clause-run
returns-in-Some-clause-run g c = λ t stands.
    let m = g.M.Machine in
    let links = g.L.Links in
    let going = c.loop-tally.invariant.going t stands in
    run_ended links.may_fail m.next m.effects m.may_lack (m.stands c.loop-tally.machine) (m.stands c.take_turn.new.machine)
    (links.stands c.args.links.now) (links.stands c.loop-tally.links) (links.stands c.take_turn.new.links) t c.args.turns c.loop-tally.tally c.take_turn.new.tally
    c.in-Some.outcome c.ran.result c.ran.ensures c.loop-tally-test.true going (c.in-Some.ensures.turned _ going.course.stands)
