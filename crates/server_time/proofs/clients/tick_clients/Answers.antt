use Rattle.std.proofs.Common.{◌≤◌, length, arith, subst, ◌∙◌}
use Rattle.server_state.specs.Core.{CourseStands}
use Rattle.server_time.specs.internal.Walks.{PassesTo, next_ticked}
use Rattle.server_time.proofs.Others.{rest_on}
use Rattle.server_time.proofs.Walk.{comes_on, has_ended}
use Rattle.server_time.proofs.clients.tick_clients.Goals as goal

pub loop-cid-preserved : goal.loop-cid-preserved
loop-cid-preserved g c =
    let core = c.loop-cid.core in
    let after = c.tick_next.new.core in
    record {
      ready = c.in-Some.ensures.ready;
      come = λ before course h.
          comes_on g.S.ClientSession.stands before core after c.loop-cid.out c.tick_next.new.out c.loop-cid.from.0 c.in-Some.cid.0 course
          (c.loop-cid.invariant.come before course h) c.in-Some.ensures.later (λ course h. c.in-Some.ensures.ticked before course h)
          (λ course h. c.in-Some.ensures.passes before course h);
      within = omega (arith, c.in-Some.ensures.admitted, c.tick_next.ensures.admitted_stays);
      admitted = c.tick_next.ensures.admitted_stays ∙ c.loop-cid.invariant.admitted;
      rest = rest_on c.args.core.now core after c.loop-cid.invariant.rest c.tick_next.ensures.rest;
    }

pub returns-clause-ticked : goal.returns-clause-ticked
returns-clause-ticked g c before course h =
    let core = c.loop-cid.core in
    let after = c.tick_next.new.core in
    let within : c.loop-cid.from.0 ≤ length course.table.clients = omega (arith, c.loop-cid.invariant.within, c.loop-cid.invariant.admitted, h.table.admitted) in
    has_ended g.S.ClientSession.stands before core after c.loop-cid.out c.tick_next.new.out c.loop-cid.from.0 course (c.loop-cid.invariant.come before course h) within
    (λ course h. subst (λ o. CourseStands g.S.ClientSession.stands before after c.tick_next.new.out (next_ticked o course)) c.in_default.is (c.tick_next.ensures.ticked before course h))
    (λ course h. subst (λ o. PassesTo c.loop-cid.from.0 o course) c.in_default.is (c.tick_next.ensures.passes before course h))
