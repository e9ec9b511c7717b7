use Rattle.std.proofs.Common.{sym, ◌∙◌}
use Rattle.server_engine.proofs.Asked.{first_asked, nobody_asked, not_asked}
use Rattle.server_engine.proofs.Ready.{same_ready}
use Rattle.server_engine.proofs.asking.ask_file.Goals as goal

pub returns-in-None-clause-asked : goal.returns-in-None-clause-asked
returns-in-None-clause-asked g c before course h name =
    nobody_asked g.S.ClientSession.stands before c.args.core.now course c.args.out.now c.args.cid.0 h
    (c.places_tell_of_clients.ensures.nobody c.args.core.now course.table c.args.cid.0 h.table (sym c.place.ensures.place ∙ c.in-None.is))

pub returns-then-is_unasked-clause-asked : goal.returns-then-is_unasked-clause-asked
returns-then-is_unasked-clause-asked g c before course h name =
    let there = c.places_tell_of_clients.ensures.there c.args.core.now course.table c.args.cid.0 c.in-Some.i h.table (sym c.place.ensures.place ∙ c.in-Some.is) in
    first_asked g.S.ClientSession.stands before c.args.core.now course c.args.out.now c.args.cid.0 h c.in-Some.i there
    c.look_at.result.now c.look_at.ensures c.ask_first.new.core c.ask_first.new.out (sym c.is_unasked.ensures ∙ c.if-is_unasked.true)
    (c.ask_first.ensures.asked before course there.client h there.client_there (name there.client there.client_there))

pub returns-else-is_unasked-clause-asked : goal.returns-else-is_unasked-clause-asked
returns-else-is_unasked-clause-asked g c before course h name =
    not_asked g.S.ClientSession.stands before c.args.core.now course c.args.out.now c.args.cid.0 h c.in-Some.i
    (c.places_tell_of_clients.ensures.there c.args.core.now course.table c.args.cid.0 c.in-Some.i h.table (sym c.place.ensures.place ∙ c.in-Some.is))
    c.look_at.result.now c.look_at.ensures (sym c.is_unasked.ensures ∙ c.if-is_unasked.false)

pub returns-in-None-clause-ready : goal.returns-in-None-clause-ready
returns-in-None-clause-ready g c = same_ready g.S.ClientSession.may_exchange c.args.core.now

pub returns-else-is_unasked-clause-ready : goal.returns-else-is_unasked-clause-ready
returns-else-is_unasked-clause-ready g c = same_ready g.S.ClientSession.may_exchange c.args.core.now
