use Rattle.server_engine.specs.declared.messages.Waiting.TheVariants as found
use Rattle.server_engine.specs.Messages.{passed}
use Rattle.server_engine.proofs.Passed.{empty_taken, nothing_taken, other_taken, request_taken, seen_at}
use Rattle.server_engine.proofs.messages.take_message.Goals as goal

pub returns-in-Nothing-clause-taken : goal.returns-in-Nothing-clause-taken
returns-in-Nothing-clause-taken g c before course h =
    let core = c.args.core.now in
    nothing_taken g.S.ClientSession.stands before core course core.turn.0 c.args.i
    (c.places_tell_of_clients.ensures.there core course.table core.turn.0 c.args.i h.table c.requires.place) c.look_at.result.now c.look_at.ensures c.look.result c.look.ensures
    core c.args.out.now c.in-Nothing.is h

pub returns-in-Empty-clause-taken : goal.returns-in-Empty-clause-taken
returns-in-Empty-clause-taken g c before course h =
    let core = c.args.core.now in
    empty_taken g.S.ClientSession.stands before core course core.turn.0 c.args.i
    (c.places_tell_of_clients.ensures.there core course.table core.turn.0 c.args.i h.table c.requires.place) c.look_at.result.now c.look_at.ensures c.look.result c.look.ensures
    c.pass_at.new.core c.args.out.now c.in-Empty.is (c.pass_at.ensures.passed before c.args.out.now course h)

pub returns-in-Request-clause-taken : goal.returns-in-Request-clause-taken
returns-in-Request-clause-taken g c before course h =
    let core = c.args.core.now in
    request_taken g.S.ClientSession.stands before core course core.turn.0 c.args.i
    (c.places_tell_of_clients.ensures.there core course.table core.turn.0 c.args.i h.table c.requires.place) c.look_at.result.now c.look_at.ensures c.look.result c.look.ensures
    c.pass_at-in-Request.new.core c.args.out.now c.in-Request.conn c.in-Request.is (c.pass_at-in-Request.ensures.passed before c.args.out.now course h)

pub returns-in-Other-clause-taken : goal.returns-in-Other-clause-taken
returns-in-Other-clause-taken g c before course h =
    let core = c.args.core.now in
    other_taken g.S.ClientSession.stands before core course core.turn.0 c.args.i
    (c.places_tell_of_clients.ensures.there core course.table core.turn.0 c.args.i h.table c.requires.place) c.look_at.result.now c.look_at.ensures c.look.result c.look.ensures
    c.pass_at-in-Other.new.core c.report.new.out c.in-Other.is
    (c.report.ensures.reported before (passed core.turn.0 course) (c.pass_at-in-Other.ensures.passed before c.args.out.now course h))

pub returns-in-Nothing-clause-seen : goal.returns-in-Nothing-clause-seen
returns-in-Nothing-clause-seen g c t x h there =
    let core = c.args.core.now in
    seen_at g.S.ClientSession.stands core t core.turn.0 c.args.i (c.places_tell_of_clients.ensures.there core t core.turn.0 c.args.i h c.requires.place)
    c.look_at.result.now c.look_at.ensures c.look.result found.Nothing c.look.ensures c.in-Nothing.is x there

pub returns-in-Empty-clause-seen : goal.returns-in-Empty-clause-seen
returns-in-Empty-clause-seen g c t x h there =
    let core = c.args.core.now in
    seen_at g.S.ClientSession.stands core t core.turn.0 c.args.i (c.places_tell_of_clients.ensures.there core t core.turn.0 c.args.i h c.requires.place)
    c.look_at.result.now c.look_at.ensures c.look.result found.Empty c.look.ensures c.in-Empty.is x there

pub returns-in-Request-clause-seen : goal.returns-in-Request-clause-seen
returns-in-Request-clause-seen g c t x h there =
    let core = c.args.core.now in
    seen_at g.S.ClientSession.stands core t core.turn.0 c.args.i (c.places_tell_of_clients.ensures.there core t core.turn.0 c.args.i h c.requires.place)
    c.look_at.result.now c.look_at.ensures c.look.result (found.Request c.in-Request.conn) c.look.ensures c.in-Request.is x there

pub returns-in-Other-clause-seen : goal.returns-in-Other-clause-seen
returns-in-Other-clause-seen g c t x h there =
    let core = c.args.core.now in
    seen_at g.S.ClientSession.stands core t core.turn.0 c.args.i (c.places_tell_of_clients.ensures.there core t core.turn.0 c.args.i h c.requires.place)
    c.look_at.result.now c.look_at.ensures c.look.result found.Other c.look.ensures c.in-Other.is x there

pub returns-in-Nothing-clause-came : goal.returns-in-Nothing-clause-came
returns-in-Nothing-clause-came g c before course h = h

pub returns-in-Empty-clause-came : goal.returns-in-Empty-clause-came
returns-in-Empty-clause-came g c before course h = c.pass_at.ensures.passed before c.args.out.now course h

pub returns-in-Request-clause-came : goal.returns-in-Request-clause-came
returns-in-Request-clause-came g c before course h = c.pass_at-in-Request.ensures.passed before c.args.out.now course h

pub returns-in-Other-clause-came : goal.returns-in-Other-clause-came
returns-in-Other-clause-came g c before course h =
    c.report.ensures.reported before (passed c.args.core.now.turn.0 course) (c.pass_at-in-Other.ensures.passed before c.args.out.now course h)
