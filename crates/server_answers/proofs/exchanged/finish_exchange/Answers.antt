use Rattle.std.proofs.Common.{sym, ◌∙◌}
use Rattle.server_answers.proofs.Followed.{behind_exchange, nobody_left_made, none_at, not_nobody_made, takes_at}
use Rattle.server_answers.proofs.exchanged.finish_exchange.Goals as goal

pub returns-in-None-clause-gone : goal.returns-in-None-clause-gone
returns-in-None-clause-gone g c before course h none =
    nobody_left_made g.S.ClientSession.stands before c.args.core.now c.args.out.now c.args.core.now.turn.0 course none h

pub returns-in-Some-clause-made : goal.returns-in-Some-clause-made
returns-in-Some-clause-made g c before course x h there prepared fits =
    let core = c.args.core.now in
    let n = core.turn.0 in
    let first = c.establish_as_asked-prepared in
    let mid = first.new.core in
    let last = c.take_messages in
    behind_exchange g.S.ClientSession.stands before mid first.new.out last.new.core last.new.out n c.args.left course x there fits first.result
    (takes_at g.S.ClientSession.stands mid first.new.out last.new.core last.new.out first.result c.args.left mid.turn core.turn first.ensures.turn_stays last.ensures.taken)
    (none_at g.S.ClientSession.stands mid first.new.out last.new.core last.new.out mid.turn core.turn first.ensures.turn_stays last.ensures.gone)
    (λ y is. first.ensures.prepared course x y h.table there prepared is)
    (first.ensures.established before course x h there prepared)

pub returns-in-Some-clause-gone : goal.returns-in-Some-clause-gone
returns-in-Some-clause-gone g c before course h none =
    let core = c.args.core.now in
    not_nobody_made g.S.ClientSession.stands before core c.take_messages.new.core c.take_messages.new.out core.turn.0 c.in-Some.field-0 course
    (c.places_tell_of_clients.ensures.there core course.table core.turn.0 c.in-Some.field-0 h.table (sym c.place.ensures.place ∙ c.in-Some.is)) none
