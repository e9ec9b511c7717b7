use Rattle.std.proofs.Common.{sym, ◌∙◌}
use Rattle.server_engine.proofs.Taken.{nobody_takes, none_takes, one_takes}
use Rattle.server_engine.proofs.files.take_file.Goals as goal

pub returns-in_default-clause-taken : goal.returns-in_default-clause-taken
returns-in_default-clause-taken g c before course draw told h tells =
    nobody_takes g.S.ClientSession.stands before c.args.core.now course draw c.args.cid told c.report.new.out
    (c.places_tell_of_clients.ensures.nobody c.args.core.now course.table c.args.cid.0 h.table (sym c.place.ensures.place ∙ c.in_default.is))
    (c.report.ensures.reported before course h)

pub returns-in-None-clause-taken : goal.returns-in-None-clause-taken
returns-in-None-clause-taken g c before course draw told h tells =
    none_takes g.S.ClientSession.stands before c.args.core.now course draw c.args.cid told c.in-Some.i
    (c.places_tell_of_clients.ensures.there c.args.core.now course.table c.args.cid.0 c.in-Some.i h.table (sym c.place.ensures.place ∙ c.in-Some.is))
    c.look_at.result.now c.look_at.ensures c.awaited.result c.awaited.ensures c.report-in-None.new.out c.in-None.is (c.report-in-None.ensures.reported before course h)

pub returns-in-Some-awaited-clause-taken : goal.returns-in-Some-awaited-clause-taken
returns-in-Some-awaited-clause-taken g c before course draw told h tells =
    one_takes g.S.ClientSession.stands before c.args.core.now course draw c.args.cid told c.in-Some.i
    (c.places_tell_of_clients.ensures.there c.args.core.now course.table c.args.cid.0 c.in-Some.i h.table (sym c.place.ensures.place ∙ c.in-Some.is))
    c.look_at.result.now c.look_at.ensures c.awaited.result c.awaited.ensures c.give_file.new.core c.give_file.new.out c.in-Some-awaited.is_default c.give_file.result c.in-Some-awaited.is
    (λ name is. c.give_file.ensures.given before course draw name told h is tells)
