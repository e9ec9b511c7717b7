use Rattle.std.proofs.Common.{sym, ◌∙◌}
use Rattle.server_time.proofs.Begun.{none_ticked, turn_begun, uses_none}
use Rattle.server_time.proofs.Others.{others_begun, others_none}
use Rattle.server_time.proofs.turn.client_ticked.Goals as goal

pub returns-in-None-clause-ticked : goal.returns-in-None-clause-ticked
returns-in-None-clause-ticked g c before course h =
    let core = c.args.core.now in
    none_ticked g.S.ClientSession.stands before (record core { turn = c.args.cid; mark = c.staged-core.result }) c.args.out.now course c.args.cid.0
    (c.places_tell_of_clients.ensures.nobody core course.table c.args.cid.0 h.table (sym c.place.ensures.place ∙ c.in-None.is))
    (turn_begun g.S.ClientSession.stands before core c.args.out.now course h c.args.cid c.requires.next c.staged-core.result c.staged-core.ensures)

pub returns-in-None-clause-uses : goal.returns-in-None-clause-uses
returns-in-None-clause-uses g c effects bytes ready = uses_none c.args.out.now _ _

pub returns-in-Some-clause-ticked : goal.returns-in-Some-clause-ticked
returns-in-Some-clause-ticked g c before course h =
    c.take_turn.ensures.ticked before course
    (turn_begun g.S.ClientSession.stands before c.args.core.now c.args.out.now course h c.args.cid c.requires.next c.staged-core.result c.staged-core.ensures)

pub returns-in-None-clause-others : goal.returns-in-None-clause-others
returns-in-None-clause-others g c = others_none c.args.cid.0 c.args.core.now c.args.cid c.staged-core.result

pub returns-in-Some-clause-others : goal.returns-in-Some-clause-others
returns-in-Some-clause-others g c =
    others_begun c.args.cid.0 1 c.args.core.now c.take_turn.new.core c.args.cid c.staged-core.result c.take_turn.ensures.others
