use Rattle.std.proofs.Common.{sym, ap, subst, ◌∙◌}
use Rattle.vpn_base.specs.declared.names.Cid.{Cid}
use Rattle.vpn_links.specs.declared.events.FileAnswer.TheVariants.{Missing}
use Rattle.server_table.specs.Engine.{file_known}
use Rattle.server_table.specs.Lookups.{client_here}
use Rattle.server_state.specs.Core.{CourseStands}
use Rattle.server_answers.proofs.Filed.{may_exchange}
use Rattle.server_answers.proofs.Readied.{on_err, on_ok, stays_on}
use Rattle.server_answers.proofs.filing.file_known.Goals as goal

pub make_ready-requires-clause-at : goal.make_ready-requires-clause-at
make_ready-requires-clause-at g c = record { place = sym c.place.ensures.place ∙ c.in-Some.is; within = c.in-Some.ensures.within }

pub file_ready-requires-clause-ready : goal.file_ready-requires-clause-ready
file_ready-requires-clause-ready g c =
    may_exchange g.S.ClientSession.is_ready g.S.ClientSession.may_exchange g.S.ClientSession.ready_for_file c.make_ready.new.core c.in-Some.i c.args.core.now.turn
    Missing c.in-Ok.room.0 c.in-Ok.room.1 c.make_ready.ensures.at c.in-Ok.ensures.ready c.in-Ok.ensures.named

pub returns-clause-known : goal.returns-clause-known
returns-clause-known g c =
    let means = g.S.ClientSession.stands in
    let core = c.args.core.now in
    let stays = c.make_ready.ensures.stays in
    on_ok c.file_ready.result c.file_ready.ensures.known
    (λ known before course h.
    let l = c.places_tell_of_clients.ensures.there core course.table core.turn.0 c.in-Some.i h.table (sym c.place.ensures.place ∙ c.in-Some.is) in
    subst (λ (who : Cid). CourseStands means before c.file_ready.new.core c.file_ready.new.out (file_known c.args.draw.now who.0 c.args.file course)) stays.turn
    (known before course l.client (stays.same before c.args.out.now course h) (ap (λ (who : Cid). client_here course.table who.0) stays.turn ∙ l.client_there)))

pub returns-clause-stays : goal.returns-clause-stays
returns-clause-stays g c =
    on_err c.file_ready.result c.file_ready.ensures.stays
    (λ stays. stays_on g.S.ClientSession.stands g.S.ClientSession.goes_on g.S.ClientSession.count g.S.ClientSession.since c.args.core.now c.make_ready.new.core c.file_ready.new.core
    c.make_ready.ensures.stays stays)
