use Rattle.std.proofs.Common.{ℕ, ◌+◌, ◌≤◌, sym, ap, subst, ◌∙◌}
use Rattle.vpn_base.specs.declared.names.Cid.{Cid}
use Rattle.peer_table.specs.EngineAnswers.{engine_came}
use Rattle.peer_table.specs.Exchange.{all_unread}
use Rattle.server_table.specs.Engine.{engine_acted}
use Rattle.server_table.specs.Lookups.{client_here}
use Rattle.server_state.specs.Core.{CourseStands}
use Rattle.server_answers.specs.internal.Ahead.{IsReadied}
use Rattle.server_answers.proofs.Readied.{named_beside, outbox_same, ready_beside, stays_itself, turn_beside}
use Rattle.server_answers.proofs.answering.plain_ready.Goals as goal

pub take_plain-requires-clause-ready : goal.take_plain-requires-clause-ready
take_plain-requires-clause-ready g c =
    let mid = c.prepare_at.new.core in
    ready_beside c.args.core.now mid mid.routes mid.pool mid.held c.args.i c.prepare_at.ensures.only g.S.ClientSession.is_ready c.args.kind.now c.args.room.0 c.args.room.1 c.requires.ready

pub take_plain-requires-clause-at : goal.take_plain-requires-clause-at
take_plain-requires-clause-at g c =
    let mid = c.prepare_at.new.core in
    turn_beside c.args.core.now mid mid.routes mid.pool mid.held c.args.i c.prepare_at.ensures.only c.requires.at

pub take_plain-requires-clause-named : goal.take_plain-requires-clause-named
take_plain-requires-clause-named g c =
    let mid = c.prepare_at.new.core in
    named_beside c.args.core.now mid mid.routes mid.pool mid.held c.args.i c.prepare_at.ensures.only c.requires.named

pub take_plain-requires-clause-sound : goal.take_plain-requires-clause-sound
take_plain-requires-clause-sound g c = c.a_core_ahead_is_sound.ensures c.prepare_at.new.core (c.prepare_at.ensures.stays.ahead c.requires.sound)

pub take_plain-requires-clause-first : goal.take_plain-requires-clause-first
take_plain-requires-clause-first g c = c.prepare_at.ensures.stays.mark ∙ c.requires.mark

pub returns-in-Err-clause-stays : goal.returns-in-Err-clause-stays
returns-in-Err-clause-stays g c =
    stays_itself g.S.ClientSession.stands g.S.ClientSession.goes_on g.S.ClientSession.count g.S.ClientSession.since c.args.core.now

pub returns-clause-came : goal.returns-clause-came
returns-clause-came g c before course x h there =
    let means = g.S.ClientSession.stands in
    let core = c.args.core.now in
    let mid = c.prepare_at.new.core in
    let kind = c.args.kind.now in
    let stays = c.prepare_at.ensures.stays in
    let p = c.in-Ok-prepare_at.prepared in
    let ready = outbox_same means before mid c.args.out.now c.reserve_all.new.out course (stays.same before c.args.out.now course h) c.reserve_all.ensures.same in
    subst (λ (who : Cid). CourseStands means before c.take_plain.new.core c.take_plain.new.out
    (engine_acted c.args.draw.now who.0 x course (engine_came kind course.table.moment x.session))) stays.turn
    (c.take_plain.ensures.came before course x ready (ap (λ (who : Cid). client_here course.table who.0) stays.turn ∙ there)
    (subst (λ (who : Cid). IsReadied kind course who.0 x p) (sym stays.turn) (c.in-Ok-prepare_at.ensures.readied course x h.table there))
    (subst (λ (more : ℕ). all_unread x.session.sessions + more ≤ c.in-Ok.left) c.text_length.ensures (c.in-Ok.ensures course.table x h.table there))
    (c.longest_at-longest.ensures course.table x h.table there))
