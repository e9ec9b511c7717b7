use Rattle.std.proofs.Common.{◌≤◌, ◌^◌, sym, ap, subst, ◌∙◌}
use Rattle.vpn_base.specs.declared.names.Cid.{Cid}
use Rattle.vpn_links.specs.Actions.{Contents, Holds}
use Rattle.server_table.specs.Engine.{file_known}
use Rattle.server_state.specs.declared.state.ServerCore.{ServerCore}
use Rattle.server_state.specs.Core.{CourseStands, IsSoundAhead}
use Rattle.server_engine.specs.Files.{IsTaken}
use Rattle.server_answers.specs.internal.Ahead.{StaysSame}
use Rattle.server_answers.proofs.Filed.{holds_then}
use Rattle.server_answers.proofs.Readied.{on_err, on_ok, outbox_same}
use Rattle.server_answers.proofs.filing.file_given.Goals as goal

pub returns-in-None-clause-came : goal.returns-in-None-clause-came
returns-in-None-clause-came g c before course h =
    let means = g.S.ClientSession.stands in
    subst (λ r. IsTaken means before c.take_file.new.core c.take_file.new.out c.args.draw.now c.args.id c.args.answer.now course r) c.in-None.is
    (c.take_file.ensures.taken before course c.args.draw.now c.args.answer.now
    (outbox_same means before c.args.core.now c.args.out.now c.reserve.new.self course h c.reserve.ensures.same) c.in-Ok.ensures)

pub file_known-requires-clause-few : goal.file_known-requires-clause-few
file_known-requires-clause-few g c = subst (λ (k : ServerCore _). k.events ≤ 2 ^ 48) (sym c.in-Some.ensures.same.0) c.requires.few

pub file_known-requires-clause-sound : goal.file_known-requires-clause-sound
file_known-requires-clause-sound g c =
    subst (λ (k : ServerCore _). IsSoundAhead g.S.ClientSession.goes_on g.S.ClientSession.count g.S.ClientSession.since k) (sym c.in-Some.ensures.same.0) c.requires.sound

pub file_known-requires-clause-none_held : goal.file_known-requires-clause-none_held
file_known-requires-clause-none_held g c = ap (λ (k : ServerCore _). k.held) c.in-Some.ensures.same.0 ∙ c.requires.none_held

pub file_known-requires-clause-mark : goal.file_known-requires-clause-mark
file_known-requires-clause-mark g c = ap (λ (k : ServerCore _). k.mark) c.in-Some.ensures.same.0 ∙ c.requires.mark

pub returns-in-Some-clause-came : goal.returns-in-Some-clause-came
returns-in-Some-clause-came g c =
    let means = g.S.ClientSession.stands in
    on_ok c.file_known.result c.file_known.ensures.known
    (λ known before course h.
    let taken = subst (λ r. IsTaken means before c.take_file.new.core c.take_file.new.out c.args.draw.now c.args.id c.args.answer.now course r) c.in-Some.is
    (c.take_file.ensures.taken before course c.args.draw.now c.args.answer.now
    (outbox_same means before c.args.core.now c.args.out.now c.reserve.new.self course h c.reserve.ensures.same) c.in-Ok.ensures) in
    subst (CourseStands means before c.file_known.new.core c.file_known.new.out) (sym taken.1)
    (subst (λ (who : Cid). CourseStands means before c.file_known.new.core c.file_known.new.out (file_known c.args.draw.now who.0 c.in-Some.file course))
    (c.take_file.ensures.turn_stays ∙ sym c.requires.turn) (known before course taken.0)))

pub returns-in-Some-clause-stays : goal.returns-in-Some-clause-stays
returns-in-Some-clause-stays g c =
    on_err c.file_known.result c.file_known.ensures.stays
    (λ stays. subst (λ (k : ServerCore _). StaysSame g.S.ClientSession.stands g.S.ClientSession.goes_on g.S.ClientSession.count g.S.ClientSession.since k c.file_known.new.core)
    c.in-Some.ensures.same.0 stays)

pub returns-in-Some-clause-outbox : goal.returns-in-Some-clause-outbox
returns-in-Some-clause-outbox g c =
    on_err c.file_known.result c.file_known.ensures.outbox
    (λ holds. holds_then c.args.out.now c.reserve.new.self c.file_known.new.out c.reserve.ensures.same
    (subst (λ (o : Contents). Holds c.file_known.new.out o.effects o.staged) c.in-Some.ensures.same.1 holds))
