use Rattle.std.proofs.Common.{ℕ, refl, subst, sym, ap, ◌≤◌, ◌∙◌}
use Rattle.client_table.specs.Tables.{with_value_at}
use Rattle.peer_table.specs.EngineAnswers.{engine_came}
use Rattle.server_table.specs.Courses.{acted}
use Rattle.server_table.specs.Table.{Client}
use Rattle.server_state.specs.declared.client.ClientState.{ClientState}
use Rattle.server_state.specs.Core.{CourseStands}
use Rattle.server_engine.proofs.Asked.{same_client}
use Rattle.server_engine.proofs.Called.{acted_is, goes_on_so, keeps, sound_but_it}
use Rattle.server_engine.proofs.Judged.{state_at}
use Rattle.server_engine.proofs.Ready.{ready_now}
use Rattle.server_engine.proofs.calling.call_engine.Goals as goal

pub returns-clause-acted : goal.returns-clause-acted
returns-clause-acted g c before course x h here =
    let means = g.S.ClientSession.stands in
    let core = c.args.core.now in
    let v = c.value_at.result.now in
    let w = c.take_answer.new.client in
    let ct = with_value_at core.clients c.args.i w in
    subst (λ (now : ℕ). CourseStands means before (record core { clients = ct }) c.take_answer.new.out (acted core.turn.0 x.address (engine_came c.args.kind.now now x.session) course)) h.table.moment
    (acted_is means before core course c.args.out.now c.take_answer.new.out (λ p. engine_came c.args.kind.now core.moment.0 p) (keeps c.args.kind.now core.moment.0)
    c.args.i v w c.key_at.result.now ct
    (record { entries_are = c.lending_sets_the_value.ensures core.clients c.args.i w; admitted_is = refl; most_is = refl })
    c.value_at.ensures.value c.key_at.ensures c.requires.place c.requires.named c.take_answer.ensures.others c.take_answer.ensures.left
    (c.places_tell_of_clients.ensures.there core course.table core.turn.0 c.args.i h.table c.requires.place) x here
    (λ called. c.calls_are_put_into_courses.ensures.turn before core course c.args.out.now c.take_answer.new.out (engine_came c.args.kind.now core.moment.0 x.session) c.args.i v w ct
    h called c.requires.place x here))

pub returns-clause-answer : goal.returns-clause-answer
returns-clause-answer g c t x h here =
    let means = g.S.ClientSession.stands in
    let core = c.args.core.now in
    let there = c.places_tell_of_clients.ensures.there core t core.turn.0 c.args.i h c.requires.place in
    c.take_answer.ensures.answer x.session
    (subst (λ (x : Client). means c.value_at.result.now.session x.session) (same_client _ there.client x there.client_there here)
    (state_at means core t core.turn.0 c.args.i c.value_at.result.now there c.value_at.ensures.value).session)
    ∙ ap (λ now. (engine_came c.args.kind.now now x.session).answer) h.moment

pub returns-clause-sound : goal.returns-clause-sound
returns-clause-sound g c =
    let core = c.args.core.now in
    let w = c.take_answer.new.client in
    goes_on_so c.take_answer.result
    (λ goes. c.a_changed_core_is_sound.ensures core (with_value_at core.clients c.args.i w) c.args.i c.value_at.result.now w c.requires.sound c.value_at.ensures.value goes
    c.take_answer.ensures.count (λ past. subst (λ n. n ≤ core.moment.0) (sym c.take_answer.ensures.since) past) (record { entries_are = c.lending_sets_the_value.ensures core.clients c.args.i w; admitted_is = refl; most_is = refl }))
    c.take_answer.ensures.goes_on

pub returns-clause-sound_but : goal.returns-clause-sound_but
returns-clause-sound_but g c =
    let core = c.args.core.now in
    let w = c.take_answer.new.client in
    sound_but_it core core.turn.0 c.args.i c.value_at.result.now w (with_value_at core.clients c.args.i w)
    (record { entries_are = c.lending_sets_the_value.ensures core.clients c.args.i w; admitted_is = refl; most_is = refl })
    g.S.ClientSession.goes_on g.S.ClientSession.count g.S.ClientSession.since c.requires.place c.requires.sound

pub returns-clause-ready : goal.returns-clause-ready
returns-clause-ready g c =
    let core = c.args.core.now in
    let v = c.value_at.result.now in
    let w = c.take_answer.new.client in
    ready_now g.S.ClientSession.may_exchange core c.args.i v w (with_value_at core.clients c.args.i w)
    (record { entries_are = c.lending_sets_the_value.ensures core.clients c.args.i w; admitted_is = refl; most_is = refl })
    c.value_at.ensures.value c.requires.place c.requires.within c.requires.named (ap (λ (w : ClientState _). w.established) c.take_answer.ensures.others) c.take_answer.ensures.exchange
