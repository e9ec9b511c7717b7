use Rattle.std.proofs.Common.{◌+◌, refl, sym, subst}
use Rattle.client_table.specs.Changes.{with_value}
use Rattle.client_table.specs.Tables.{with_value_at}
use Rattle.peer_table.specs.Time.{ticked}
use Rattle.server_table.specs.Courses.{acted}
use Rattle.server_table.specs.Time.{ticking_for}
use Rattle.server_state.specs.Core.{CourseStands, IsSound}
use Rattle.server_state.specs.Places.{IsChangedAt}
use Rattle.server_time.proofs.Acted.{answered_there, called, counted_there}
use Rattle.server_time.proofs.Others.{others_ticked}
use Rattle.server_time.proofs.Sound.{goes_there, is_sound, is_sound_but, unless_over}
use Rattle.server_time.proofs.turn.tick_at.Goals as goal

pub returns-clause-acted : goal.returns-clause-acted
returns-clause-acted g c before course h x there =
    let core = c.args.core.now in
    let i = c.args.i in
    let v = c.value_at.result.now in
    let w = c.tick_client-turn.new.client in
    let ct = with_value_at core.clients i w in
    let new = c.tick_client-turn.new.out in
    let l = c.places_tell_of_clients.ensures.there core course.table core.turn.0 i h.table c.requires.place in
    let changed : IsChangedAt core i (with_value w) ct = record { entries_are = c.lending_sets_the_value.ensures core.clients i w; admitted_is = refl; most_is = refl } in
    subst (λ k. CourseStands g.S.ClientSession.stands before (record core { clients = ct; connections = core.connections + k }) new
    (acted core.turn.0 x.address (ticked (ticking_for course.table x) x.session) course))
    (sym (counted_there g.S.ClientSession.stands before core c.args.out.now new course h i c.requires.place l v w c.value_at.ensures.value c.args.to c.requires.key ct changed
    c.tick_client-turn.ensures.others c.tick_client-turn.ensures.left c.count-from.result c.opened_from.result c.count-from.ensures c.opened_from.ensures.same x there))
    (c.calls_are_put_into_courses.ensures.turn before core course c.args.out.now new (ticked (ticking_for course.table x) x.session) i v w ct h
    (called g.S.ClientSession.stands before core c.args.out.now new course h i c.requires.place l v w c.value_at.ensures.value c.args.to c.requires.key ct changed
    c.tick_client-turn.ensures.others c.tick_client-turn.ensures.left x there)
    c.requires.place x there)

pub returns-clause-answer : goal.returns-clause-answer
returns-clause-answer g c before course h x there =
    let core = c.args.core.now in
    let l = c.places_tell_of_clients.ensures.there core course.table core.turn.0 c.args.i h.table c.requires.place in
    answered_there g.S.ClientSession.stands before core c.args.out.now c.tick_client-turn.new.out course h c.args.i c.requires.place l c.value_at.result.now
    c.tick_client-turn.new.client c.value_at.ensures.value c.tick_client-turn.result c.tick_client-turn.ensures.answer x there

pub returns-clause-but : goal.returns-clause-but
returns-clause-but g c =
    let core = c.args.core.now in
    let w = c.tick_client-turn.new.client in
    is_sound_but g.S.ClientSession.goes_on g.S.ClientSession.count g.S.ClientSession.since core (with_value_at core.clients c.args.i w) c.args.i core.turn.0 c.value_at.result.now w
    c.requires.sound c.requires.place c.value_at.ensures.value c.tick_client-turn.ensures.count c.tick_client-turn.ensures.since
    (record { entries_are = c.lending_sets_the_value.ensures core.clients c.args.i w; admitted_is = refl; most_is = refl }) c.opened_from.result c.opened_from.ensures.few

pub returns-clause-sound : goal.returns-clause-sound
returns-clause-sound g c =
    let core = c.args.core.now in
    let w = c.tick_client-turn.new.client in
    unless_over (g.S.ClientSession.goes_on w.session)
    (IsSound g.S.ClientSession.goes_on g.S.ClientSession.count g.S.ClientSession.since (record core { clients = with_value_at core.clients c.args.i w; connections = core.connections + c.opened_from.result }))
    c.tick_client-turn.result c.tick_client-turn.ensures.goes_on
    (is_sound g.S.ClientSession.goes_on g.S.ClientSession.count g.S.ClientSession.since core (with_value_at core.clients c.args.i w) c.args.i core.turn.0 c.value_at.result.now w
    c.requires.sound c.requires.place c.value_at.ensures.value c.tick_client-turn.ensures.count c.tick_client-turn.ensures.since
    (record { entries_are = c.lending_sets_the_value.ensures core.clients c.args.i w; admitted_is = refl; most_is = refl }) c.opened_from.result c.opened_from.ensures.few)

pub tick_client-turn-requires-clause-goes_on : goal.tick_client-turn-requires-clause-goes_on
tick_client-turn-requires-clause-goes_on g c =
    (goes_there g.S.ClientSession.goes_on g.S.ClientSession.count g.S.ClientSession.since c.args.core.now c.args.i c.value_at.result.now c.requires.sound.sound c.value_at.ensures.value).0

pub tick_client-turn-requires-clause-later : goal.tick_client-turn-requires-clause-later
tick_client-turn-requires-clause-later g c =
    (goes_there g.S.ClientSession.goes_on g.S.ClientSession.count g.S.ClientSession.since c.args.core.now c.args.i c.value_at.result.now c.requires.sound.sound c.value_at.ensures.value).1

pub returns-clause-others : goal.returns-clause-others
returns-clause-others g c =
    let core = c.args.core.now in
    let w = c.tick_client-turn.new.client in
    others_ticked core.turn.0 c.args.i core w (with_value_at core.clients c.args.i w) c.opened_from.result c.requires.place
    (record { entries_are = c.lending_sets_the_value.ensures core.clients c.args.i w; admitted_is = refl; most_is = refl }) c.opened_from.ensures.few
