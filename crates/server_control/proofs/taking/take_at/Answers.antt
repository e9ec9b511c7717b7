use Rattle.std.proofs.Common.{◌≡◌, ◌≤◌, drop, length, min, refl, subst}
use Rattle.client_table.specs.Tables.{with_value_at}
use Rattle.server_state.specs.Calls.{opens_in}
use Rattle.server_control.proofs.Sound.{sound_after, sound_kept, told_kept}
use Rattle.server_control.proofs.Taken.{core_kept, has_taken}
use Rattle.server_control.proofs.taking.take_at.Goals as goal

pub returns-in-Err-clause-kept : goal.returns-in-Err-clause-kept
returns-in-Err-clause-kept g c before course h =
    let means = g.S.ClientSession.stands in
    let core = c.args.core.now in
    let v = c.value_at-client.result.now in
    let w = c.take.new.client in
    let there = c.places_tell_of_clients.ensures.there core course.table core.turn.0 c.args.i h.table c.requires.place in
    core_kept means before core c.args.out.now c.take.new.out course h c.args.i there v w c.value_at-client.ensures.value (with_value_at core.clients c.args.i w)
    (record { entries_are = c.lending_sets_the_value.ensures core.clients c.args.i w; admitted_is = refl; most_is = refl }) c.in-Err.ensures.left c.in-Err.ensures.state

pub returns-in-Err-clause-sound : goal.returns-in-Err-clause-sound
returns-in-Err-clause-sound g c =
    let core = c.args.core.now in
    let v = c.value_at-client.result.now in
    let w = c.take.new.client in
    sound_kept g.S.ClientSession.goes_on g.S.ClientSession.count g.S.ClientSession.since core c.args.i v c.value_at-client.ensures.value c.requires.counted c.requires.sound w
    (with_value_at core.clients c.args.i w) (record { entries_are = c.lending_sets_the_value.ensures core.clients c.args.i w; admitted_is = refl; most_is = refl })
    c.in-Err.ensures.goes_on c.in-Err.ensures.same_count c.take.ensures.since

pub returns-in-Err-clause-still : goal.returns-in-Err-clause-still
returns-in-Err-clause-still g c =
    let core = c.args.core.now in
    let v = c.value_at-client.result.now in
    let w = c.take.new.client in
    told_kept g.S.ClientSession.goes_on g.S.ClientSession.count g.S.ClientSession.since core c.args.i v c.value_at-client.ensures.value c.requires.counted c.requires.sound w
    (with_value_at core.clients c.args.i w) (record { entries_are = c.lending_sets_the_value.ensures core.clients c.args.i w; admitted_is = refl; most_is = refl })
    c.in-Err.ensures.same_since

pub returns-in-Ok-clause-taken : goal.returns-in-Ok-clause-taken
returns-in-Ok-clause-taken g c before course y h at =
    let means = g.S.ClientSession.stands in
    let core = c.args.core.now in
    let v = c.value_at-client.result.now in
    let w = c.take.new.client in
    let there = c.places_tell_of_clients.ensures.there core course.table core.turn.0 c.args.i h.table c.requires.place in
    let w1 = record v { session = w.session } in
    has_taken means before core c.args.out.now c.take.new.out course h c.args.i there v w c.value_at-client.ensures.value (with_value_at core.clients c.args.i w)
    (record { entries_are = c.lending_sets_the_value.ensures core.clients c.args.i w; admitted_is = refl; most_is = refl })
    (with_value_at core.clients c.args.i w1)
    (record { entries_are = c.lending_sets_the_value.ensures core.clients c.args.i w1; admitted_is = refl; most_is = refl }) c.requires.place
    (λ o called x there. c.calls_are_put_into_courses.ensures.control before core course c.args.out.now c.take.new.out o c.args.i v w1
    (with_value_at core.clients c.args.i w1) h called c.requires.place x there)
    c.args.opened.now c.args.view.now c.args.to c.requires.address c.place_numbered-reached.result c.control_session-number.result c.place_numbered-reached.ensures c.control_session-number.ensures c.in-Ok.answer c.in-Ok.ensures.state c.opened_since.result c.last_after-core.result c.last_after-core.ensures
    (subst (λ done. done ≤ length c.take.new.out.effects → c.opened_since.result ≡ min (opens_in (drop done c.take.new.out.effects)) 1) c.count-done.ensures
    c.opened_since.ensures.counted) c.in-Ok.ensures.left c.in-Ok.ensures.answer y at

pub returns-in-Ok-clause-sound : goal.returns-in-Ok-clause-sound
returns-in-Ok-clause-sound g c =
    let core = c.args.core.now in
    let v = c.value_at-client.result.now in
    let w = c.take.new.client in
    sound_after g.S.ClientSession.goes_on g.S.ClientSession.count g.S.ClientSession.since core c.args.i v c.value_at-client.ensures.value c.requires.counted c.requires.sound w
    (with_value_at core.clients c.args.i w) (record { entries_are = c.lending_sets_the_value.ensures core.clients c.args.i w; admitted_is = refl; most_is = refl })
    c.in-Ok.answer c.opened_since.result c.last_after-core.result c.in-Ok.ensures.goes_on c.take.ensures.count c.take.ensures.since c.opened_since.ensures.one c.requires.place
