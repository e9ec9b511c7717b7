use Rattle.std.proofs.Common.{refl, subst, sym, ◌≤◌}
use Rattle.client_table.specs.Tables.{with_value_at}
use Rattle.server_engine.proofs.Passed.{passed_at}
use Rattle.server_engine.proofs.messages.pass_at.Goals as goal

pub returns-clause-passed : goal.returns-clause-passed
returns-clause-passed g c before out course h =
    let core = c.args.core.now in
    let w = c.pass.new.client in
    passed_at g.S.ClientSession.stands before core course out core.turn.0 c.args.i h
    (c.places_tell_of_clients.ensures.there core course.table core.turn.0 c.args.i h.table c.requires.place) c.value_at.result.now c.value_at.ensures.value w
    (with_value_at core.clients c.args.i w) (record { entries_are = c.lending_sets_the_value.ensures core.clients c.args.i w; admitted_is = refl; most_is = refl })
    c.pass.ensures.others c.pass.ensures.passed

pub returns-clause-sound : goal.returns-clause-sound
returns-clause-sound g c =
    let core = c.args.core.now in
    let w = c.pass.new.client in
    c.a_changed_core_is_sound.ensures core (with_value_at core.clients c.args.i w) c.args.i c.value_at.result.now w c.requires.sound c.value_at.ensures.value
    c.pass.ensures.goes_on c.pass.ensures.count (λ past. subst (λ n. n ≤ core.moment.0) (sym c.pass.ensures.since) past) (record { entries_are = c.lending_sets_the_value.ensures core.clients c.args.i w; admitted_is = refl; most_is = refl })
