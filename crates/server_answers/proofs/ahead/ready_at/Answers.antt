use Rattle.std.proofs.Common.{◌-◌, ◌≤◌, is_some, refl, sym, ap, subst}
use Rattle.client_table.specs.Tables.{with_value_at}
use Rattle.server_state.specs.declared.client.ClientState.{ClientState}
use Rattle.server_engine.specs.Calls.{IsReadyAt}
use Rattle.server_answers.proofs.Readied.{if_ok, may_ready, ready_then, stays, turn_kept}
use Rattle.server_answers.proofs.ahead.ready_at.Goals as goal

pub ready_client-requires-clause-few : goal.ready_client-requires-clause-few
ready_client-requires-clause-few g c =
    (may_ready g.S.ClientSession.goes_on g.S.ClientSession.count g.S.ClientSession.since c.args.core.now c.args.i c.value_at.result.now c.value_at.ensures.value
    c.requires.few c.requires.sound).few

pub ready_client-requires-clause-goes_on : goal.ready_client-requires-clause-goes_on
ready_client-requires-clause-goes_on g c =
    (may_ready g.S.ClientSession.goes_on g.S.ClientSession.count g.S.ClientSession.since c.args.core.now c.args.i c.value_at.result.now c.value_at.ensures.value
    c.requires.few c.requires.sound).goes

pub returns-clause-stays : goal.returns-clause-stays
returns-clause-stays g c =
    let core = c.args.core.now in
    let i = c.args.i in
    let v = c.value_at.result.now in
    let w = c.ready_client.new.client in
    let entries_are = c.lending_sets_the_value.ensures core.clients i w in
    stays g.S.ClientSession.stands g.S.ClientSession.since core i v w c.value_at.ensures.value (with_value_at core.clients i w)
    (record { entries_are = entries_are; admitted_is = refl; most_is = refl }) c.requires.at c.ready_client.ensures.same
    (ap (λ (v : ClientState _). v.file) c.ready_client.ensures.others)
    (λ t h. c.places_tell_of_clients.ensures.there core t core.turn.0 i h c.requires.at.place) g.S.ClientSession.goes_on g.S.ClientSession.count c.ready_client.ensures.since
    (λ h. c.a_changed_core_is_sound.ensures (record core { events = core.events - 1 }) (with_value_at core.clients i w) i v w h c.value_at.ensures.value
    c.ready_client.ensures.goes_on c.ready_client.ensures.count (λ past. subst (λ n. n ≤ core.moment.0) (sym c.ready_client.ensures.since) past)
    (record { entries_are = entries_are; admitted_is = refl; most_is = refl }))

pub returns-clause-at : goal.returns-clause-at
returns-clause-at g c =
    let core = c.args.core.now in
    let w = c.ready_client.new.client in
    turn_kept g.S.ClientSession.stands g.S.ClientSession.since core c.args.i c.value_at.result.now w c.value_at.ensures.value (with_value_at core.clients c.args.i w)
    (record { entries_are = c.lending_sets_the_value.ensures core.clients c.args.i w; admitted_is = refl; most_is = refl }) c.requires.at

pub returns-clause-ready : goal.returns-clause-ready
returns-clause-ready g c =
    let core = c.args.core.now in
    let w = c.ready_client.new.client in
    if_ok (λ room. g.S.ClientSession.is_ready w.session c.args.kind.now (is_some w.established) room.0 room.1)
    (λ room. IsReadyAt g.S.ClientSession.is_ready (record core { clients = with_value_at core.clients c.args.i w }) c.args.i c.args.kind.now room.0 room.1)
    c.ready_client.result c.ready_client.ensures.ready
    (λ room ready. ready_then g.S.ClientSession.stands g.S.ClientSession.since core c.args.i c.value_at.result.now w c.value_at.ensures.value (with_value_at core.clients c.args.i w)
    (record { entries_are = c.lending_sets_the_value.ensures core.clients c.args.i w; admitted_is = refl; most_is = refl }) c.requires.at g.S.ClientSession.is_ready c.args.kind.now room.0 room.1 ready)
