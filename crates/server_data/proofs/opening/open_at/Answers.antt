use Rattle.std.proofs.Common.{false, length, refl, sym, ap, subst, ◌∙◌}
use Rattle.std.specs.Prelude.{unwrap_or}
use Rattle.client_table.specs.Tables.{with_value_at}
use Rattle.server_data.proofs.Accepted.{err_opened, ok_opened}
use Rattle.server_data.proofs.opening.open_at.Goals as goal

pub carry-requires-clause-sound : goal.carry-requires-clause-sound
carry-requires-clause-sound g c =
    let core = c.args.core.now in
    let w = c.open.new.client in
    c.follow.ensures.sound (c.accept.ensures.sound (c.a_changed_core_is_sound.ensures core (with_value_at core.clients c.args.i w) c.args.i c.value_at.result.now w
    c.requires.sound c.value_at.ensures.value c.open.ensures.goes_on c.open.ensures.count (λ past. c.open.ensures.since)
    (record { entries_are = c.lending_sets_the_value.ensures core.clients c.args.i w; admitted_is = refl; most_is = refl })))

pub returns-in-Ok-clause-came : goal.returns-in-Ok-clause-came
returns-in-Ok-clause-came g c before course h =
    let means = g.S.ClientSession.stands in
    let core = c.args.core.now in
    let v = c.value_at.result.now in
    let w = c.open.new.client in
    let same = ap (λ o. unwrap_or o v) (sym c.look_at.ensures ∙ c.value_at.ensures.value) in
    ok_opened means before core c.args.out.now course c.args.cid.0 c.args.i c.args.from c.args.datagram.now c.open.new.datagram h
    (c.places_tell_of_clients.ensures.there core course.table c.args.cid.0 c.args.i h.table c.requires.place) v w c.value_at.ensures.value
    (with_value_at core.clients c.args.i w) (record { entries_are = c.lending_sets_the_value.ensures core.clients c.args.i w; admitted_is = refl; most_is = refl })
    c.open.ensures.file c.find_session-went.result
    (λ p stands. c.find_session-went.ensures p (subst (λ v. means v.session p) (sym same) stands))
    c.accept.new.core c.follow.new.core c.carry.new.core c.follow.new.out c.carry.new.out c.carry.result c.in-Ok.field-0 (length c.args.datagram.now) c.behind_head.result.now refl c.behind_head.ensures
    c.in-Ok.ensures.opened c.accept.ensures.accepted c.accept.ensures.turn_stays c.accept.ensures.mark_stays c.follow.ensures.moved c.carry.ensures.carried

pub returns-in-Err-clause-came : goal.returns-in-Err-clause-came
returns-in-Err-clause-came g c before course h =
    let means = g.S.ClientSession.stands in
    let core = c.args.core.now in
    let v = c.value_at.result.now in
    let w = c.open.new.client in
    let same = ap (λ o. unwrap_or o v) (sym c.look_at.ensures ∙ c.value_at.ensures.value) in
    err_opened means before core c.args.out.now course c.args.cid.0 c.args.i c.args.from c.args.datagram.now c.open.new.datagram h
    (c.places_tell_of_clients.ensures.there core course.table c.args.cid.0 c.args.i h.table c.requires.place) v w c.value_at.ensures.value
    (with_value_at core.clients c.args.i w) (record { entries_are = c.lending_sets_the_value.ensures core.clients c.args.i w; admitted_is = refl; most_is = refl })
    c.open.ensures.file c.find_session-went.result
    (λ p stands. c.find_session-went.ensures p (subst (λ v. means v.session p) (sym same) stands))
    c.refuse.new.core c.refuse.new.out false c.in-Err.fault c.in-Err.ensures.opened c.refuse.ensures.refused

pub returns-in-Err-clause-sound : goal.returns-in-Err-clause-sound
returns-in-Err-clause-sound g c =
    let core = c.args.core.now in
    let w = c.open.new.client in
    c.refuse.ensures.sound (c.a_changed_core_is_sound.ensures core (with_value_at core.clients c.args.i w) c.args.i c.value_at.result.now w
    c.requires.sound c.value_at.ensures.value c.open.ensures.goes_on c.open.ensures.count (λ past. c.open.ensures.since)
    (record { entries_are = c.lending_sets_the_value.ensures core.clients c.args.i w; admitted_is = refl; most_is = refl }))
