use Rattle.std.proofs.Common.{ℕ, refl, slice_get, subst, sym, ap, ◌≤◌, ◌∙◌}
use Rattle.vpn_base.specs.declared.names.Policy.{Policy}
use Rattle.client_table.specs.Tables.{entries_of, with_value_at}
use Rattle.peer_table.specs.Exchange.{cipher_of, exchanged}
use Rattle.server_table.specs.Courses.{acted}
use Rattle.server_table.specs.Exchange.{policy_with}
use Rattle.server_table.specs.Table.{Client}
use Rattle.server_state.specs.Core.{CourseStands}
use Rattle.server_engine.proofs.Asked.{same_client}
use Rattle.server_engine.proofs.Called.{acted_is, goes_on_so, sound_but_it}
use Rattle.server_engine.proofs.Exchanged.{keeps, peer_id_is}
use Rattle.server_engine.proofs.Judged.{state_at}
use Rattle.server_engine.proofs.exchanging.call_exchange.Goals as goal

pub returns-clause-acted : goal.returns-clause-acted
returns-clause-acted g c before course x h here =
    let means = g.S.ClientSession.stands in
    let core = c.args.core.now in
    let v = c.value_at.result.now in
    let w = c.make_exchange.new.client in
    let ct = with_value_at core.clients c.args.i w in
    let id = c.peer_id_at-peer_id.result in
    let draw = c.args.draw.now in
    let there = c.places_tell_of_clients.ensures.there core course.table core.turn.0 c.args.i h.table c.requires.ready.place in
    let same = same_client _ there.client x there.client_there here in
    subst (λ (ours : Policy). CourseStands means before (record core { clients = ct }) c.make_exchange.new.out
    (acted core.turn.0 x.address (exchanged (policy_with ours (cipher_of x.session)) x.peer_id draw x.session) course)) (ap (λ s. s.ciphers) h.table.settings)
    (subst (λ (id : ℕ). CourseStands means before (record core { clients = ct }) c.make_exchange.new.out
    (acted core.turn.0 x.address (exchanged (policy_with core.settings.ciphers (cipher_of x.session)) id draw x.session) course))
    (peer_id_is (slice_get (entries_of core.clients) c.args.i) there.entry id there.entry_there c.peer_id_at-peer_id.ensures.peer_id ∙ there.stands.peer_id ∙ ap (λ (x : Client). x.peer_id) same)
    (acted_is means before core course c.args.out.now c.make_exchange.new.out (λ p. exchanged (policy_with core.settings.ciphers (cipher_of p)) id draw p)
    (λ p. keeps (policy_with core.settings.ciphers (cipher_of p)) id draw p)
    c.args.i v w c.key_at.result.now ct
    (record { entries_are = c.lending_sets_the_value.ensures core.clients c.args.i w; admitted_is = refl; most_is = refl })
    c.value_at.ensures.value c.key_at.ensures c.requires.ready.place c.requires.ready.named c.make_exchange.ensures.others c.make_exchange.ensures.left there x here
    (λ called. c.calls_are_put_into_courses.ensures.turn before core course c.args.out.now c.make_exchange.new.out
    (exchanged (policy_with core.settings.ciphers (cipher_of x.session)) id draw x.session) c.args.i v w ct h called c.requires.ready.place x here)))

pub returns-clause-answer : goal.returns-clause-answer
returns-clause-answer g c t x h here =
    let means = g.S.ClientSession.stands in
    let core = c.args.core.now in
    let id = c.peer_id_at-peer_id.result in
    let there = c.places_tell_of_clients.ensures.there core t core.turn.0 c.args.i h c.requires.ready.place in
    let same = same_client _ there.client x there.client_there here in
    c.make_exchange.ensures.answer x.session
    (subst (λ (x : Client). means c.value_at.result.now.session x.session) same (state_at means core t core.turn.0 c.args.i c.value_at.result.now there c.value_at.ensures.value).session)
    ∙ ap (λ (id : ℕ). (exchanged (policy_with core.settings.ciphers (cipher_of x.session)) id c.args.draw.now x.session).answer)
    (peer_id_is (slice_get (entries_of core.clients) c.args.i) there.entry id there.entry_there c.peer_id_at-peer_id.ensures.peer_id ∙ there.stands.peer_id ∙ ap (λ (x : Client). x.peer_id) same)
    ∙ ap (λ (ours : Policy). (exchanged (policy_with ours (cipher_of x.session)) x.peer_id c.args.draw.now x.session).answer) (ap (λ s. s.ciphers) h.settings)

pub returns-clause-sound : goal.returns-clause-sound
returns-clause-sound g c =
    let core = c.args.core.now in
    let w = c.make_exchange.new.client in
    goes_on_so c.make_exchange.result
    (λ goes. c.a_changed_core_is_sound.ensures core (with_value_at core.clients c.args.i w) c.args.i c.value_at.result.now w c.requires.sound c.value_at.ensures.value goes
    c.make_exchange.ensures.count (λ past. subst (λ n. n ≤ core.moment.0) (sym c.make_exchange.ensures.since) past) (record { entries_are = c.lending_sets_the_value.ensures core.clients c.args.i w; admitted_is = refl; most_is = refl }))
    c.make_exchange.ensures.goes_on

pub returns-clause-sound_but : goal.returns-clause-sound_but
returns-clause-sound_but g c =
    let core = c.args.core.now in
    let w = c.make_exchange.new.client in
    sound_but_it core core.turn.0 c.args.i c.value_at.result.now w (with_value_at core.clients c.args.i w)
    (record { entries_are = c.lending_sets_the_value.ensures core.clients c.args.i w; admitted_is = refl; most_is = refl })
    g.S.ClientSession.goes_on g.S.ClientSession.count g.S.ClientSession.since c.requires.ready.place c.requires.sound
