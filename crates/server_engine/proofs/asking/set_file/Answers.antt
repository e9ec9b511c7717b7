use Rattle.std.proofs.Common.{refl, sym, subst, ap, ◌≤◌}
use Rattle.client_table.specs.Tables.{with_value_at}
use Rattle.server_state.specs.declared.client.ClientState.{ClientState}
use Rattle.server_engine.proofs.Asked.{file_set}
use Rattle.server_engine.proofs.Judged.{goes_at}
use Rattle.server_engine.proofs.Ready.{stays_ready}
use Rattle.server_engine.proofs.asking.set_file.Goals as goal

pub returns-clause-set : goal.returns-clause-set
returns-clause-set g c t n state h place of =
    let core = c.args.core.now in
    let w = c.put_file.new.client in
    file_set g.S.ClientSession.stands core t n c.args.i c.args.file state (c.places_tell_of_clients.ensures.there core t n c.args.i h place) c.value_at.result.now w
    (with_value_at core.clients c.args.i w) c.value_at.ensures.value c.put_file.ensures
    (record { entries_are = c.lending_sets_the_value.ensures core.clients c.args.i w; admitted_is = refl; most_is = refl }) of

pub returns-clause-sound : goal.returns-clause-sound
returns-clause-sound g c h =
    let core = c.args.core.now in
    let v = c.value_at.result.now in
    let w = c.put_file.new.client in
    c.a_changed_core_is_sound.ensures core (with_value_at core.clients c.args.i w) c.args.i v w h c.value_at.ensures.value
    (subst (λ (w : ClientState _). g.S.ClientSession.goes_on w.session) (sym c.put_file.ensures)
    (goes_at g.S.ClientSession.goes_on g.S.ClientSession.count g.S.ClientSession.since core c.args.i v h c.value_at.ensures.value))
    (ap (λ (w : ClientState _). g.S.ClientSession.count w.session) c.put_file.ensures)
    (λ past. subst (λ n. n ≤ core.moment.0) (sym (ap (λ (w : ClientState _). g.S.ClientSession.since w.session) c.put_file.ensures)) past)
    (record { entries_are = c.lending_sets_the_value.ensures core.clients c.args.i w; admitted_is = refl; most_is = refl })

pub returns-clause-ready : goal.returns-clause-ready
returns-clause-ready g c =
    let core = c.args.core.now in
    let v = c.value_at.result.now in
    let w = c.put_file.new.client in
    stays_ready g.S.ClientSession.may_exchange core c.args.i v w (with_value_at core.clients c.args.i w)
    (record { entries_are = c.lending_sets_the_value.ensures core.clients c.args.i w; admitted_is = refl; most_is = refl }) c.value_at.ensures.value
    (ap (λ (w : ClientState _). w.established) c.put_file.ensures) (ap (λ (w : ClientState _). w.session) c.put_file.ensures)
