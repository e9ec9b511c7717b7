use Rattle.std.proofs.Common.{◌≤◌, refl, subst, sym}
use Rattle.client_table.specs.Tables.{with_value_at}
use Rattle.server_state.proofs.Changed.{sound_changed}
use Rattle.server_state.proofs.Sealed.{err_sealed, ok_sealed, value_for}
use Rattle.server_state.proofs.state.ServerCore.seal_at.Goals as goal

pub returns-in-Ok-clause-sealed : goal.returns-in-Ok-clause-sealed
returns-in-Ok-clause-sealed g c before course h =
    let core = c.args.self.now in
    let v = c.value_at.result.now in
    let w = c.seal.new.self in
    ok_sealed g.S.ClientSession.stands before core c.args.out.now course h c.args.target.0 c.args.inner.now c.args.i c.requires.place c.args.to c.requires.key v w
    c.value_at.ensures.value (with_value_at core.clients c.args.i w) (c.lending_sets_the_value.ensures core.clients c.args.i w) refl refl c.seal.ensures.file
    c.seal.new.out c.in-Ok.size c.count_up-self.result c.count_up-self.ensures c.in-Ok.ensures.sealed

pub returns-in-Ok-clause-sound : goal.returns-in-Ok-clause-sound
returns-in-Ok-clause-sound g c =
    let core = c.args.self.now in
    let v = c.value_at.result.now in
    let w = c.seal.new.self in
    let s = sound_changed g.S.ClientSession.goes_on g.S.ClientSession.count g.S.ClientSession.since core (with_value_at core.clients c.args.i w) c.args.i v w c.requires.sound
    c.value_at.ensures.value c.seal.ensures.goes_on c.seal.ensures.count (λ past. subst (λ n. n ≤ core.moment.0) (sym c.seal.ensures.since) past) (record { entries_are = c.lending_sets_the_value.ensures core.clients c.args.i w; admitted_is = refl; most_is = refl }) in
    record { sessions = s.sessions; most = s.most; admitted = s.admitted; connections = s.connections; timers = s.timers; no_counts = s.no_counts; late = s.late }

pub returns-in-Err-clause-sealed : goal.returns-in-Err-clause-sealed
returns-in-Err-clause-sealed g c before course h =
    let core = c.args.self.now in
    let v = c.value_at.result.now in
    let w = c.seal.new.self in
    err_sealed g.S.ClientSession.stands before core c.args.out.now course h c.args.target.0 c.args.inner.now c.args.i c.requires.place c.args.to c.requires.key v w
    c.value_at.ensures.value (with_value_at core.clients c.args.i w) (c.lending_sets_the_value.ensures core.clients c.args.i w) refl refl c.seal.ensures.file
    c.seal.new.out c.report.new.out c.in-Err.field-0 c.in-Err.ensures.sealed (c.report.ensures.reported before)

pub returns-in-Err-clause-sound : goal.returns-in-Err-clause-sound
returns-in-Err-clause-sound g c =
    let core = c.args.self.now in
    let v = c.value_at.result.now in
    let w = c.seal.new.self in
    sound_changed g.S.ClientSession.goes_on g.S.ClientSession.count g.S.ClientSession.since core (with_value_at core.clients c.args.i w) c.args.i v w c.requires.sound
    c.value_at.ensures.value c.seal.ensures.goes_on c.seal.ensures.count (λ past. subst (λ n. n ≤ core.moment.0) (sym c.seal.ensures.since) past) (record { entries_are = c.lending_sets_the_value.ensures core.clients c.args.i w; admitted_is = refl; most_is = refl })

pub returns-in-Ok-clause-value : goal.returns-in-Ok-clause-value
returns-in-Ok-clause-value g c =
    let clients = c.args.self.now.clients in
    value_for c.args.target.0 c.args.i c.seal.new.self clients (with_value_at clients c.args.i c.seal.new.self) c.requires.place
    (c.lending_sets_the_value.ensures clients c.args.i c.seal.new.self) refl refl

pub returns-in-Err-clause-value : goal.returns-in-Err-clause-value
returns-in-Err-clause-value g c =
    let clients = c.args.self.now.clients in
    value_for c.args.target.0 c.args.i c.seal.new.self clients (with_value_at clients c.args.i c.seal.new.self) c.requires.place
    (c.lending_sets_the_value.ensures clients c.args.i c.seal.new.self) refl refl
