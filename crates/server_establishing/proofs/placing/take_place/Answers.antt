use Rattle.client_table.specs.Tables.{entries_of, with_value_at}
use Rattle.server_establishing.proofs.Placed.{changes_are, placed, placed_sound, value_was, within_still}
use Rattle.server_establishing.proofs.placing.take_place.Goals as goal

pub value_at-requires : goal.value_at-requires
value_at-requires g c =
    within_still (entries_of c.args.core.now.clients) (entries_of c.establish.new.self) c.args.cid.0 c.args.i c.args.name c.establish.ensures.entries_are
    c.requires.place c.requires.within

pub returns-clause-placed : goal.returns-clause-placed
returns-clause-placed g c t x h there none named =
    let means = g.S.ClientSession.stands in
    let core = c.args.core.now in
    let v = c.value_at.result.now in
    let w = c.set_address.new.client in
    let first = c.establish.ensures.entries_are in
    let ct = with_value_at c.establish.new.self c.args.i w in
    placed means core c.args.cid.0 c.args.i v c.args.name c.args.address t ct h
    (c.places_tell_of_clients.ensures.there core t c.args.cid.0 c.args.i h c.requires.place) x there none named
    (value_was means core c.args.cid.0 c.args.i v c.args.name c.args.address c.establish.new.self first c.requires.place c.value_at.ensures.value)
    (changes_are means core c.args.cid.0 c.args.i v c.args.name c.args.address c.establish.new.self ct w
    (c.lending_sets_the_value.ensures c.establish.new.self c.args.i w) first c.requires.place c.set_address.ensures)
    c.establish.ensures.admitted_is c.establish.ensures.most_is c.requires.held

pub returns-clause-sound : goal.returns-clause-sound
returns-clause-sound g c h =
    let means = g.S.ClientSession.stands in
    let core = c.args.core.now in
    let v = c.value_at.result.now in
    let w = c.set_address.new.client in
    let first = c.establish.ensures.entries_are in
    let ct = with_value_at c.establish.new.self c.args.i w in
    let s = placed_sound means core c.args.cid.0 c.args.i v c.args.name c.args.address g.S.ClientSession.goes_on g.S.ClientSession.count g.S.ClientSession.since ct h
    (value_was means core c.args.cid.0 c.args.i v c.args.name c.args.address c.establish.new.self first c.requires.place c.value_at.ensures.value)
    (changes_are means core c.args.cid.0 c.args.i v c.args.name c.args.address c.establish.new.self ct w
    (c.lending_sets_the_value.ensures c.establish.new.self c.args.i w) first c.requires.place c.set_address.ensures)
    c.establish.ensures.admitted_is c.establish.ensures.most_is in
    record { sessions = s.sessions; most = s.most; admitted = s.admitted; connections = s.connections; timers = s.timers; no_counts = s.no_counts; late = s.late }
