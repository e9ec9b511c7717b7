use Rattle.server_answers.proofs.Looked.{state_at}
use Rattle.server_answers.proofs.ahead.longest_at.Goals as goal

pub returns : goal.returns
returns g c t x h there =
    let core = c.args.core.now in
    let n = core.turn.0 in
    c.longest_name.ensures x.session
    (state_at g.S.ClientSession.stands core t n c.args.i (c.places_tell_of_clients.ensures.there core t n c.args.i h c.requires.at.place) c.look_at.result.now c.look_at.ensures x there).session
