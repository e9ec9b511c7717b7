use Rattle.std.proofs.Common.{◌≡◌, Some}
use Rattle.peer_table.specs.Peer.{Peer}
use Rattle.server_table.specs.Lookups.{client_here}
use Rattle.server_table.specs.Table.{Client, Table}
use Rattle.server_state.specs.Core.{CoreStands}
use Rattle.server_answers.proofs.Looked.{state_at}
use Rattle.server_answers.proofs.Readied.{if_ok}
use Rattle.server_answers.proofs.ahead.own_name_at.Goals as goal

pub returns : goal.returns
returns g c =
    let means = g.S.ClientSession.stands in
    let core = c.args.core.now in
    let n = core.turn.0 in
    if_ok (λ name. (p : Peer) → means c.look_at.result.now.session p → p.name ≡ Some name)
    (λ name. (t : Table) (x : Client) → CoreStands means core t → client_here t n ≡ Some x → x.session.name ≡ Some name)
    c.own_name.result c.own_name.ensures
    (λ name of t x h there.
    of x.session (state_at means core t n c.args.i (c.places_tell_of_clients.ensures.there core t n c.args.i h c.requires.at.place) c.look_at.result.now c.look_at.ensures x there).session)
