use Rattle.std.proofs.Common.{◌≡◌, Some}
use Rattle.peer_table.specs.Peer.{Peer}
use Rattle.server_table.specs.Lookups.{client_here}
use Rattle.server_table.specs.Table.{Client, Table}
use Rattle.server_state.specs.Core.{CoreStands}
use Rattle.server_answers.specs.internal.Ahead.{NameFound}
use Rattle.server_answers.proofs.Looked.{state_at}
use Rattle.server_answers.proofs.Readied.{if_ok}
use Rattle.server_answers.proofs.ahead.name_at.Goals as goal

pub returns : goal.returns
returns g c =
    let means = g.S.ClientSession.stands in
    let core = c.args.core.now in
    let n = core.turn.0 in
    if_ok (λ found. (p : Peer) → means c.look_at.result.now.session p → NameFound c.args.kind.now p found)
    (λ found. (t : Table) (x : Client) → CoreStands means core t → client_here t n ≡ Some x → NameFound c.args.kind.now x.session found)
    c.name_ahead.result c.name_ahead.ensures
    (λ found of t x h there.
    of x.session (state_at means core t n c.args.i (c.places_tell_of_clients.ensures.there core t n c.args.i h c.requires.at.place) c.look_at.result.now c.look_at.ensures x there).session)
