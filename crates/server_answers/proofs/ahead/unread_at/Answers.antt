use Rattle.std.proofs.Common.{◌≡◌, ◌+◌, ◌≤◌, Some}
use Rattle.peer_table.specs.Exchange.{all_unread}
use Rattle.peer_table.specs.Peer.{Peer}
use Rattle.server_table.specs.Lookups.{client_here}
use Rattle.server_table.specs.Table.{Client, Table}
use Rattle.server_state.specs.Core.{CoreStands}
use Rattle.server_answers.proofs.Looked.{state_at}
use Rattle.server_answers.proofs.Readied.{if_ok}
use Rattle.server_answers.proofs.ahead.unread_at.Goals as goal

pub returns : goal.returns
returns g c =
    let means = g.S.ClientSession.stands in
    let core = c.args.core.now in
    let n = core.turn.0 in
    if_ok (λ left. (p : Peer) → means c.look_at.result.now.session p → all_unread p.sessions + c.args.more ≤ left)
    (λ left. (t : Table) (x : Client) → CoreStands means core t → client_here t n ≡ Some x → all_unread x.session.sessions + c.args.more ≤ left)
    c.unread_with.result c.unread_with.ensures
    (λ left of t x h there.
    of x.session (state_at means core t n c.args.i (c.places_tell_of_clients.ensures.there core t n c.args.i h c.requires.at.place) c.look_at.result.now c.look_at.ensures x there).session)
