use Rattle.std.proofs.Common.{ap, sym, ◌∙◌}
use Rattle.std.specs.Option.{option_copied}
use Rattle.peer_table.specs.Peer.{Peer}
use Rattle.server_answers.specs.internal.Ahead.{GivesName, NameFound}
use Rattle.server_answers.proofs.Readied.{if_ok}
use Rattle.server_answers.proofs.Unnamed.{found_unnamed}
use Rattle.server_answers.proofs.ahead.name_ahead.Goals as goal

pub returns-in-None : goal.returns-in-None
returns-in-None g c =
    let means = g.S.ClientSession.stands in
    if_ok (λ found. GivesName c.args.kind.now found) (λ found. (p : Peer) → means c.args.session.now p → NameFound c.args.kind.now p found) c.name_given.result c.name_given.ensures
    (λ found gives p h.
    found_unnamed c.args.kind.now p found (sym (sym (ap (λ o. option_copied o) c.in-None.is) ∙ c.name.ensures p h))
    (g.S.ClientSession.name_comes_first c.args.session.now p h) gives)
