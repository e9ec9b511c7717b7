use Rattle.std.proofs.Common.{◌≡◌, ◌≤◌, Some, sym, subst, ◌∙◌}
use Rattle.peer_table.specs.Exchange.{all_unread}
use Rattle.peer_table.specs.Peer.{Peer}
use Rattle.server_table.specs.Engine.{asked}
use Rattle.server_table.specs.Lookups.{client_here}
use Rattle.server_table.specs.Table.{Client}
use Rattle.server_engine.specs.Files.{NameFits}
use Rattle.server_answers.proofs.Going.{asked_so, follow_in_turn, kept_only, ready_still}
use Rattle.server_answers.proofs.Keeping.{some_is}
use Rattle.server_answers.proofs.following.follow_message.Goals as goal

pub follow_exchange-requires-clause-ready : goal.follow_exchange-requires-clause-ready
follow_exchange-requires-clause-ready g c =
    ready_still g.S.ClientSession.may_exchange c.args.core.now c.ask_file.new.core c.args.i c.ask_file.ensures.ready c.ask_file.ensures.turn_stays c.requires.ready

pub follow_exchange-requires-clause-kept : goal.follow_exchange-requires-clause-kept
follow_exchange-requires-clause-kept g c = kept_only c.args.core.now c.ask_file.new.core c.args.prepared c.ask_file.ensures.only c.requires.kept

pub returns-clause-followed : goal.returns-clause-followed
returns-clause-followed g c before course x h there of unread fits =
    let means = g.S.ClientSession.stands in
    let core = c.args.core.now in
    let n = core.turn.0 in
    let a = asked_so c.what_is_made_stays.ensures n course x there in
    let short = λ (y : Client) (at : client_here course.table n ≡ Some y). subst (λ (x : Client). NameFits c.args.longest x.session.name) (some_is x y (sym there ∙ at)) fits in
    follow_in_turn means before c.ask_file.new.core c.follow_exchange.new.core c.ask_file.new.out c.follow_exchange.new.out c.args.draw.now core.turn (asked n course) c.args.prepared c.args.left
    c.ask_file.ensures.turn_stays (λ d y hd at of less. c.follow_exchange.ensures.followed before d y hd at of less)
    (c.ask_file.ensures.asked before course h short) a.client a.there (a.prepared c.args.prepared of)
    (subst (λ (p : Peer). all_unread p.sessions ≤ c.args.left) (sym a.session) unread)
