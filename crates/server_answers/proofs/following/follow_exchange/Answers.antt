use Rattle.server_table.specs.Exchange as definitions
use Rattle.server_answers.proofs.following.follow_exchange.Goals as goal

pub returns-clause-followed : goal.returns-clause-followed
returns-clause-followed g c before course x h there of unread =
    c.judge_unread.ensures.judged before (definitions.exchange c.args.draw.now c.args.core.now.turn.0 course) (c.make_exchange.ensures.made before course x h there of unread)
