use Rattle.server_table.specs.Exchange.{messages_taken}
use Rattle.server_answers.proofs.following.follow_going.Goals as goal

pub returns-clause-followed : goal.returns-clause-followed
returns-clause-followed g c before course x h there of unread =
    c.judge_unread.ensures.judged before (messages_taken c.args.core.now.turn.0 course) (c.read_messages.ensures.taken before course x h there of unread)
