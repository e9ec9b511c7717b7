use Rattle.push_options.proofs.Collected.{reply_collected}
use Rattle.push_options.proofs.collector.collects_a_reply.Goals as goal

pub returns : goal.returns
returns c = reply_collected
