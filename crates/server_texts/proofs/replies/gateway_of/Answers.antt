use Rattle.std.proofs.Common.{arith}
use Rattle.server_texts.proofs.Spelled.{gateway_spelled}
use Rattle.server_texts.proofs.replies.gateway_of.Goals as goal

pub returns-in-Some : goal.returns-in-Some
returns-in-Some c = gateway_spelled c.args.settings.now c.in-Some.network c.net.result c.in-Some.is c.net.ensures (omega arith)
