use Rattle.std.proofs.Common.{◌∙◌}
use Rattle.packet_ids.proofs.LongStanding.{long_answer_is}
use Rattle.packet_ids.proofs.long_windows.LongWindow.test.Goals as goal

pub returns-clause-exact : goal.returns-clause-exact
returns-clause-exact c = λ h s. c.judge_pair.ensures ∙ long_answer_is c.args.self.now h c.args.time c.args.id c.args.now s
