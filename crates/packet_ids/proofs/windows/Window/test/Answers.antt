use Rattle.std.proofs.Common.{◌∙◌}
use Rattle.packet_ids.proofs.Standing.{answer_is}
use Rattle.packet_ids.proofs.windows.Window.test.Goals as goal

pub returns-clause-exact : goal.returns-clause-exact
returns-clause-exact c = λ h s. c.judge.ensures ∙ answer_is c.args.self.now h c.args.id c.args.now s
