use Rattle.std.proofs.Common.{rules}
use Rattle.peer_lines.proofs.open_link.OpenLink.say.Goals as goal

pub returns-clause-left : goal.returns-clause-left
returns-clause-left g c = λ is_open l h stands wraps. c.say-answer.ensures.left l h (search rules) wraps
