use Rattle.std.proofs.Common.{ap, ◌∙◌}
use Rattle.push_options.specs.Parts.{reply_parts}
use Rattle.push_options.proofs.Short.{reply_short}
use Rattle.push_options.proofs.parts.reply.Goals as goal

pub returns-clause-short : goal.returns-clause-short
returns-clause-short c = λ small. rw (c.in_ok-list.ensures ∙ ap reply_parts c.as_slice.ensures) (reply_short c.args.options.now small)
