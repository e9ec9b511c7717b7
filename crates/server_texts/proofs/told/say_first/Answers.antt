use Rattle.std.proofs.Common.{◌∙◌}
use Rattle.server_texts.proofs.Items.{both_more}
use Rattle.server_texts.proofs.told.say_first.Goals as goal

pub returns-clause-said : goal.returns-clause-said
returns-clause-said c = (
  both_more _ _ _ _ _ _ _ c.say.ensures.said.0 c.say-2.ensures.said.0 c.established.ensures.text c.own_address.ensures.text,
  c.say-2.ensures.said.1 ∙ c.say.ensures.said.1,
)
