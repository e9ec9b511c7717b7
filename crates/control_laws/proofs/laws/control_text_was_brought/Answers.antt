use Rattle.control_laws.proofs.RunLaws.{brought_all, kid_is}
use Rattle.control_laws.proofs.laws.control_text_was_brought.Goals as goal

pub returns-clause-brought : goal.returns-clause-brought
returns-clause-brought c = brought_all c.link_reads.ensures

pub returns-clause-kid : goal.returns-clause-kid
returns-clause-kid c = kid_is c.link_reads.ensures
