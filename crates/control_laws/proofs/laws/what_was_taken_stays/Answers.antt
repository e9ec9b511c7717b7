use Rattle.control_laws.proofs.RunLaws.{still_all}
use Rattle.control_laws.proofs.laws.what_was_taken_stays.Goals as goal

pub returns : goal.returns
returns c = still_all c.link_reads.ensures
