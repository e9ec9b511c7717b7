use Rattle.replay_links.proofs.Counts.{rises_cut}
use Rattle.replay_links.proofs.links.a_cut_is_a_failure.Goals as goal

pub returns : goal.returns
returns c = rises_cut
