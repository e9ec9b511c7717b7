use Rattle.replay_links.proofs.WholeSchedules.{whole_ends}
use Rattle.replay_links.proofs.links.a_whole_schedule_ends_the_program.Goals as goal

pub returns : goal.returns
returns c = whole_ends
