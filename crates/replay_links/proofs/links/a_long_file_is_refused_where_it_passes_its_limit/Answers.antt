use Rattle.replay_links.proofs.LongText.{front_spells}
use Rattle.replay_links.proofs.links.a_long_file_is_refused_where_it_passes_its_limit.Goals as goal

pub returns : goal.returns
returns c = front_spells
