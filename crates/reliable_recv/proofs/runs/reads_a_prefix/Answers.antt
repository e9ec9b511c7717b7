use Rattle.reliable_recv.proofs.Prefixes.{text_is_prefix}
use Rattle.reliable_recv.proofs.runs.reads_a_prefix.Goals as goal

pub returns : goal.returns
returns c = text_is_prefix
