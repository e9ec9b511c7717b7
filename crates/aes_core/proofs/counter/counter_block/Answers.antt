use Rattle.aes_core.proofs.WordBytes.{counter_bytes}
use Rattle.aes_core.proofs.counter.counter_block.Goals as goal

pub returns : goal.returns
returns c = counter_bytes c.args.counter
