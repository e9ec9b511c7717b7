use Rattle.vpn_text.proofs.Again.{words_again}
use Rattle.vpn_text.proofs.quoting.reads_words_again.Goals as goal

pub returns : goal.returns
returns c = words_again
