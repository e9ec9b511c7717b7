use Rattle.vpn_text.proofs.NoControl.{clean_line, clean_words}
use Rattle.vpn_text.proofs.laws.reads_no_control.Goals as goal

pub returns-clause-line : goal.returns-clause-line
returns-clause-line c = λ line words is. clean_line line words is

pub returns-clause-words : goal.returns-clause-words
returns-clause-words c = λ line words is. clean_words line words is
