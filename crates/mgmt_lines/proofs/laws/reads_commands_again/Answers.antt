use Rattle.mgmt_lines.proofs.ReadAgain as read
use Rattle.mgmt_lines.proofs.laws.reads_commands_again.Goals as goal

pub returns-clause-name : goal.returns-clause-name
returns-clause-name c = read.name c.reads_words_again.ensures

pub returns-clause-address : goal.returns-clause-address
returns-clause-address c = read.address c.reads_words_again.ensures c.reads_ip4_again.ensures c.reads_decimal_again.ensures

pub returns-clause-client : goal.returns-clause-client
returns-clause-client c = read.client c.reads_words_again.ensures c.reads_decimal_again.ensures

pub returns-clause-interval : goal.returns-clause-interval
returns-clause-interval c = read.interval c.reads_words_again.ensures c.reads_decimal_again.ensures
