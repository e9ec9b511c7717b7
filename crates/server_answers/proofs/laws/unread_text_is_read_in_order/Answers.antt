use Rattle.server_answers.proofs.Unread.{engine_less, exchange_less, message_less, none_keyless, none_left}
use Rattle.server_answers.proofs.laws.unread_text_is_read_in_order.Goals as goal

pub returns-clause-message : goal.returns-clause-message
returns-clause-message c = λ p m is. message_less p m is

pub returns-clause-nothing : goal.returns-clause-nothing
returns-clause-nothing c = λ p none. none_left p none

pub returns-clause-exchange : goal.returns-clause-exchange
returns-clause-exchange c = λ policy peer_id draw p nothing. exchange_less policy peer_id draw p nothing

pub returns-clause-engine : goal.returns-clause-engine
returns-clause-engine c = λ kind now p. engine_less kind now p

pub returns-clause-keyless : goal.returns-clause-keyless
returns-clause-keyless c = λ p none. none_keyless p none
