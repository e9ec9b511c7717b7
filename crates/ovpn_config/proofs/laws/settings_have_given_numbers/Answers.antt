use Rattle.ovpn_config.proofs.OwnNumbers.{own_numbers}
use Rattle.ovpn_config.proofs.laws.settings_have_given_numbers.Goals as goal

pub returns : goal.returns
returns c = λ text s directives read is. own_numbers c.texts_are_read_again.ensures text s directives read is
