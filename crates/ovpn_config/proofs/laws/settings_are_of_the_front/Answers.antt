use Rattle.ovpn_config.proofs.Fronts.{front_decides}
use Rattle.ovpn_config.proofs.laws.settings_are_of_the_front.Goals as goal

pub returns : goal.returns
returns c = λ text. front_decides text
