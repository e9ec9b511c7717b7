use Rattle.ovpn_config.proofs.RoundBounds.{bounded}
use Rattle.ovpn_config.proofs.laws.settings_are_bounded.Goals as goal

pub returns : goal.returns
returns c = λ text s read. bounded c.texts_are_read_again.ensures text s read
