use Rattle.ovpn_config.proofs.RoundTrip.{round_trip}
use Rattle.ovpn_config.proofs.laws.reads_config_again.Goals as goal

pub returns : goal.returns
returns c = λ text s read keeps. round_trip c.texts_are_read_again.ensures text s read keeps
