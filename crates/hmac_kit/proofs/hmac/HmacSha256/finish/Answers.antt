use Rattle.hmac_kit.specs.Hashers.{Holds}
use Rattle.hmac_kit.proofs.hmac.HmacSha256.finish.Goals as goal

pub returns : goal.returns
unfolding Holds
returns c = λ key text held. c.tag.ensures key text held
