use Rattle.hmac_kit.specs.Hashers.{Holds}
use Rattle.hmac_kit.proofs.hmac.HmacSha256.update.Goals as goal

pub returns : goal.returns
unfolding Holds
returns c = λ key text held. c.feed.ensures key text held
