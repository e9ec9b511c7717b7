use Rattle.hmac_kit.specs.Hmac.{hmac}
use Rattle.hmac_kit.proofs.hmac.tag.Goals as goal

pub returns : goal.returns
unfolding hmac
returns g c = λ key text held. c.digest-2.ensures _ (rw (← (c.digest.ensures _ held.inner)) (c.absorb.ensures _ held.outer))
