use Rattle.hmac_kit.specs.Hashers.{Holds}
use Rattle.hmac_kit.proofs.hmac.HmacSha256.new.Goals as goal

pub returns : goal.returns
unfolding Holds
returns c = c.keyed.ensures
