use Rattle.server_establishing.proofs.Kept.{again_then}
use Rattle.server_establishing.proofs.laws.the_same_reply_is_written_again.Goals as goal

pub returns : goal.returns
returns c course n conn ahead x y there none named file made is = again_then course n conn ahead x y there none named file made is
