use Rattle.std.proofs.Common.{◌==◌, sym}
use Rattle.vpn_base.proofs.Splitting.{position_first}
use Rattle.vpn_base.proofs.address.first_place.Goals as goal

pub returns : goal.returns
returns c = sym (position_first (λ b. b == c.args.byte) c.args.text.now c.memchr.result c.memchr.ensures)
