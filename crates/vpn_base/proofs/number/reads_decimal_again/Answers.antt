use Rattle.vpn_base.proofs.Decimals.{reads_decimal}
use Rattle.vpn_base.proofs.number.reads_decimal_again.Goals as goal

pub returns : goal.returns
returns c = reads_decimal
