use Rattle.vpn_base.proofs.AddressText.{reads_ip4}
use Rattle.vpn_base.proofs.writing.reads_ip4_again.Goals as goal

pub returns : goal.returns
returns c = reads_ip4
