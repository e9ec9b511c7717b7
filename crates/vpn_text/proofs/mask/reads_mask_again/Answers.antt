use Rattle.vpn_text.proofs.Masks.{mask_again}
use Rattle.vpn_text.proofs.mask.reads_mask_again.Goals as goal

pub returns : goal.returns
returns c = mask_again c.reads_ip4_again.ensures
