use Rattle.std.proofs.Common.{◌∙◌}
use Rattle.reliable_send.proofs.Cutting.{length-cut}
use Rattle.reliable_send.proofs.pieces.count_cut.Goals as goal

pub returns : goal.returns
returns c = c.count_pieces.ensures ∙ length-cut c.args.bytes.now
