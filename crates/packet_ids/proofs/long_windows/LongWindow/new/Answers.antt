use Rattle.packet_ids.proofs.LongStanding.{long_stands_begun}
use Rattle.packet_ids.proofs.long_windows.LongWindow.new.Goals as goal

pub returns : goal.returns
returns c = long_stands_begun _ c.args.n c.args.t c.in_ok-window.ensures.stamp c.in_ok-window.ensures.stands
