use Rattle.reliable_recv.proofs.Reading.{read_on, read_ends, read_full, read_whole, read_text}
use Rattle.reliable_recv.proofs.runs.reads_in_order.Goals as goal

pub returns : goal.returns
returns c = record { goes_on = read_on; ends = read_ends; full = read_full; whole = read_whole; text = read_text }
