use Rattle.reliable_recv.proofs.Reading.{reached_begun, reached_next, packet_read, packet_text, reached_read, text_reached}
use Rattle.reliable_recv.proofs.runs.reads_packets.Goals as goal

pub returns : goal.returns
returns c = record { first = reached_begun; next = reached_next; read = packet_read; before = packet_text; here = reached_read; text = text_reached }
