use Rattle.control_link.proofs.TextLaws.{Reads, Takes, given, no_text_next, nothing_read, ready_side, said_side, ticked_side, waits_none, whole_text}
use Rattle.control_link.proofs.laws.reads_what_is_given.Goals as goal

-- what the receiving side says of reading and of packets
reads : (c : goal.After-reads_packets) → Reads
reads c = record { goes_on = c.reads_in_order.ensures.goes_on; ends = c.reads_in_order.ensures.ends; whole = c.reads_in_order.ensures.whole; text = c.reads_in_order.ensures.text }

takes : (c : goal.After-reads_packets) → Takes
takes c = record {
  next = c.reads_packets.ensures.next;
  read = c.reads_packets.ensures.read;
  before = c.reads_packets.ensures.before;
  here = c.reads_packets.ensures.here;
  text = c.reads_packets.ensures.text;
}

pub returns : goal.returns
returns c = record {
  begun = waits_none;
  none = no_text_next;
  still = nothing_read;
  whole = whole_text (reads c) (takes c);
  given = λ l h v remote now up. (given (reads c) (takes c) l h v remote now up).text;
  taken = λ l h v remote now up. (given (reads c) (takes c) l h v remote now up).taken;
  again = λ l h v remote now up. (given (reads c) (takes c) l h v remote now up).up;
  said = said_side;
  ready = ready_side;
  ticked = ticked_side;
}
