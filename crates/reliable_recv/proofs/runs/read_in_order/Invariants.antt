use Rattle.std.proofs.Common.{◌≡◌, ◌-◌, ◌^◌}
use Rattle.reliable_recv.specs.Receiving.{Receiving}
use Rattle.reliable_recv.specs.Sides.{Stands}
use Rattle.reliable_recv.specs.Runs.{text_read}
use Rattle.reliable_recv.proofs.Reading.{read_to}
use Rattle.reliable_recv.proofs.runs.read_in_order.Given as goal

abbrev pub invariant-payloads : goal.invariant-payloads
invariant-payloads l = record {
  waiting : l.side.kept.waiting ≡ l.fn.side.kept.waiting;
  stands : (h : Receiving) → Stands l.fn.side h → Stands l.side (read_to l.side.kept.read h);
  text : (h : Receiving) → Stands l.fn.side h → l.fn.text.items ≡ text_read h → l.text.items ≡ text_read (read_to l.side.kept.read h);
}

abbrev pub decreases-payloads : goal.decreases-payloads
decreases-payloads l = 2 ^ 32 - l.side.kept.read
