use Rattle.std.proofs.Common.{◌≡◌, ◌≤◌, ◌+◌, length}
use Rattle.vpn_base.specs.Lines.{lines_of}
use Rattle.replay_links.specs.Schedule.{behind_events, spelled_from, spells}
use Rattle.replay_links.proofs.schedule.spell.Given as goal

-- the events so far stand before what the rest spells
abbrev pub invariant-lines : goal.invariant-lines
invariant-lines l = record {
  same : spells l.fn.text ≡ behind_events l.events (spelled_from (lines_of l.rest) l.reading);
  bytes : l.reading.bytes + length l.rest ≡ length l.text;
  lines : l.reading.line ≤ l.reading.bytes;
  few : l.reading.number ≤ l.reading.bytes;
}

abbrev pub decreases-lines : goal.decreases-lines
decreases-lines l = length l.rest
