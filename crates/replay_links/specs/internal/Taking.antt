-- What a line of a schedule that is right comes to.
use Rattle.std.specs.Prelude.{ℕ, true, false, Some, None}
use Rattle.schedule_text.specs.declared.event_line.Line.{Line}
use Rattle.schedule_text.specs.declared.event_line.Line.TheVariants as lines
use Rattle.replay_links.specs.declared.reading.Reading.{Reading}
use Rattle.replay_links.specs.declared.reading.Taken.{Taken}
use Rattle.replay_links.specs.declared.reading.Place.TheVariants as places
use Rattle.replay_links.specs.Schedule.{halt_at, passed, stepped}

-- what is known behind it, and its event
abbrev pub taken_of : Reading → ℕ → Line → Taken
taken_of r n lines.Blank = record { reading = passed r n; event = None; ends = false }
taken_of r n lines.Header = record { reading = record (passed r n) { place = places.Seed }; event = None; ends = false }
taken_of r n (lines.Seed seed) = record { reading = record (passed r n) { place = places.Events; seed = seed }; event = None; ends = false }
taken_of r n (lines.Step event) = record { reading = stepped r n event; event = Some event; ends = false }
taken_of r n lines.End = record { reading = passed r n; event = Some (halt_at r); ends = true }
