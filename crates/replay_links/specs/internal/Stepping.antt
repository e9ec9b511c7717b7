-- What reading a line of a schedule comes to.
use Rattle.std.specs.Prelude.{◌≡◌, List, Some, None}
use Rattle.vpn_links.specs.declared.events.Event.{Event}
use Rattle.replay_links.specs.declared.reading.Reading.{Reading}
use Rattle.replay_links.specs.declared.schedule.Step.{Step}
use Rattle.replay_links.specs.declared.schedule.Step.TheVariants as steps
use Rattle.replay_links.specs.Schedule.{Spelled, behind_events}

-- what it and the lines behind it spell, behind the events before
abbrev pub Went : Step → List Event → List Event → Spelled → (Reading → Spelled) → Type 0
Went (steps.More next) before now spelled more = behind_events before spelled ≡ behind_events now (more next)
Went steps.End before now spelled more = behind_events before spelled ≡ record { events = now; fault = None }
Went (steps.Fault fault) before now spelled more = behind_events before spelled ≡ record { events = now; fault = Some fault }
Went steps.Memory before now spelled more = Unit {0}

-- what holds of what is known, if lines may follow
abbrev pub IfMore : Step → (Reading → Type 0) → Type 0
IfMore (steps.More next) P = P next
IfMore steps.End P = Unit {0}
IfMore (steps.Fault fault) P = Unit {0}
IfMore steps.Memory P = Unit {0}
