-- The events of a replay are the first of those that its schedule spells.
use Rattle.std.proofs.Common.{◌≡◌, ◌++◌, Bool, true, false, List, [], ◌∷◌, length, append_assoc, append-nil, ap, sym, ◌∙◌, ℕ, Option, None, IsTrue}
use Rattle.vpn_base.specs.Files.{Holding}
use Rattle.vpn_links.specs.declared.events.Event.{Event}
use Rattle.vpn_node.specs.Running.{stops_only_last}
use Rattle.replay_links.specs.Replay.{Beyond, Came, HasGiven, Within}
use Rattle.replay_links.specs.Schedule.{EndWithHalt, spells}
use Rattle.replay_links.specs.declared.reading.LineFault.{LineFault}
use Rattle.server_table.specs.Runs.{Entry, MayRun, run}
use Rattle.server_table.specs.Table.{Table}
use Rattle.server_replay.specs.Replays.{AreSpelled}
use Rattle.server_replay.specs.Runs.{events_of}
use Rattle.server_replay.proofs.Halts.{EndStops, TakesYet, ends_once}

-- the law of a schedule: where none of its lines is refused, the last of its events ends the program
abbrev pub WholeEnds : Type 0
WholeEnds = (text : List ℕ) → (spells text).fault ≡ None → EndWithHalt (spells text).events

-- those that came are the first that are spelled
spelled_once : WholeEnds → EndStops → (t : Table) (entries : List Entry) (text : List ℕ) (left : List Event) → TakesYet t (length entries) → MayRun t entries → IsTrue (stops_only_last (run t entries)) →
    HasGiven (spells text) (events_of entries) left → (spells text).events ≡ events_of entries ++ left
spelled_once whole law t entries text left takes may only (Within all) = all
spelled_once whole law t entries text left takes may only (Beyond halts all are none fault) =
    let e = whole text fault in
    let came : events_of entries ≡ e.before ++ e.last ∷ halts =
    all ∙ (ap (λ (l : List Event). l ++ halts) e.all ∙ append_assoc e.before (e.last ∷ []) halts) in
    let no_more = ends_once law t entries e.before e.last halts takes may only e.halts came in
    sym (ap (λ (l : List Event). events_of entries ++ l) none ∙ (append-nil (events_of entries) ∙ (all ∙ (ap (λ (l : List Event). (spells text).events ++ l) no_more ∙ append-nil (spells text).events))))

pub first_spelled : WholeEnds → EndStops → (t : Table) (entries : List Entry) (holding : Holding) (is_read : Bool) (text : List ℕ) (left : List Event) (fault : Option LineFault) →
    TakesYet t (length entries) → MayRun t entries → IsTrue (stops_only_last (run t entries)) →
    Came holding is_read text left fault (events_of entries) → AreSpelled holding is_read text left fault (events_of entries)
first_spelled whole law t entries holding false text left fault takes may only came = came
first_spelled whole law t entries holding true text left fault takes may only came =
    (came.0, spelled_once whole law t entries text left takes may only came.1, sym came.2)
