-- A schedule that is spelled whole ends the program.
use Rattle.std.proofs.Common.{◌≡◌, ℕ, List, [], ◌∷◌, refl, ap, sym, None, Err, Ok, Result}
use Rattle.std.proofs.lemmas.Option.{none-some}
use Rattle.vpn_base.specs.Lines.{Line, content, lines_of, size}
use Rattle.schedule_text.specs.declared.event_line.Line.{Line as EventLine}
use Rattle.schedule_text.specs.declared.event_line.Line.TheVariants as lines
use Rattle.schedule_text.specs.declared.kind.TextKind.{TextKind}
use Rattle.vpn_links.specs.declared.events.Event.{Event}
use Rattle.replay_links.specs.declared.reading.Reading.{Reading}
use Rattle.replay_links.specs.declared.reading.Place.TheVariants as places
use Rattle.replay_links.specs.Schedule.{EndWithHalt, Spelled, begun, halt_at, judged, passed, spelled_at, spelled_from, spells, stepped}

-- one more event in front
longer : (event : Event) (events : List Event) → EndWithHalt events → EndWithHalt (event ∷ events)
longer event events e = record { before = event ∷ e.before; last = e.last; all = ap (λ (l : List Event). event ∷ l) e.all; halts = e.halts }

by_line : (r : Reading) (n : ℕ) (line : Result EventLine TextKind) (rest : Reading → Spelled) → ((s : Reading) → (rest s).fault ≡ None → EndWithHalt (rest s).events) →
    (spelled_at r n line rest).fault ≡ None → EndWithHalt (spelled_at r n line rest).events
by_line r n (Err kind) rest ends none = absurd (none-some _ (sym none))
by_line r n (Ok lines.Blank) rest ends none = ends (passed r n) none
by_line r n (Ok lines.Header) rest ends none = ends (record (passed r n) { place = places.Seed }) none
by_line r n (Ok (lines.Seed seed)) rest ends none = ends (record (passed r n) { place = places.Events; seed = seed }) none
by_line r n (Ok (lines.Step event)) rest ends none = longer event (rest (stepped r n event)).events (ends (stepped r n event) none)
by_line r n (Ok lines.End) rest ends none = record { before = []; last = halt_at r; all = refl; halts = refl }

by_lines : (rows : List Line) (r : Reading) → (spelled_from rows r).fault ≡ None → EndWithHalt (spelled_from rows r).events
unfolding spelled_from
by_lines [] r none = absurd (none-some _ (sym none))
by_lines (line ∷ more) r none = by_line r (size line) (judged r (size line) (content line)) (spelled_from more) (by_lines more) none

pub whole_ends : (text : List ℕ) → (spells text).fault ≡ None → EndWithHalt (spells text).events
unfolding spells
whole_ends text none = by_lines (lines_of text) begun none
