-- What a schedule spells: events up to its end, or up to its first fault.
use Rattle.std.specs.Prelude.{◌≡◌, ℕ, ◌+◌, ◌^◌, nat_lt, Bool, true, false, List, [], ◌∷◌, ◌++◌, codes, take, Option, Some, None, Result, Ok, Err, if◌then◌else◌}
use Rattle.std.specs.Str.{bytes_eq}
use Rattle.vpn_base.specs.Lines.{Line, content, lines_of, size}
use Rattle.vpn_links.specs.declared.events.Event.{Event}
use Rattle.vpn_links.specs.declared.events.Kind.TheVariants.{Halt}
use Rattle.schedule_text.specs.declared.event_line.Line.{Line as EventLine}
use Rattle.schedule_text.specs.declared.event_line.Line.TheVariants as lines
use Rattle.schedule_text.specs.declared.kind.TextKind.{TextKind}
use Rattle.schedule_text.specs.declared.kind.TextKind.TheVariants as kinds
use Rattle.schedule_text.specs.Draws.{draw_of}
use Rattle.schedule_text.specs.EventLine.{event_line}
use Rattle.schedule_text.specs.Words.{words_of}
use Rattle.replay_links.specs.declared.reading.Reading.{Reading}
use Rattle.replay_links.specs.declared.reading.Place.{Place}
use Rattle.replay_links.specs.declared.reading.Place.TheVariants as places
use Rattle.replay_links.specs.declared.reading.LineFault.{LineFault}

-- the longest file, in bytes
abbrev pub longest_file : ℕ
longest_file = 2 ^ 40

-- ---- a line where it stands

-- the first line that is not blank names the format
abbrev pub at_first : Result EventLine TextKind → Result EventLine TextKind
at_first (Err kinds.Long) = Err kinds.Long
at_first (Ok lines.Blank) = Ok lines.Blank
at_first (Ok lines.Header) = Ok lines.Header
at_first _ = Err kinds.Header

-- the format is named only once
abbrev pub at_seed : Result EventLine TextKind → Result EventLine TextKind
at_seed (Ok lines.Header) = Err kinds.Words
at_seed line = line

-- the seed may stand only right behind it, so another line that begins with its word is of unknown words
abbrev pub at_events : Bool → Result EventLine TextKind → Result EventLine TextKind
at_events true (Err kinds.Long) = Err kinds.Long
at_events true _ = Err kinds.Words
at_events false (Ok lines.Header) = Err kinds.Words
at_events false line = line

-- whether the first word is that of a seed
abbrev pub names_seed : List (List ℕ) → Bool
names_seed [] = false
names_seed (word ∷ words) = bytes_eq word (codes "seed")

-- by the place of the line
abbrev pub placed : Place → Bool → Result EventLine TextKind → Result EventLine TextKind
placed places.First is_seed line = at_first line
placed places.Seed is_seed line = at_seed line
placed places.Events is_seed line = at_events is_seed line

-- the line of this size that has this content; one that ends past the limit of the file is too long
abbrev pub judged : Reading → ℕ → List ℕ → Result EventLine TextKind
judged r n text =
    if nat_lt longest_file (r.bytes + n) then Err kinds.Long
    else placed r.place (names_seed (words_of text)) (event_line text r.number r.seed)

-- ---- what is known behind a line

-- behind a line of this size
abbrev pub passed : Reading → ℕ → Reading
passed r n = record r { line = r.line + 1; bytes = r.bytes + n }

-- behind an event
abbrev pub stepped : Reading → ℕ → Event → Reading
stepped r n event = record r { place = places.Events; number = r.number + 1; line = r.line + 1; bytes = r.bytes + n; last = event.now }

-- the event of the line that ends a schedule: its moment is that of the event before it
abbrev pub halt_at : Reading → Event
halt_at r = record { now = r.last; draw = record { 0 = draw_of r.seed r.number }; kind = Halt }

-- ---- the events

-- the events of a schedule, and the fault behind them, if there is one
pub record Spelled : Type 0 where
  pub events : List Event
  pub fault : Option LineFault

-- events before what else is spelled
abbrev pub behind_events : List Event → Spelled → Spelled
behind_events events s = record { events = events ++ s.events; fault = s.fault }

-- what a line and the lines behind it spell
abbrev pub spelled_at : Reading → ℕ → Result EventLine TextKind → (Reading → Spelled) → Spelled
spelled_at r n (Err kind) rest = record { events = []; fault = Some (record { line = r.line + 1; kind = kind }) }
spelled_at r n (Ok lines.Blank) rest = rest (passed r n)
spelled_at r n (Ok lines.Header) rest = rest (record (passed r n) { place = places.Seed })
spelled_at r n (Ok (lines.Seed seed)) rest = rest (record (passed r n) { place = places.Events; seed = seed })
spelled_at r n (Ok (lines.Step event)) rest = behind_events (event ∷ []) (rest (stepped r n event))
spelled_at r n (Ok lines.End) rest = record { events = halt_at r ∷ []; fault = None }

-- what lines spell, behind those that were read
unfoldable pub spelled_from : List Line → Reading → Spelled
spelled_from [] r = record { events = []; fault = Some (record { line = r.line; kind = kinds.NoEnd }) }
spelled_from (line ∷ more) r = spelled_at r (size line) (judged r (size line) (content line)) (spelled_from more)

-- before the first line
abbrev pub begun : Reading
begun = record { place = places.First; seed = 0; number = 0; line = 0; bytes = 0; last = record { 0 = 0 } }

-- what a text spells
unfoldable pub spells : List ℕ → Spelled
spells text = spelled_from (lines_of text) begun

-- what a file spells: of one over its limit the first byte past that counts, and makes its line too long
abbrev pub schedule_of : List ℕ → Spelled
schedule_of held = spells (take (longest_file + 1) held)

-- ---- a schedule that is spelled whole

-- the last of these events ends the program
pub record EndWithHalt (events : List Event) : Type 0 where
  pub before : List Event
  pub last : Event
  pub all : events ≡ before ++ last ∷ []
  pub halts : last.kind ≡ Halt
