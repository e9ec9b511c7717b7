-- The next line of a schedule.
use Rattle.std.proofs.Common.{◌≡◌, ℕ, ◌-◌, List, [], ◌∷◌, length, refl, ap, ◌∙◌, arith, append-nil, Some}
use Rattle.vpn_base.specs.Lines.{BeginsWith, Line, content, lines_of, size}
use Rattle.vpn_links.specs.declared.events.Event.{Event}
use Rattle.schedule_text.specs.declared.kind.TextKind.TheVariants as kinds
use Rattle.replay_links.specs.declared.reading.Reading.{Reading}
use Rattle.replay_links.specs.Schedule.{behind_events, judged, spelled_at, spelled_from}

one_line : (r : Reading) (line : Line) (more : List Line) →
    spelled_from (line ∷ more) r ≡ spelled_at r (size line) (judged r (size line) (content line)) (spelled_from more)
unfolding spelled_from
one_line r line more = refl

-- a text that begins with a line spells what the line and the text behind it spell
pub line_next : (r : Reading) (rest line behind : List ℕ) (n : ℕ) → n ≡ length rest - length behind → BeginsWith rest line behind →
    spelled_from (lines_of rest) r ≡ spelled_at r n (judged r n line) (spelled_from (lines_of behind))
line_next r rest line behind n is b =
    let takes : size b.first ≡ n = omega (arith, is, b.takes) in
    ap (λ l. spelled_from l r) b.begins
    ∙ (one_line r b.first (lines_of behind)
    ∙ (ap (λ (m : ℕ). spelled_at r m (judged r m (content b.first)) (spelled_from (lines_of behind))) takes
    ∙ ap (λ t. spelled_at r n (judged r n t) (spelled_from (lines_of behind))) b.shows))

-- no text has no line
pub no_line : (r : Reading) (rest : List ℕ) → rest ≡ [] → spelled_from (lines_of rest) r ≡ record { events = []; fault = Some (record { line = r.line; kind = kinds.NoEnd }) }
unfolding lines_of spelled_from
no_line r rest is = ap (λ t. spelled_from (lines_of t) r) is

-- behind these events, nothing more
pub none_behind : (events : List Event) (r : Reading) (rest : List ℕ) → rest ≡ [] →
    behind_events events (spelled_from (lines_of rest) r) ≡ record { events = events; fault = Some (record { line = r.line; kind = kinds.NoEnd }) }
none_behind events r rest is =
    ap (behind_events events) (no_line r rest is)
    ∙ ap (λ (l : List Event). record { events = l; fault = Some (record { line = r.line; kind = kinds.NoEnd }) }) (append-nil events)
