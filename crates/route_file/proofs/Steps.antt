-- The outcome of a line and of the lines behind it.
use Rattle.std.proofs.Common.{◌≡◌, ℕ, ◌+◌, ◌≤◌, ◌<◌, List, ◌∷◌, ◌++◌, append-nil, append_assoc, refl, arith}
use Rattle.std.specs.Prelude.{Some, Ok, Err}
use Rattle.schedule_text.specs.declared.kind.TextKind.{TextKind}
use Rattle.schedule_text.specs.declared.kind.TextKind.TheVariants as kinds
use Rattle.schedule_text.specs.declared.route_line.RouteLine.{RouteLine}
use Rattle.schedule_text.specs.RouteLine.{route_line}
use Rattle.vpn_base.specs.Lines.{Line, content, size}
use Rattle.route_file.specs.Output.{outcome_from, judged, answer, after, longest_file}
use Rattle.route_file.specs.Progress.{Progress, outcome_of, Ends}

-- a line past the limit of the file is too long
pub past_limit : (end : ℕ) (line : Line) → longest_file < end → judged end line ≡ Err kinds.Long
past_limit end line more = grind arith

-- any other line is judged by itself
pub within_limit : (end : ℕ) (line : Line) → end ≤ longest_file → judged end line ≡ route_line (content line)
within_limit end line fits = grind arith

-- a faulty line ends the outcome
pub refused_at : (p : Progress) (line : Line) (kind : TextKind) → judged (p.bytes + size line) line ≡ Err kind →
    (rest : List Line) → Ends (outcome_of p (line ∷ rest)) p.printed (Some (p.count + 1, kind))
unfolding outcome_from
refused_at p line kind faulty rest =
    rw (faulty, append-nil p.printed) refl

-- any other line prints its answer and sets up what it sets up
pub read_on : (p q : Progress) (line : Line) (l : RouteLine) → judged (p.bytes + size line) line ≡ Ok l →
    q.printed ≡ p.printed ++ answer p.table l → q.table ≡ after p.table l → q.count ≡ p.count + 1 → q.bytes ≡ p.bytes + size line →
    (rest : List Line) → outcome_of p (line ∷ rest) ≡ outcome_of q rest
unfolding outcome_from
read_on p q line l good printed table count bytes rest =
    rw (good, printed, table, count, bytes) (simp append_assoc)
