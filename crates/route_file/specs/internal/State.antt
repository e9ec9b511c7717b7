-- The state of a reader as the progress that it stands for.
use Rattle.std.specs.Prelude.{ℕ, List, []}
use Rattle.std.specs.String.{string_bytes}
use Rattle.vpn_base.specs.Lines.{Line}
use Rattle.route_file.specs.Output.{Outcome}
use Rattle.route_file.specs.Progress.{Progress, outcome_of}
use Rattle.route_file.specs.declared.state.State.{State}

-- with the front of the next line
abbrev pub progress_of : State → List ℕ → Progress
progress_of s kept = record {
  printed = string_bytes s.text;
  table = record { rows = s.table.rows; subnet = s.subnet; between = s.between; keys = s.keys.items };
  count = s.count;
  bytes = s.bytes;
  kept = kept;
}

-- the outcome of lines behind a state
abbrev pub outcome_behind : State → List Line → Outcome
outcome_behind s lines = outcome_of (progress_of s []) lines
