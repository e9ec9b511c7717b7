use Rattle.std.proofs.Common.{◌≡◌, ℕ, ◌+◌, ◌-◌, ◌≤◌, ◌^◌, List, length}
use Rattle.vpn_top.specs.internal.Going.{Going}
use Rattle.vpn_top.proofs.route.route_pieces.Given as goal

abbrev pub invariant-loop-next : goal.invariant-loop-next
invariant-loop-next g l =
    let holds = g.F.Files.holds in
    let contents = g.S.Sink.contents in
    record {
      going : Going (holds l.fn.files l.name) (contents l.fn.out) (contents l.out) l.at l.reader;
      place : l.at ≡ l.reader.bytes + length l.reader.kept;
      small : l.at ≤ 2 ^ 40;
      kept : (other : List ℕ) → holds l.files other ≡ holds l.fn.files other;
      files_count : g.F.Files.faults l.fn.files ≤ g.F.Files.faults l.files;
      out_count : g.S.Sink.faults l.fn.out ≤ g.S.Sink.faults l.out;
    }

abbrev pub decreases-loop-next : goal.decreases-loop-next
decreases-loop-next g l = 2 ^ 40 - l.at
