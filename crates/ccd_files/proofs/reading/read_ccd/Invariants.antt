use Rattle.std.proofs.Common.{◌≡◌, ◌≤◌, length}
use Rattle.vpn_base.specs.Lines.{lines_of}
use Rattle.ccd_files.specs.ClientFile.{ccd, lines_added}
use Rattle.ccd_files.proofs.reading.read_ccd.Given as goal

-- the lines so far have no fault
abbrev pub invariant-lines : goal.invariant-lines
invariant-lines l = record {
  same : ccd l.fn.text ≡ lines_added l.ccd l.number l.bytes (lines_of l.rest);
  few : l.number ≤ l.bytes;
  short : l.bytes ≤ 65536;
}

abbrev pub decreases-lines : goal.decreases-lines
decreases-lines l = length l.rest
