use Rattle.std.proofs.Common.{◌≡◌, ◌+◌, ◌-◌, ◌≤◌, [], length}
use Rattle.std.specs.Prelude.{None}
use Rattle.vpn_base.specs.Lines.{lines_of}
use Rattle.config_directives.specs.Entries.{entries}
use Rattle.config_directives.specs.Judging.{judged}
use Rattle.config_directives.proofs.lines.read_directives.Given as goal

-- the lines so far gave the directives
abbrev pub invariant-lines : goal.invariant-lines
invariant-lines l = record {
  judges : judged [] (entries None 0 0 (lines_of l.text))
      ≡ judged l.reader.directives.items (entries l.reader.block l.number (length l.text - length l.rest) (lines_of l.rest));
  counts : length (lines_of l.text) ≡ l.number + length (lines_of l.rest);
  within : length l.rest ≤ length l.text;
  few : l.number + length l.rest ≤ length l.text;
  small : length l.text ≤ 65536 + length l.rest;
}

abbrev pub decreases-lines : goal.decreases-lines
decreases-lines l = length l.rest
