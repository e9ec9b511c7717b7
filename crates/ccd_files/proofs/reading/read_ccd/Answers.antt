use Rattle.std.proofs.Common.{◌≡◌, ℕ, ◌+◌, ◌-◌, ◌<◌, ◌≤◌, false, List, length, Ok, refl, ap, sym, ◌∙◌, arith}
use Rattle.std.specs.Prelude.{nat_lt}
use borrow.Author.Tests.{ltb-false}
use Rattle.vpn_base.specs.Lines.{lines_of}
use Rattle.ccd_files.specs.ClientFile.{line_added, lines_added}
use Rattle.ccd_files.proofs.NextLine.{line_next, not_passing}
use Rattle.ccd_files.proofs.reading.read_ccd.Goals as goal

pub lines-preserved : goal.lines-preserved
lines-preserved c =
    let rest = c.lines.rest.now in
    let behind = c.in-Some.behind.now in
    let more = length rest - length behind in
    let shorter : length behind < length rest = c.in-Some.ensures.shorter in
    let within : nat_lt 65536 (c.lines.bytes + more) ≡ false = sym c.is_over.ensures ∙ not_passing _ _ _ _ _ c.in-Ok.ensures.ok in
    let short : c.lines.bytes + more ≤ 65536 = ltb-false _ _ within in
    record {
      same = c.lines.invariant.same ∙ line_next c.lines.ccd c.lines.number c.lines.bytes rest c.in-Some.line.now behind (Ok c.add_line.new.ccd) c.in-Some.ensures.first
          (ap (line_added c.lines.ccd (c.lines.number + 1) c.in-Some.line.now) (sym c.is_over.ensures) ∙ c.in-Ok.ensures.ok);
      few = omega arith;
      short = short;
    }

pub returns : goal.returns
unfolding lines_of
returns c =
    c.lines.invariant.same
    ∙ ap (λ (text : List ℕ). lines_added c.lines.ccd c.lines.number c.lines.bytes (lines_of text)) (c.in_default.ensures.none.0 refl)
