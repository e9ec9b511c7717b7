use Rattle.std.proofs.Common.{◌+◌, sym}
use Rattle.std.proofs.lemmas.List.{take_rest}
use borrow.Author.Tests.{false-eqb}
use Rattle.vpn_base.proofs.FirstLine.{first_of_more, first_of_one}
use Rattle.vpn_base.proofs.lines.next_line.Goals as goal

pub returns-in-Some-clause-first : goal.returns-in-Some-clause-first
returns-in-Some-clause-first c =
    let text = c.args.text.now in
    first_of_more text _ _ c.in-Some.end (sym c.in-Some.ensures) c.without_return.ensures (take_rest text (c.in-Some.end + 1))

pub returns-in-None-clause-first : goal.returns-in-None-clause-first
returns-in-None-clause-first c = first_of_one c.args.text.now (sym c.in-None.ensures) (false-eqb _ _ c.if-is_empty.ensures)
