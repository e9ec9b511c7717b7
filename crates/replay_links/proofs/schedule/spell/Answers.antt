use Rattle.std.proofs.Common.{◌-◌, ◌<◌, length, refl, ap, ◌∙◌, arith}
use Rattle.vpn_base.specs.Lines.{lines_of}
use Rattle.replay_links.specs.Schedule.{behind_events, spelled_from}
use Rattle.replay_links.proofs.NextLine.{line_next, none_behind}
use Rattle.replay_links.proofs.schedule.spell.Goals as goal

pub returns-in-End : goal.returns-in-End
returns-in-End c =
    let rest = c.lines.rest.now in
    let behind = c.in-Some.behind.now in
    let n = length rest - length behind in
    c.lines.invariant.same
    ∙ (ap (behind_events c.lines.events) (line_next c.lines.reading rest c.in-Some.line.now behind n refl c.in-Some.ensures.first)
    ∙ c.in-End.ensures.went (spelled_from (lines_of behind)))

pub returns-in-Fault : goal.returns-in-Fault
returns-in-Fault c =
    let rest = c.lines.rest.now in
    let behind = c.in-Some.behind.now in
    let n = length rest - length behind in
    c.lines.invariant.same
    ∙ (ap (behind_events c.lines.events) (line_next c.lines.reading rest c.in-Some.line.now behind n refl c.in-Some.ensures.first)
    ∙ c.in-Fault.ensures.went (spelled_from (lines_of behind)))

pub lines-preserved : goal.lines-preserved
lines-preserved c =
    let rest = c.lines.rest.now in
    let behind = c.in-Some.behind.now in
    let n = length rest - length behind in
    let shorter : length behind < length rest = c.in-Some.ensures.shorter in
    let further = c.in-More.ensures.further in
    record {
      same = c.lines.invariant.same
          ∙ (ap (behind_events c.lines.events) (line_next c.lines.reading rest c.in-Some.line.now behind n refl c.in-Some.ensures.first)
          ∙ c.in-More.ensures.went (spelled_from (lines_of behind)));
      bytes = omega (arith, c.lines.invariant.bytes, further.0, shorter);
      lines = omega (arith, c.lines.invariant.lines, further.0, further.1, shorter);
      few = omega (arith, c.lines.invariant.few, further.0, further.2, shorter);
    }

pub returns : goal.returns
returns c = c.lines.invariant.same ∙ none_behind c.lines.events c.lines.reading c.lines.rest.now (c.in_default.ensures.none.0 refl)
