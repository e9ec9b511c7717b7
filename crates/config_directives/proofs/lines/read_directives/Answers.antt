use Rattle.std.proofs.Common.{◌≡◌, ◌+◌, ◌-◌, ap, sym, ◌∙◌, refl, List, [], ℕ, length, arith}
use Rattle.std.specs.Prelude.{None}
use Rattle.std.proofs.lemmas.Bool.{ltb-false}
use Rattle.vpn_base.specs.Lines.{Line, lines_of, size}
use Rattle.config_directives.specs.declared.item.Directive.{Directive}
use Rattle.config_directives.specs.Entries.{entries}
use Rattle.config_directives.specs.Judging.{judged}
use Rattle.config_directives.proofs.Steps.{next_adds, next_stops, no_lines, over}
use Rattle.config_directives.proofs.lines.read_directives.Goals as goal

pub lines-init : goal.lines-init
lines-init c =
    let text = c.args.text.now in
    let none : 0 ≡ length text - length text = omega arith in
    record {
      judges = ap (λ (n : ℕ). judged [] (entries None 0 n (lines_of text))) none
          ∙ ap (λ (ds : List Directive). judged ds (entries None 0 (length text - length text) (lines_of text))) (sym c.new.ensures.items);
      counts = omega arith;
      within = omega arith;
      few = omega arith;
      small = omega arith;
    }

pub returns-in-Err-clause-why : goal.returns-in-Err-clause-why
returns-in-Err-clause-why c =
    let first = c.in-Some.ensures.first in
    let l = c.lines in
    let text = c.args.text.now in
    let taken : length text - length l.rest.now + size first.first ≡ length text - length c.in-Some.behind.now = omega (arith, first.takes, l.invariant.within) in
    next_stops l.reader.directives.items c.in-Err.e l.reader.block l.number (length text - length l.rest.now) (lines_of l.rest.now) (lines_of c.in-Some.behind.now)
    first.first c.in-Some.line.now (length text - length c.in-Some.behind.now) _ l.invariant.judges first.begins first.shows
    taken c.in-Err.ensures.stops

pub lines-preserved : goal.lines-preserved
lines-preserved c =
    let first = c.in-Some.ensures.first in
    let l = c.lines in
    let text = c.args.text.now in
    let behind = c.in-Some.behind.now in
    let taken : length text - length l.rest.now + size first.first ≡ length text - length behind = omega (arith, first.takes, l.invariant.within) in
    let more : length (lines_of l.rest.now) ≡ length (lines_of behind) + 1 = omega (arith, ap (λ (ls : List Line). length ls) first.begins) in
    record {
      judges = l.invariant.judges
          ∙ next_adds l.reader.directives.items c.take.new.self.directives.items l.reader.block c.take.new.self.block l.number (length text - length l.rest.now)
          (length text - length behind) (lines_of l.rest.now) (lines_of behind) first.first c.in-Some.line.now
          first.begins first.shows taken c.in-Ok.ensures.adds c.in-Ok.ensures.block;
      counts = omega (arith, l.invariant.counts);
      within = omega (arith, l.invariant.within, c.in-Some.ensures.shorter);
      few = omega (arith, l.invariant.few, c.in-Some.ensures.shorter);
      small = omega (arith, ltb-false 65536 (length text - length behind) c.in-Ok.ensures.short);
    }

pub returns-clause-ok : goal.returns-clause-ok
returns-clause-ok c =
    c.lines.invariant.judges
    ∙ over c.lines.reader.directives.items c.lines.reader.block c.lines.number (length c.args.text.now - length c.lines.rest.now) (lines_of c.lines.rest.now)
    (no_lines c.lines.rest.now (c.in_default.ensures.none.0 refl))

pub returns-clause-last : goal.returns-clause-last
returns-clause-last c =
    omega (arith, c.lines.invariant.counts, ap (λ (ls : List Line). length ls) (no_lines c.lines.rest.now (c.in_default.ensures.none.0 refl)))
