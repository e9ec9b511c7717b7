use Rattle.std.proofs.Common.{◌≡◌, ℕ, Bool, List, Ok, Err, ap, sym, subst, ◌∙◌, ◌<◌, length, arith}
use Rattle.vpn_base.specs.Answers.{Answers}
use Rattle.vpn_text.specs.declared.config.ConfigFault.{ConfigFault}
use Rattle.vpn_text.specs.ConfigLine.{config_words}
use Rattle.config_directives.specs.declared.item.Directive.{Directive}
use Rattle.config_directives.specs.Judging.{kind_of}
use Rattle.config_directives.proofs.Steps.{adds_right, passes_not, stops_words, stops_wrong}
use Rattle.config_directives.proofs.lines.Reader.take_outside.Goals as goal

-- the words of the line, by how far the file reaches with it
read_at : (number : ℕ) (line : List ℕ) (over reached : Bool) (words : List (List ℕ)) → over ≡ reached → config_words number line over ≡ Ok words
    → config_words number line reached ≡ Ok words
read_at number line over reached words same is = ap (config_words number line) (sym same) ∙ is

pub returns-in-Err-clause-stops : goal.returns-in-Err-clause-stops
returns-in-Err-clause-stops c =
    let P : Bool → Type 0 = λ over. Answers {A = List (List ℕ)} {E = ConfigFault} (Err c.in-Err.e) (config_words c.args.number c.args.line.now over) in
    stops_words _ c.args.number _ _ _ c.in-Err.e (subst P c.is_over-over.ensures c.in-Err.ensures)

pub returns-then-count-eq0-clause-short : goal.returns-then-count-eq0-clause-short
returns-then-count-eq0-clause-short c =
    sym c.is_over-over.ensures ∙ passes_not c.args.number c.args.line.now _ c.in-Ok.words c.in-Ok.ensures

pub returns-in-Some-clause-stops : goal.returns-in-Some-clause-stops
returns-in-Some-clause-stops c =
    let some : 0 < length c.in-Ok.words = omega arith in
    stops_wrong c.args.self.now.directives.items c.args.number c.in-Some.kind _ c.in-Ok.words _ _ c.in_ok-begun.begun.item c.in_ok-word.word
    (read_at c.args.number c.args.line.now _ _ c.in-Ok.words c.is_over-over.ensures c.in-Ok.ensures) some c.in_ok-begun.ensures.item
    (c.in-Some.ensures ∙ ap (λ (ds : List Directive). kind_of ds c.in_ok-begun.begun.item) c.deref.ensures.value)
    (c.in_ok-word.ensures ∙ c.name.ensures)

pub returns-clause-adds : goal.returns-clause-adds
returns-clause-adds c =
    let some : 0 < length c.in-Ok.words = omega arith in
    adds_right c.args.self.now.directives.items c.push.new.self.items c.args.number _ c.in-Ok.words _ _ c.in_ok-begun.begun.item
    (read_at c.args.number c.args.line.now _ _ c.in-Ok.words c.is_over-over.ensures c.in-Ok.ensures) some c.in_ok-begun.ensures.item
    (c.in_default.ensures ∙ ap (λ (ds : List Directive). kind_of ds c.in_ok-begun.begun.item) c.deref.ensures.value)
    c.in_ok-push.ensures.items

pub returns-clause-short : goal.returns-clause-short
returns-clause-short c = sym c.is_over-over.ensures ∙ passes_not c.args.number c.args.line.now _ c.in-Ok.words c.in-Ok.ensures
