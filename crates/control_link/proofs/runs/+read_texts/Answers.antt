use Rattle.std.proofs.Common.{◌≡◌, ℕ, ◌-◌, ◌++◌, List, sym, ap, subst, ◌∙◌}
use Rattle.std.specs.List.{concat}
use Rattle.std.proofs.lemmas.List.{append-nil}
use Rattle.std.proofs.lemmas.Result.{on_ok_weaker}
use Rattle.control_link.specs.Links.{Link, LinkStands}
use Rattle.control_link.specs.Calls.{after_text}
use Rattle.control_link.specs.Reading.{read_here, texts_here}
use Rattle.control_link.proofs.RunLaws.{read_no_more, no_more_texts, none_read, none_texts, one_read, one_behind}
use Rattle.control_link.proofs.runs.+read_texts.Goals as goal

pub returns-then-most-eq0-clause-stands : goal.returns-then-most-eq0-clause-stands
returns-then-most-eq0-clause-stands t c = λ l s. subst (λ (g : Link). LinkStands c.args.link.now g) (sym (read_no_more c.args.most l c.if-most-eq0.true)) s

pub returns-then-most-eq0-clause-text : goal.returns-then-most-eq0-clause-text
returns-then-most-eq0-clause-text t c = λ l s.
    sym (ap (λ (p : List (List ℕ)). c.args.text.now.items ++ concat p) (no_more_texts c.args.most l c.if-most-eq0.true) ∙ append-nil c.args.text.now.items)

pub returns-in-None-clause-stands : goal.returns-in-None-clause-stands
returns-in-None-clause-stands t c = λ l s.
    subst (λ (g : Link). LinkStands c.next_in_order.new.self g) (sym (none_read c.args.most l c.if-most-eq0.false (sym (c.in-None.ensures.text l s)))) (c.in-None.ensures.stands l s)

pub returns-in-None-clause-text : goal.returns-in-None-clause-text
returns-in-None-clause-text t c = λ l s.
    sym (ap (λ (p : List (List ℕ)). c.args.text.now.items ++ concat p) (none_texts c.args.most l c.if-most-eq0.false (sym (c.in-None.ensures.text l s))) ∙ append-nil c.args.text.now.items)

pub returns-in_ok-extend_from_slice-in-Some-clause-stands : goal.returns-in_ok-extend_from_slice-in-Some-clause-stands
returns-in_ok-extend_from_slice-in-Some-clause-stands t c =
    on_ok_weaker c.read_texts.result
    (λ (rest : (l : Link) → LinkStands c.next_in_order.new.self l → LinkStands c.read_texts.new.link (read_here (c.args.most - 1) l)). λ l s.
    subst (λ (g : Link). LinkStands c.read_texts.new.link g) (sym (one_read c.args.most l c.in-Some.payload c.if-most-eq0.false (sym (c.in-Some.ensures.text l s))))
    (rest (after_text l) (c.in-Some.ensures.stands l s)))
    c.read_texts.ensures.stands

pub returns-in_ok-extend_from_slice-in-Some-clause-text : goal.returns-in_ok-extend_from_slice-in-Some-clause-text
returns-in_ok-extend_from_slice-in-Some-clause-text t c =
    let added : c.extend_from_slice.new.self.items ≡ c.args.text.now.items ++ c.in-Some.payload =
    c.in_ok-extend_from_slice-in-Some.ensures.items ∙ ap (λ (p : List ℕ). c.args.text.now.items ++ p) c.as_slice.ensures in
    on_ok_weaker c.read_texts.result
    (λ (rest : (l : Link) → LinkStands c.next_in_order.new.self l → c.read_texts.new.text.items ≡ c.extend_from_slice.new.self.items ++ concat (texts_here (c.args.most - 1) l)). λ l s.
    rest (after_text l) (c.in-Some.ensures.stands l s)
    ∙ ap (λ (p : List ℕ). p ++ concat (texts_here (c.args.most - 1) (after_text l))) added
    ∙ one_behind c.args.most l c.in-Some.payload c.args.text.now.items c.if-most-eq0.false (sym (c.in-Some.ensures.text l s)))
    c.read_texts.ensures.text
