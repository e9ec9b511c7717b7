use Rattle.std.proofs.Common.{List, ℕ, ◌++◌, codes, ap, sym, ◌∙◌, append_assoc}
use Rattle.vpn_top.specs.declared.refusal.Refusal.{Refusal}
use Rattle.vpn_top.specs.Messages.{refusal_text}
use Rattle.vpn_top.proofs.refusal.Refusal.add_text.Goals as goal

pub returns-in_ok-add-in-Unreadable-2 : goal.returns-in_ok-add-in-Unreadable-2
returns-in_ok-add-in-Unreadable-2 c =
    c.in_ok-add-in-Unreadable-2.ensures ∙ ap (λ (l : List ℕ). l ++ c.args.subject.now) c.in_ok-add-in-Unreadable.ensures ∙ append_assoc c.args.line.now.items (codes "unreadable ") c.args.subject.now
    ∙ ap (λ (r : Refusal). c.args.line.now.items ++ refusal_text c.args.subject.now r) (sym c.in-Unreadable.is)
