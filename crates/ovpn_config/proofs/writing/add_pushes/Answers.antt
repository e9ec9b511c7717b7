use Rattle.std.proofs.Common.{ℕ, List, [], ◌∷◌, ◌++◌, ap, sym, ◌∙◌}
use Rattle.std.specs.Prelude.{codes}
use Rattle.ovpn_config.specs.Printed.{with_word}
use Rattle.ovpn_config.specs.Canonical.{lines_with}
use Rattle.ovpn_config.proofs.Lined.{lines_more_of}
use Rattle.ovpn_config.proofs.writing.add_pushes.Goals as goal

pub pushes-preserved : goal.pushes-preserved
pushes-preserved c =
    sym (lines_more_of (with_word (codes "push")) c.pushes.out.items c.add_word.new.out.items c.args.pushes.now c.pushes.i c.in-Some.text.now (sym c.in-Some.ensures)
    (c.in_ok-add_word.ensures ∙ ap (λ (t : List ℕ). c.pushes.out.items ++ lines_with (with_word (codes "push") t ∷ [])) c.as_slice.ensures))
    ∙ c.pushes.invariant
