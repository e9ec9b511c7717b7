use Rattle.std.proofs.Common.{ℕ, List, [], ◌∷◌, ◌++◌, ap, sym, ◌∙◌}
use Rattle.ovpn_config.specs.Canonical.{lines_with}
use Rattle.ovpn_config.proofs.Lined.{lines_more}
use Rattle.ovpn_config.proofs.writing.add_engine.Goals as goal

pub engine-preserved : goal.engine-preserved
engine-preserved c =
    sym (lines_more c.engine.out.items c.add_text.new.out.items c.args.engine.now c.engine.i c.in-Some.text.now (sym c.in-Some.ensures)
    (c.in_ok-add_text.ensures ∙ ap (λ (t : List ℕ). c.engine.out.items ++ lines_with (t ∷ [])) c.as_slice.ensures))
    ∙ c.engine.invariant
