use Rattle.std.proofs.Common.{ap, sym, ◌∙◌}
use Rattle.std.specs.Prelude.{Some, ℕ, List, slice_get}
use Rattle.config_directives.specs.declared.item.Item.{Item}
use Rattle.config_directives.specs.Items.{arguments_of}
use Rattle.config_directives.proofs.Forms.{argument_at}
use Rattle.config_directives.proofs.item.Item.argument.Goals as goal

pub returns-in-Some : goal.returns-in-Some
returns-in-Some c =
    ap (λ (t : List ℕ). Some t) c.as_slice.ensures ∙ c.in-Some.ensures ∙ argument_at c.in-Words.words c.args.i
    ∙ ap (λ (item : Item). slice_get (arguments_of item) c.args.i) (sym c.in-Words.is)
