use Rattle.std.proofs.Common.{sym, ◌∙◌, arith}
use Rattle.reliable_send.specs.declared.pieces.Wanted.TheVariants.{Unsent, Due}
use Rattle.reliable_send.proofs.Finding.{not_below, not_above, among_is, or_first, or_second}
use Rattle.reliable_send.proofs.pieces.goes_out.Goals as goal
use Rattle.reliable_send.proofs.pieces.goes_out.Goals.{then-id-first-via-then-id-first, then-id-first-via-else-id-first+then-pieces-id}

pub returns-then-id-first : goal.returns-then-id-first
returns-then-id-first c =
    elim c.then-id-first.branch [
      | then-id-first-via-then-id-first w ↦
          or_second _ _ _ (not_below (Unsent c.args.started) c.args.first c.args.id c.args.pieces.now (omega arith)) (sym (not_below (Due c.args.now) c.args.first c.args.id c.args.pieces.now (omega arith)))
      | then-id-first-via-else-id-first+then-pieces-id w ↦
          or_second _ _ _ (not_above (Unsent c.args.started) c.args.first c.args.id c.args.pieces.now (omega arith)) (sym (not_above (Due c.args.now) c.args.first c.args.id c.args.pieces.now (omega arith)))
    ]

pub returns-then-is_wanted : goal.returns-then-is_wanted
returns-then-is_wanted c =
    or_first _ _ _ c.if-is_wanted.true
    (c.is_wanted.ensures ∙ sym (among_is (Unsent c.args.started) c.args.first c.args.id c.args.pieces.now c.index-pieces-id.result c.if-id-first.false c.if-pieces-id.false c.index-pieces-id.is))

pub returns-else-is_wanted : goal.returns-else-is_wanted
returns-else-is_wanted c =
    or_second _ _ _
    (among_is (Unsent c.args.started) c.args.first c.args.id c.args.pieces.now c.index-pieces-id.result c.if-id-first.false c.if-pieces-id.false c.index-pieces-id.is ∙ sym c.is_wanted.ensures ∙ c.if-is_wanted.false)
    (c.is_wanted-else-is_wanted.ensures ∙ sym (among_is (Due c.args.now) c.args.first c.args.id c.args.pieces.now c.index-pieces-id.result c.if-id-first.false c.if-pieces-id.false c.index-pieces-id.is))
