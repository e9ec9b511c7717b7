use Rattle.std.proofs.Common.{List, Bool, [], ◌∷◌, ◌++◌, ap, ◌∙◌}
use Rattle.vpn_links.specs.Actions.{Action, action}
use Rattle.vpn_links.specs.internal.Marks.{marked}
use Rattle.vpn_links.specs.Rounds.{Given}
use Rattle.vpn_links.proofs.Marks.{marked_push}
use Rattle.vpn_links.proofs.mem_links.Effects.keep.Goals as goal

pub returns-clause-ok : goal.returns-clause-ok
returns-clause-ok c =
    let kept = c.self.inside.kept.effects in
    let lost = c.self.inside.lost.items in
    let given = action c.args.e.now in
    ap (λ (a : List Action). marked a c.mark.new.lost.items) c.in_ok-add.ensures.ok.0
    ∙ ap (λ (l : List Bool). marked (kept ++ given ∷ []) l) (c.mark.ensures ∙ ap (λ (l : List Bool). l ++ c.args.is_lost ∷ []) c.in_ok-reserve.ensures.items)
    ∙ marked_push kept lost given c.args.is_lost c.self.invariant.0
    ∙ ap (λ (g : List Given). g ++ record { action = given; is_lost = c.args.is_lost } ∷ []) c.self.view_is
