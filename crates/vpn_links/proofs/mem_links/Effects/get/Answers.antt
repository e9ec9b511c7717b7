use Rattle.std.proofs.Common.{◌≡◌, ◌<◌, Bool, List, Some, length, slice_get, option_map, ap, sym, subst, ◌∙◌}
use Rattle.std.proofs.lemmas.Option.{slice_get_within}
use Rattle.vpn_links.specs.Actions.{action}
use Rattle.vpn_links.specs.Rounds.{Given}
use Rattle.vpn_links.proofs.Marks.{marked_none, marked_some}
use Rattle.vpn_links.proofs.mem_links.Effects.get.Goals as goal

pub returns-in-None : goal.returns-in-None
returns-in-None c =
    sym (ap (λ (g : List Given). slice_get g c.args.i) (sym c.self.view_is)
    ∙ marked_none c.self.inside.kept.effects c.self.inside.lost.items c.args.i (sym c.effect.ensures ∙ ap (option_map action) c.in-None.is))

pub returns-in-Some : goal.returns-in-Some
returns-in-Some c =
    let found : slice_get c.self.inside.kept.effects c.args.i ≡ Some (action c.in-Some.effect) = sym c.effect.ensures ∙ ap (option_map action) c.in-Some.is in
    let within : c.args.i < length c.self.inside.lost.items = subst (λ n. c.args.i < n) c.self.invariant.0 (slice_get_within c.self.inside.kept.effects c.args.i _ found) in
    sym (ap (λ (g : List Given). slice_get g c.args.i) (sym c.self.view_is)
    ∙ marked_some c.self.inside.kept.effects c.self.inside.lost.items c.args.i (action c.in-Some.effect) c.index.result.now within found
    ∙ ap (λ (l : Bool). Some (record { action = action c.in-Some.effect; is_lost = l })) (sym c.index.ensures))
