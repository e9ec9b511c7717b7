use Rattle.std.proofs.Common.{◌≤◌, refl, subst, sym}
use Rattle.vpn_links.specs.Actions.{Contents}
use Rattle.vpn_links.proofs.Parts.{configured_sound, room_in}
use Rattle.vpn_links.proofs.outbox.Outbox.add_configure.Goals as goal

pub invariant_of-self : goal.invariant_of-self
invariant_of-self c =
    configured_sound c.self.inside.effects.items c.append.new.effects.items _ c.self.inside.staged.items _ _ _ _ _
    c.append.ensures.items tt refl c.self.invariant
    (room_in _ _ _ _ _ _ _ c.self.inside.effects.ok.0 c.self.inside.staged.ok.0 (subst (λ (v : Contents). 1 ≤ v.spare_effects) (sym c.self.view_is) c.requires) c.append.ensures.capacity)
    c.append.ensures.capacity
