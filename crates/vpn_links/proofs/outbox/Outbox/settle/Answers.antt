use Rattle.std.proofs.Common.{List, ℕ, [], ◌++◌, length, map, vec_capacity, ap, sym, subst, ◌∙◌}
use Rattle.vpn_links.specs.declared.store.Kept.{Kept}
use Rattle.vpn_links.specs.declared.store.Staged.{Staged}
use Rattle.vpn_links.specs.Actions.{Contents, on_wire}
use Rattle.vpn_links.specs.internal.Store.{IsSound, kept_action, kept_datagram, staged_datagram}
use Rattle.vpn_links.proofs.Parts.{settled, settled_sound}
use Rattle.vpn_links.proofs.outbox.Outbox.settle.Goals as goal

pub invariant_of-self : goal.invariant_of-self
invariant_of-self c =
    let ks = c.self.inside.effects.items in
    let ss = c.self.inside.staged.items in
    let moved = c.move_staged.ensures.items ∙ ap (λ (l : List Staged). ks ++ map kept_datagram l) c.deref.ensures.value in
    subst (λ (l : List Kept). IsSound l c.clear.new.self.items (length c.self.inside.bytes.items) (vec_capacity c.move_staged.new.effects) (vec_capacity c.clear.new.self) (vec_capacity c.self.inside.bytes)) (sym moved)
    (subst (λ (l : List Staged). IsSound (ks ++ map kept_datagram ss) l (length c.self.inside.bytes.items) (vec_capacity c.move_staged.new.effects) (vec_capacity c.clear.new.self) (vec_capacity c.self.inside.bytes)) (sym c.clear.ensures.items)
    (subst (λ (n : ℕ). IsSound (ks ++ map kept_datagram ss) [] (length c.self.inside.bytes.items) (vec_capacity c.move_staged.new.effects) n (vec_capacity c.self.inside.bytes)) (sym c.clear.ensures.capacity)
    (settled_sound ks ss _ _ _ _ _ c.self.invariant c.move_staged.ensures.capacity)))

pub returns-clause-settled : goal.returns-clause-settled
returns-clause-settled c =
    let store = c.self.inside.bytes.items in
    let ks = c.self.inside.effects.items in
    let moved = c.move_staged.ensures.items ∙ ap (λ (l : List Staged). ks ++ map kept_datagram l) c.deref.ensures.value in (
      ap (map (kept_action store)) moved ∙ settled store ks c.self.inside.staged.items ∙ ap (λ (v : Contents). v.effects ++ map on_wire v.staged) c.self.view_is,
      ap (map (staged_datagram store)) c.clear.ensures.items,
    )
