use Rattle.std.proofs.Common.{List, ℕ, ◌++◌, ◌∷◌, [], ap, ◌∙◌}
use Rattle.vpn_links.specs.Actions.{Contents}
use Rattle.vpn_links.proofs.Parts.{kept_before, room_behind, staged_added, staged_sound, through}
use Rattle.vpn_links.proofs.outbox.Outbox.stage.Goals as goal

pub returns-clause-ok : goal.returns-clause-ok
returns-clause-ok c =
    let store = c.self.inside.bytes.items in
    let more = c.args.bytes.now in (
      kept_before store c.put.new.store.items more c.self.inside.effects.items c.make_room.new.effects.items c.in_ok-span.ensures.ok c.make_room.ensures.effects c.self.invariant.effects_within
          ∙ ap (λ (v : Contents). v.effects) c.self.view_is,
      staged_added store c.put.new.store.items more c.self.inside.staged.items c.make_room.new.staged.items c.append_staged.new.staged.items (record { to = c.args.to; span = c.in_ok-span.span }) (record { to = c.args.to; bytes = more }) c.in_ok-span.ensures.ok c.make_room.ensures.staged c.append_staged.ensures.items c.self.invariant.staged_within (ap (λ (bytes : List ℕ). record { to = c.args.to; bytes = bytes }) c.in_ok-span.ensures.part)
          ∙ ap (λ (v : Contents). v.staged ++ record { to = c.args.to; bytes = more } ∷ []) c.self.view_is,
    )

pub invariant_of-self-2 : goal.invariant_of-self-2
invariant_of-self-2 c =
    staged_sound c.self.inside.bytes.items c.put.new.store.items c.args.bytes.now c.self.inside.effects.items c.make_room.new.effects.items c.self.inside.staged.items c.make_room.new.staged.items c.append_staged.new.staged.items (record { to = c.args.to; span = c.in_ok-span.span }) _ _ _ _ _ _
    c.in_ok-span.ensures.ok c.make_room.ensures.effects c.make_room.ensures.staged c.append_staged.ensures.items c.self.invariant c.in_ok-span.ensures.within c.in_ok-span.ensures.len
    (room_behind _ _ _ _ _ _ _ c.self.inside.effects.ok.0 c.self.inside.staged.ok.0 c.in_ok-make_room.ensures.ok c.append_staged.ensures.capacity)
    c.make_room.ensures.effects_grow (through _ _ _ c.make_room.ensures.staged_grow c.append_staged.ensures.capacity) c.put.ensures.capacity
