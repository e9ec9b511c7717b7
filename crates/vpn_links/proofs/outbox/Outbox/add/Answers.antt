use Rattle.std.proofs.Common.{◌++◌, ◌∷◌, [], ap, ◌∙◌}
use Rattle.vpn_links.specs.Actions.{Contents, action, carried_bytes}
use Rattle.vpn_links.proofs.Parts.{added_sound, kept_added, room_for, staged_before, through}
use Rattle.vpn_links.proofs.outbox.Outbox.add.Goals as goal

pub returns-clause-ok : goal.returns-clause-ok
returns-clause-ok c =
    let store = c.self.inside.bytes.items in
    let more = carried_bytes (action c.args.e.now) in (
      kept_added store c.keep.new.store.items more c.self.inside.effects.items c.make_room.new.effects.items c.append.new.effects.items c.in_ok-kept.kept (action c.args.e.now) c.in_ok-kept.ensures.ok c.make_room.ensures.effects c.append.ensures.items c.self.invariant.effects_within c.in_ok-kept.ensures.kept
          ∙ ap (λ (v : Contents). v.effects ++ action c.args.e.now ∷ []) c.self.view_is,
      staged_before store c.keep.new.store.items more c.self.inside.staged.items c.make_room.new.staged.items c.in_ok-kept.ensures.ok c.make_room.ensures.staged c.self.invariant.staged_within
          ∙ ap (λ (v : Contents). v.staged) c.self.view_is,
    )

pub invariant_of-self-2 : goal.invariant_of-self-2
invariant_of-self-2 c =
    let store = c.self.inside.bytes.items in
    added_sound store c.keep.new.store.items (carried_bytes (action c.args.e.now)) c.self.inside.effects.items c.make_room.new.effects.items c.append.new.effects.items c.in_ok-kept.kept c.self.inside.staged.items c.make_room.new.staged.items _ _ _ _ _ _
    c.in_ok-kept.ensures.ok c.make_room.ensures.effects c.append.ensures.items c.make_room.ensures.staged c.self.invariant c.in_ok-kept.ensures.within c.in_ok-kept.ensures.own
    (room_for _ _ _ _ _ _ _ c.self.inside.effects.ok.0 c.self.inside.staged.ok.0 c.in_ok-make_room.ensures.ok c.append.ensures.capacity)
    (through _ _ _ c.make_room.ensures.effects_grow c.append.ensures.capacity) c.make_room.ensures.staged_grow c.keep.ensures.capacity
