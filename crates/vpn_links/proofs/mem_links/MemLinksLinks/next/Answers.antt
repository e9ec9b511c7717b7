use Rattle.std.proofs.Common.{◌≡◌, ◌++◌, ◌∷◌, [], List, length, ap, sym, subst, ◌∙◌}
use Rattle.vpn_links.specs.declared.events.Event.{Event}
use Rattle.vpn_links.specs.LinkStore.{event_at, halt_after, rounds_of}
use Rattle.vpn_links.specs.Rounds.{Given, IsOfLine}
use Rattle.vpn_links.proofs.RoundLaws.{after_came, found_of_line}
use Rattle.vpn_links.proofs.mem_links.MemLinksLinks.next.Goals as goal

-- the event that comes is the one of its number
comes : (c : goal.After-replace) → c.replace.new.into ≡ event_at c.self.inside.events.items (length c.self.inside.effects.items)
comes c =
    c.replace.ensures ∙ c.in_ok-event-in-None.ensures
    ∙ ap (λ (events : List Event). event_at events c.len.result) c.deref-in-None.ensures.value
    ∙ ap (event_at c.self.inside.events.items) (c.len.ensures ∙ c.self.inside.effects.ok.0)

pub returns-in_ok-push-in-None-clause-given : goal.returns-in_ok-push-in-None-clause-given
returns-in_ok-push-in-None-clause-given c = λ l is.
    after_came c.self.inside.events.items c.self.inside.effects.items c.push.new.self.items l c.replace.new.into
    (is ∙ sym (ap rounds_of c.self.view_is)) (comes c)
    (c.in_ok-push-in-None.ensures.items ∙ ap (λ (effects : List Given). c.self.inside.effects.items ++ effects ∷ []) c.in_ok-effects-in-None.ensures)

pub returns-in_ok-push-in-None-clause-datagram : goal.returns-in_ok-push-in-None-clause-datagram
returns-in_ok-push-in-None-clause-datagram c =
    subst (λ (e : Event). IsOfLine e.kind) (sym (comes c))
    (found_of_line c.self.inside.events.items (length c.self.inside.effects.items) (halt_after c.self.inside.events.items) tt c.self.invariant)
