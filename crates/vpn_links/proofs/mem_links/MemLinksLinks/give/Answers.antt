use Rattle.std.proofs.Common.{Err, true, false, ap, sym, ◌∙◌}
use Rattle.vpn_base.specs.declared.errors.Or.TheVariants.{Why}
use Rattle.vpn_links.specs.Actions.{action}
use Rattle.vpn_links.specs.LinkStore.{rounds_of}
use Rattle.vpn_links.specs.Rounds.{after_give}
use Rattle.vpn_links.specs.declared.links.LinkFault.{LinkFault}
use Rattle.vpn_links.proofs.RoundLaws.{after_gave}
use Rattle.vpn_links.proofs.mem_links.MemLinksLinks.give.Goals as goal

pub returns-in_ok-keep_last-in-None-clause-given : goal.returns-in_ok-keep_last-in-None-clause-given
returns-in_ok-keep_last-in-None-clause-given c = λ l is.
    after_gave c.self.inside.events.items c.self.inside.effects.items c.keep_last.new.effects.items l
    (record { action = action c.args.e.now; is_lost = false }) (is ∙ sym (ap rounds_of c.self.view_is)) c.in_ok-keep_last-in-None.ensures.ok

pub returns-in_ok-keep_last-in-Some-Wire-clause-given : goal.returns-in_ok-keep_last-in-Some-Wire-clause-given
returns-in_ok-keep_last-in-Some-Wire-clause-given c = λ l is.
    ap (λ (fault : LinkFault). after_give {A = Unit {0}} (Err (Why fault)) l (action c.args.e.now)) c.fail.ensures.same
    ∙ after_gave c.self.inside.events.items c.self.inside.effects.items c.keep_last-in-Some-Wire.new.effects.items l
    (record { action = action c.args.e.now; is_lost = true }) (is ∙ sym (ap rounds_of c.self.view_is)) c.in_ok-keep_last-in-Some-Wire.ensures.ok
    ∙ sym (ap rounds_of c.fail.ensures.after)
