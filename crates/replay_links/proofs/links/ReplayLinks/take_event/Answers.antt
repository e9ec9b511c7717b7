use Rattle.std.proofs.Common.{ap, sym, ◌∙◌, subst, None}
use Rattle.replay_links.specs.Replay.{Replay, ReplayStands}
use Rattle.replay_links.proofs.Standing.{gave_beyond, gave_within}
use Rattle.replay_links.proofs.links.ReplayLinks.take_event.Goals as goal

pub returns-in-Some-take_first-clause-given : goal.returns-in-Some-take_first-clause-given
returns-in-Some-take_first-clause-given g c = λ l s.
    let holds = g.F.Files.holds in
    let contents = g.S.Sink.contents in
    let seen = subst (λ (r : Replay _ _). ReplayStands holds contents r None l) (sym c.self.view_is) s in
    gave_within (holds c.self.inside.files c.self.inside.name) (contents c.self.inside.out) _ l c.in-Some-take_first.event c.take_first.new.self c.in-Some.given
    (ap (λ (r : Replay _ _). r.is_open) c.self.view_is ∙ c.requires) c.in-Some-take_first.ensures.first c.in-Some.ensures seen

pub returns-in-None-fault-clause-given : goal.returns-in-None-fault-clause-given
returns-in-None-fault-clause-given g c = λ l s.
    let holds = g.F.Files.holds in
    let contents = g.S.Sink.contents in
    let seen = subst (λ (r : Replay _ _). ReplayStands holds contents r None l) (sym c.self.view_is) s in
    gave_beyond (holds c.self.inside.files c.self.inside.name) (contents c.self.inside.out) _ l c.halt_at.result c.take_first.new.self c.in-Some.given
    (ap (λ (r : Replay _ _). r.is_open) c.self.view_is ∙ c.requires) c.in-None.ensures.first.0 c.in-None.ensures.first.1 c.in-None-fault.is c.halt_at.ensures c.in-Some.ensures seen
