use Rattle.std.proofs.Common.{◌-◌, ap, sym, ◌∙◌, arith}
use Rattle.vpn_links.specs.Actions.{action}
use Rattle.replay_links.specs.Replay.{Replay}
use Rattle.replay_links.proofs.Standing.{line_cut, line_given}
use Rattle.replay_links.proofs.links.ReplayLinksLinks.give.Goals as goal

pub returns-in-Ok-write_line-clause-given : goal.returns-in-Ok-write_line-clause-given
returns-in-Ok-write_line-clause-given g c = λ l s.
    let ok = c.in-Ok-write_line.ensures.ok in
    line_given g.F.Files.holds g.S.Sink.contents c.args.self.now c.write_line.new.self l (action c.args.e.now) c.as_slice.result.now (c.self.inside.given - 1)
    (c.as_slice.ensures ∙ c.in-Ok.ensures) (omega (arith, c.if-self-eq0.false, ap (λ (r : Replay _ _). r.given) c.self.view_is)) (sym (ap (λ (r : Replay _ _). r.is_cut) c.self.view_is) ∙ c.if-self.false) ok.0 ok.1 s

pub returns-clause-given : goal.returns-clause-given
returns-clause-given g c = λ l s.
    line_cut g.F.Files.holds g.S.Sink.contents c.args.self.now c.write_line.new.self l (action c.args.e.now) c.as_slice.result.now (c.self.inside.given - 1)
    (c.as_slice.ensures ∙ c.in-Ok.ensures) (omega (arith, c.if-self-eq0.false, ap (λ (r : Replay _ _). r.given) c.self.view_is)) (sym (ap (λ (r : Replay _ _). r.is_cut) c.self.view_is) ∙ c.if-self.false)
    (rw c.in-Err-Why.field-0-is at c.in-Err-Why.ensures.err).2 s
