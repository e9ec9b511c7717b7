use Rattle.std.proofs.Common.{◌++◌, length, Some, ap, sym, ◌∙◌}
use Rattle.std.specs.Prelude.{option_map, slice_get}
use Rattle.vpn_links.specs.Actions.{action}
use Rattle.peer_session.proofs.Resets.{one_wire}
use Rattle.peer_session.proofs.begin.stage_only.Goals as goal

pub returns-in-Ok-clause-staged : goal.returns-in-Ok-clause-staged
returns-in-Ok-clause-staged c = λ datagrams holds.
    let one = one_wire c.args.to c.in-Some-Wire.field-0-0 datagrams c.in-Some-Wire.bytes.now
    (ap length (sym holds.0) ∙ sym c.count.ensures ∙ c.if-count-ne1.false)
    (ap (λ e. Some (action e)) (sym c.in-Some-Wire.field-0-is) ∙ ap (option_map action) (sym c.in-Some-Wire.is) ∙ c.effect.ensures ∙ ap (λ es. slice_get es 0) holds.0) in
    (c.in-Ok.ensures.ok.0, c.in-Ok.ensures.ok.1 ∙ ap (λ ds. c.args.out.now.staged ++ ds) one)
