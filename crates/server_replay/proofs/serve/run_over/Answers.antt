use Rattle.std.proofs.Common.{sym, ap, ◌∙◌, subst, [], None, ◌^◌}
use Rattle.vpn_node.specs.Parts.{Parts}
use Rattle.vpn_node.specs.Running.{Ends, RunOver}
use Rattle.vpn_node.specs.declared.outcome.Ran.{Ran}
use Rattle.server_replay.specs.internal.Serving.{with_start}
use Rattle.server_replay.proofs.Served.{over_none, over_started}
use Rattle.server_replay.proofs.serve.run_over.Goals as goal

pub returns-in-Err-clause-run : goal.returns-in-Err-clause-run
returns-in-Err-clause-run g c = λ t stands.
    let m = g.M.Machine in
    let links = g.L.Links in
    let parts = c.parts-machine-in-Err.ensures in
    let ran = c.never_ran.ensures in
    let machine = parts.0 ∙ (c.in-Err.ensures.machine_kept ∙ ap (λ (p : Parts _ _). p.machine) c.new.ensures) in
    over_none (with_start links.may_fail) m.next m.effects m.may_lack (m.stands c.parts-machine-in-Err.result.0) (links.stands c.args.links) (links.stands c.parts-machine-in-Err.result.1) t (2 ^ 48) c.never_ran.result
    (subst (λ x. m.stands x t) (sym machine) stands)
    (λ l told. subst (λ x. links.stands x None l) (sym parts.1)
    (c.in-Err.ensures.rounds_kept l (subst (λ x. links.stands x None l) (sym (ap (λ (p : Parts _ _). p.links) c.new.ensures)) told)))
    (subst (λ (r : Ran). Ends (with_start links.may_fail) r.outcome (2 ^ 48) [] [] None) (sym ran) c.outcome_of.ensures.ended)
    (ap (λ (r : Ran). r.events) ran) (ap (λ (r : Ran). r.lost) ran) (ap (λ (r : Ran). r.refused) ran)

pub returns-in-Ok-clause-run : goal.returns-in-Ok-clause-run
returns-in-Ok-clause-run g c = λ t stands.
    let m = g.M.Machine in
    let links = g.L.Links in
    let parts = c.parts-machine.ensures in
    let machine = c.in-Ok.ensures.machine ∙ ap (λ (p : Parts _ _). p.machine) c.new.ensures in
    subst (λ x. RunOver (with_start links.may_fail) m.next m.effects m.may_lack (m.stands x) (links.stands c.args.links) (links.stands c.parts-machine.result.1) t (2 ^ 48) c.run-node.result.1) (sym parts.0)
    (subst (λ x. RunOver (with_start links.may_fail) m.next m.effects m.may_lack (m.stands c.run-node.result.0.machine) (links.stands c.args.links) (links.stands x) t (2 ^ 48) c.run-node.result.1) (sym parts.1)
    (over_started links.may_fail m.next m.effects m.may_lack (m.stands c.run-node.result.0.machine) (links.stands c.args.links) (links.stands c.in-Ok.node.links) (links.stands c.run-node.result.0.links) t (2 ^ 48)
    c.run-node.result.1
    (λ l told. c.in-Ok.ensures.rounds l (subst (λ x. links.stands x None l) (sym (ap (λ (p : Parts _ _). p.links) c.new.ensures)) told))
    (c.run-node.ensures.run t (subst (λ x. m.stands x t) (sym machine) stands))))
