use Rattle.std.proofs.Common.{sym, ap, subst, [], None, refl, arith}
use Rattle.vpn_node.specs.Running.{Between, Ends}
use Rattle.vpn_node.specs.declared.outcome.Ran.{Ran}
use Rattle.server_replay.specs.Replays.{most_turns}
use Rattle.server_replay.specs.internal.Serving.{with_start}
use Rattle.server_replay.proofs.Served.{served_none}
use Rattle.server_replay.proofs.serve.never_served.Goals as goal

pub returns-clause-run : goal.returns-clause-run
returns-clause-run g c = λ t.
    let ran = c.never_ran.ensures in
    served_none (with_start g.L.Links.may_fail) t (g.L.Links.stands c.args.links) c.never_ran.result
    (subst (λ (r : Ran). Ends (with_start g.L.Links.may_fail) r.outcome most_turns [] [] None) (sym ran) (Between tt refl refl refl (omega arith)))
    (ap (λ (r : Ran). r.events) ran) (ap (λ (r : Ran). r.lost) ran) (ap (λ (r : Ran). r.refused) ran)
