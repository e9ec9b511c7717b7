use Rattle.vpn_node.proofs.Ends.{none_taken}
use Rattle.vpn_node.proofs.run.run.Goals as goal

pub returns-in_default-clause-run : goal.returns-in_default-clause-run
returns-in_default-clause-run g c = λ t stands.
    let m = g.M.Machine in
    let none = c.end_at_once.ensures.none in
    none_taken g.L.Links.may_fail m.next m.effects m.may_lack (m.stands c.args.machine.now) (g.L.Links.stands c.args.links.now) t c.args.turns c.end_at_once.result
    stands c.end_at_once.ensures.ended none.0 none.1 none.2
