use Rattle.std.proofs.Common.{ap, ◌∙◌}
use Rattle.reliable_recv.specs.Receiving.{Receiving}
use Rattle.reliable_recv.proofs.Reading.{none_waits}
use Rattle.reliable_recv.proofs.runs.put_next.Goals as goal

pub returns-clause-none : goal.returns-clause-none
returns-clause-none c =
    ap (λ (r : Receiving). r.waiting) c.take_acks.ensures.new
    ∙ none_waits c.args.side.now.kept c.put.new.self.kept c.args.id c.args.payload.now c.requires c.in_ok-put.ensures.waiting
