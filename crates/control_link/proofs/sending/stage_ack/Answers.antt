use Rattle.std.proofs.Common.{subst}
use Rattle.control_link.specs.Messages.{Message}
use Rattle.control_link.specs.internal.Sending.{SentOne, head_in}
use Rattle.control_link.proofs.Messages.{ack_alone}
use Rattle.control_link.proofs.sending.stage_ack.Goals as goal

pub returns-clause-sent : goal.returns-clause-sent
returns-clause-sent g c = λ h stands.
    subst (λ (m : Message). SentOne g.W.Wrap.wrapped c.stage_one.new.env c.args.out.now c.stage_one.new.out c.args.route.now h m c.stage_one.result) (ack_alone (head_in c.args.route.now) c.args.acks.now c.acked_ids.ensures.count) (c.stage_one.ensures.sent h stands)
