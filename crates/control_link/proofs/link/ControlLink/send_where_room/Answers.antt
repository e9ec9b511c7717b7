use Rattle.std.proofs.Common.{[]}
use Rattle.control_link.specs.internal.Sending.{with_pending}
use Rattle.control_link.proofs.Leaving.{left_from}
use Rattle.control_link.proofs.link.ControlLink.send_where_room.Goals as goal

pub returns-in-Ok-send_all-clause-left : goal.returns-in-Ok-send_all-clause-left
returns-in-Ok-send_all-clause-left g c = λ l h stands seals.
    left_from g.W.Wrap.wrapped c.send_all.new.self c.send_all.new.env c.args.out.now c.reserve.new.self c.send_all.new.out c.args.to (with_pending c.args.again l h [] c.args.remote c.args.now.0) c.reserve.ensures.same
    (c.in-Ok-send_all.ensures.left l h stands seals)

pub returns-in-Err-send_all-clause-left : goal.returns-in-Err-send_all-clause-left
returns-in-Err-send_all-clause-left g c = λ l h stands seals.
    left_from g.W.Wrap.wrapped c.send_all.new.self c.send_all.new.env c.args.out.now c.reserve.new.self c.send_all.new.out c.args.to (with_pending c.args.again l h [] c.args.remote c.args.now.0) c.reserve.ensures.same
    (c.in-Err-send_all.ensures.left l h stands seals)
