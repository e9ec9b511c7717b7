use Rattle.std.proofs.Common.{ℕ, List, sym, subst}
use Rattle.vpn_base.specs.declared.names.Malformed.{Malformed}
use Rattle.std.specs.Prelude.{Result}
use Rattle.opcode_codec.specs.ControlText.{ControlForm}
use Rattle.control_link.specs.declared.runs.LinkEvent.{LinkEvent}
use Rattle.control_link.specs.Calls.{Left, said}
use Rattle.control_link.specs.Runs.{event_comes, packet_comes}
use Rattle.control_link.proofs.runs.take_event.Goals as goal

pub returns-in-Ok-clause-left : goal.returns-in-Ok-clause-left
returns-in-Ok-clause-left g c = λ l h s e.
    subst (λ (event : LinkEvent). Left g.W.Wrap.wrapped c.say.new.self c.say.new.env c.args.out.now c.say.new.out c.args.setup.now.to (event_comes l h event c.args.setup.now.remote c.args.now.0)) (sym c.in-Say.is)
    (subst (λ (bytes : List ℕ). Left g.W.Wrap.wrapped c.say.new.self c.say.new.env c.args.out.now c.say.new.out c.args.setup.now.to (said l h bytes c.args.setup.now.remote c.args.now.0)) c.as_slice.ensures (c.in-Ok.ensures.left l h s e))

pub returns-in-Ok-on_packet-clause-left : goal.returns-in-Ok-on_packet-clause-left
returns-in-Ok-on_packet-clause-left g c = λ l h s e.
    subst (λ (event : LinkEvent). Left g.W.Wrap.wrapped c.on_packet.new.self c.on_packet.new.env c.args.out.now c.on_packet.new.out c.args.setup.now.to (event_comes l h event c.args.setup.now.remote c.args.now.0)) (sym c.in-Packet.is)
    (subst (λ (read : Result ControlForm Malformed). Left g.W.Wrap.wrapped c.on_packet.new.self c.on_packet.new.env c.args.out.now c.on_packet.new.out c.args.setup.now.to (packet_comes l h read c.args.setup.now.remote c.args.now.0)) (rw c.as_slice-in-Packet.ensures at c.in-Ok-read_control.ensures.exact)
    (c.in-Ok-on_packet.ensures.left l h s e))

pub returns-in-Ok-tick-clause-left : goal.returns-in-Ok-tick-clause-left
returns-in-Ok-tick-clause-left g c = λ l h s e.
    subst (λ (event : LinkEvent). Left g.W.Wrap.wrapped c.tick.new.self c.tick.new.env c.args.out.now c.tick.new.out c.args.setup.now.to (event_comes l h event c.args.setup.now.remote c.args.now.0)) (sym c.in-Tick.is)
    (c.in-Ok-tick.ensures.left l h s e)
