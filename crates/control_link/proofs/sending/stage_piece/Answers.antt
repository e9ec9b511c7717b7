use Rattle.std.proofs.Common.{◌≡◌, subst}
use Rattle.vpn_base.specs.Acks.{acked}
use Rattle.opcode_codec.specs.ControlText.{sent_form}
use Rattle.control_link.specs.Messages.{Message, piece_message}
use Rattle.control_link.specs.internal.Sending.{SentOne, head_in}
use Rattle.control_link.proofs.Messages.{first_piece, later_piece}
use Rattle.control_link.proofs.sending.stage_piece.Goals as goal
use Rattle.control_link.proofs.sending.stage_piece.Goals.{then-id-eq0, else-id-eq0}

message : (g : _) (c : goal.After-stage_one g) → record { op = c.if-id-eq0.op; form = sent_form c.if-id-eq0.op c.args.acks.now c.args.route.now.remote c.args.id c.args.payload.now } ≡ piece_message (head_in c.args.route.now) (acked c.args.acks.now) (c.args.id, c.args.payload.now)
message g c = elim c.if-id-eq0.branch [
  | then-id-eq0 w ↦ first_piece (head_in c.args.route.now) c.args.acks.now c.args.id c.args.payload.now c.if-id-eq0.op c.acked_ids.ensures.count c.requires.first w.if-id-eq0.true w.op-is
  | else-id-eq0 w ↦ later_piece (head_in c.args.route.now) c.args.acks.now c.args.id c.args.payload.now c.if-id-eq0.op c.acked_ids.ensures.count w.if-id-eq0.false w.op-is
]

pub returns-clause-sent : goal.returns-clause-sent
returns-clause-sent g c =
    λ h stands.
    subst (λ (m : Message). SentOne g.W.Wrap.wrapped c.stage_one.new.env c.args.out.now c.stage_one.new.out c.args.route.now h m c.stage_one.result) (message g c) (c.stage_one.ensures.sent h stands)
