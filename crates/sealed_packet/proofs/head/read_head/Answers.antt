use Rattle.opcode_codec.specs.DataPacket.{data_form}
use Rattle.sealed_packet.proofs.Parts.{length_read, readable, with_text}
use Rattle.sealed_packet.proofs.head.read_head.Goals as goal

pub returns-in-Ok-Inner-clause-exact : goal.returns-in-Ok-Inner-clause-exact
returns-in-Ok-Inner-clause-exact c =
    let spelled = rw c.in-Ok-Inner.field-0-is at c.in-Ok-Inner.ensures.found in
    with_text (data_form c.in-Ok-Inner.view) c.args.kid c.args.datagram.now spelled.0 spelled.1 c.if-view-kid.true

pub returns-in-Ok-Inner-clause-long : goal.returns-in-Ok-Inner-clause-long
returns-in-Ok-Inner-clause-long c =
    let spelled = rw c.in-Ok-Inner.field-0-is at c.in-Ok-Inner.ensures.found in
    length_read (data_form c.in-Ok-Inner.view) c.args.datagram.now (readable (data_form c.in-Ok-Inner.view) spelled.0) spelled.1
