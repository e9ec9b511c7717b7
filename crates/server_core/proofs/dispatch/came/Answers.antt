use Rattle.std.proofs.Common.{ap, sym, ◌∙◌}
use Rattle.vpn_links.specs.declared.events.Kind.TheVariants.{Datagram, DeviceIn, Line}
use Rattle.opcode_codec.specs.Packet.{packet_of}
use Rattle.server_table.specs.Step.{came, datagram_as}
use Rattle.server_core.proofs.Came.{Comes, MayWant, datagram_comes, datagram_wants, device_comes, down_comes, down_wants, err_always, err_then, err_told, file_comes, file_wants, halt_comes, if_then, if_told, line_comes, ok_then, plain_comes, plain_wants, ready_comes, text_comes, text_wants, tick_comes, tick_wants, up_comes, up_wants}
use Rattle.server_core.proofs.dispatch.came.Goals as goal

pub returns-in-Datagram-clause-came : goal.returns-in-Datagram-clause-came
returns-in-Datagram-clause-came g c =
    let means = g.S.ClientSession.stands in
    let core = c.args.core.now in
    let new = c.datagram_came.new in
    let bytes = c.as_slice.result.now in
    let is = c.in-Datagram.is ∙ ap (Datagram c.in-Datagram.from) (sym c.as_slice.ensures) in
    if_then c.datagram_came.result
    (λ lacks. Comes means core new.core c.args.out.now new.out
    (λ c1. datagram_as (record { from = c.in-Datagram.from; bytes = bytes; lacks = lacks }) c.args.draw.now c1 (packet_of bytes)))
    (λ lacks. Comes means core new.core c.args.out.now new.out (came lacks c.args.draw.now c.args.kind.now)) c.datagram_came.ensures.came
    (λ lacks comes. datagram_comes means core new.core c.args.out.now new.out c.args.draw.now c.args.kind.now lacks c.in-Datagram.from bytes is comes)

pub returns-in-Datagram-clause-lacking : goal.returns-in-Datagram-clause-lacking
returns-in-Datagram-clause-lacking g c =
    err_then c.datagram_came.result c.datagram_came.ensures.lacking
    (datagram_wants g.S.ClientSession.stands c.args.core.now c.args.out.now c.args.draw.now c.args.kind.now c.in-Datagram.from c.as_slice.result.now
    (c.in-Datagram.is ∙ ap (Datagram c.in-Datagram.from) (sym c.as_slice.ensures)))

pub returns-in-EngineDown-clause-came : goal.returns-in-EngineDown-clause-came
returns-in-EngineDown-clause-came g c =
    let means = g.S.ClientSession.stands in
    let core = c.args.core.now in
    let new = c.engine_down.new in
    if_told c.engine_down.result c.told-in-EngineDown.result (λ lacks. Comes means core new.core c.args.out.now new.out (came lacks c.args.draw.now c.args.kind.now)) c.told-in-EngineDown.ensures
    (ok_then c.engine_down.result c.engine_down.ensures.came
    (down_comes means core new.core c.args.out.now new.out c.args.draw.now c.args.kind.now _ c.in-EngineDown.conn c.in-EngineDown.is))

pub returns-in-EngineDown-clause-lacking : goal.returns-in-EngineDown-clause-lacking
returns-in-EngineDown-clause-lacking g c =
    err_told c.engine_down.result c.told-in-EngineDown.result (MayWant g.S.ClientSession.stands c.args.core.now c.args.out.now c.args.draw.now c.args.kind.now) c.told-in-EngineDown.ensures
    (err_then c.engine_down.result c.engine_down.ensures.lacking
    (down_wants g.S.ClientSession.stands c.args.core.now c.args.out.now c.args.draw.now c.args.kind.now c.in-EngineDown.conn c.in-EngineDown.is))

pub returns-in-DeviceIn-clause-came : goal.returns-in-DeviceIn-clause-came
returns-in-DeviceIn-clause-came g c =
    device_comes g.S.ClientSession.stands c.args.core.now c.device_came.new.self c.args.out.now c.device_came.new.out c.args.draw.now c.args.kind.now _ c.as_slice-in-DeviceIn.result.now
    (c.in-DeviceIn.is ∙ ap DeviceIn (sym c.as_slice-in-DeviceIn.ensures)) c.device_came.ensures.came

pub returns-in-DeviceReady-clause-came : goal.returns-in-DeviceReady-clause-came
returns-in-DeviceReady-clause-came g c =
    ready_comes g.S.ClientSession.stands c.args.core.now c.device_ready.new.self c.args.out.now c.device_ready.new.out c.args.draw.now c.args.kind.now _
    c.in-DeviceReady.is c.device_ready.ensures.given

pub returns-in-Line-clause-came : goal.returns-in-Line-clause-came
returns-in-Line-clause-came g c =
    line_comes g.S.ClientSession.stands c.args.core.now c.args.core.now c.args.out.now c.line_came.new.out c.args.draw.now c.args.kind.now _ c.as_slice-in-Line.result.now
    (c.in-Line.is ∙ ap Line (sym c.as_slice-in-Line.ensures)) c.line_came.ensures.came

pub returns-in-Tick-clause-came : goal.returns-in-Tick-clause-came
returns-in-Tick-clause-came g c =
    let means = g.S.ClientSession.stands in
    let core = c.args.core.now in
    let new = c.tick.new in
    if_told c.tick.result c.told-in-Tick.result (λ lacks. Comes means core new.core c.args.out.now new.out (came lacks c.args.draw.now c.args.kind.now)) c.told-in-Tick.ensures
    (ok_then c.tick.result c.tick.ensures.ticked
    (tick_comes means core new.core c.args.out.now new.out c.args.draw.now c.args.kind.now _ c.in-Tick.is))

pub returns-in-Tick-clause-lacking : goal.returns-in-Tick-clause-lacking
returns-in-Tick-clause-lacking g c =
    err_told c.tick.result c.told-in-Tick.result (MayWant g.S.ClientSession.stands c.args.core.now c.args.out.now c.args.draw.now c.args.kind.now) c.told-in-Tick.ensures
    (err_always c.tick.result
    (tick_wants g.S.ClientSession.stands c.args.core.now c.args.out.now c.args.draw.now c.args.kind.now c.in-Tick.is (λ before course h fresh. c.what_is_done_is_no_refusal.ensures.time course fresh)))

pub returns-in-Halt-clause-came : goal.returns-in-Halt-clause-came
returns-in-Halt-clause-came g c =
    halt_comes g.S.ClientSession.stands c.args.core.now c.halt.new.core c.args.out.now c.halt.new.out c.args.draw.now c.args.kind.now _ c.in-Halt.is c.halt.ensures.halted

pub returns-in-EngineText-clause-came : goal.returns-in-EngineText-clause-came
returns-in-EngineText-clause-came g c =
    let means = g.S.ClientSession.stands in
    let core = c.args.core.now in
    let new = c.engine_answered.new in
    if_told c.engine_answered.result c.told.result (λ lacks. Comes means core new.core c.args.out.now new.out (came lacks c.args.draw.now c.args.kind.now)) c.told.ensures
    (ok_then c.engine_answered.result c.engine_answered.ensures.came
    (text_comes means core new.core c.args.out.now new.out c.args.draw.now c.args.kind.now _ c.in-EngineText.conn c.in-EngineText.bytes c.in-EngineText.is))

pub returns-in-EngineText-clause-lacking : goal.returns-in-EngineText-clause-lacking
returns-in-EngineText-clause-lacking g c =
    err_told c.engine_answered.result c.told.result (MayWant g.S.ClientSession.stands c.args.core.now c.args.out.now c.args.draw.now c.args.kind.now) c.told.ensures
    (err_then c.engine_answered.result c.engine_answered.ensures.lacking
    (text_wants g.S.ClientSession.stands c.args.core.now c.args.out.now c.args.draw.now c.args.kind.now c.in-EngineText.conn c.in-EngineText.bytes c.in-EngineText.is))

pub returns-in-EnginePlain-clause-came : goal.returns-in-EnginePlain-clause-came
returns-in-EnginePlain-clause-came g c =
    let means = g.S.ClientSession.stands in
    let core = c.args.core.now in
    let new = c.engine_answered-in-EnginePlain.new in
    if_told c.engine_answered-in-EnginePlain.result c.told-in-EnginePlain.result (λ lacks. Comes means core new.core c.args.out.now new.out (came lacks c.args.draw.now c.args.kind.now)) c.told-in-EnginePlain.ensures
    (ok_then c.engine_answered-in-EnginePlain.result c.engine_answered-in-EnginePlain.ensures.came
    (plain_comes means core new.core c.args.out.now new.out c.args.draw.now c.args.kind.now _ c.in-EnginePlain.conn c.in-EnginePlain.bytes c.in-EnginePlain.is))

pub returns-in-EnginePlain-clause-lacking : goal.returns-in-EnginePlain-clause-lacking
returns-in-EnginePlain-clause-lacking g c =
    err_told c.engine_answered-in-EnginePlain.result c.told-in-EnginePlain.result (MayWant g.S.ClientSession.stands c.args.core.now c.args.out.now c.args.draw.now c.args.kind.now) c.told-in-EnginePlain.ensures
    (err_then c.engine_answered-in-EnginePlain.result c.engine_answered-in-EnginePlain.ensures.lacking
    (plain_wants g.S.ClientSession.stands c.args.core.now c.args.out.now c.args.draw.now c.args.kind.now c.in-EnginePlain.conn c.in-EnginePlain.bytes c.in-EnginePlain.is))

pub returns-in-EngineUp-clause-came : goal.returns-in-EngineUp-clause-came
returns-in-EngineUp-clause-came g c =
    let means = g.S.ClientSession.stands in
    let core = c.args.core.now in
    let new = c.engine_answered-in-EngineUp.new in
    if_told c.engine_answered-in-EngineUp.result c.told-in-EngineUp.result (λ lacks. Comes means core new.core c.args.out.now new.out (came lacks c.args.draw.now c.args.kind.now)) c.told-in-EngineUp.ensures
    (ok_then c.engine_answered-in-EngineUp.result c.engine_answered-in-EngineUp.ensures.came
    (up_comes means core new.core c.args.out.now new.out c.args.draw.now c.args.kind.now _ c.in-EngineUp.conn c.in-EngineUp.name c.in-EngineUp.is))

pub returns-in-EngineUp-clause-lacking : goal.returns-in-EngineUp-clause-lacking
returns-in-EngineUp-clause-lacking g c =
    err_told c.engine_answered-in-EngineUp.result c.told-in-EngineUp.result (MayWant g.S.ClientSession.stands c.args.core.now c.args.out.now c.args.draw.now c.args.kind.now) c.told-in-EngineUp.ensures
    (err_then c.engine_answered-in-EngineUp.result c.engine_answered-in-EngineUp.ensures.lacking
    (up_wants g.S.ClientSession.stands c.args.core.now c.args.out.now c.args.draw.now c.args.kind.now c.in-EngineUp.conn c.in-EngineUp.name c.in-EngineUp.is))

pub returns-in-File-clause-came : goal.returns-in-File-clause-came
returns-in-File-clause-came g c =
    let means = g.S.ClientSession.stands in
    let core = c.args.core.now in
    let new = c.file_came.new in
    if_told c.file_came.result c.told-in-File.result (λ lacks. Comes means core new.core c.args.out.now new.out (came lacks c.args.draw.now c.args.kind.now)) c.told-in-File.ensures
    (ok_then c.file_came.result c.file_came.ensures.came
    (file_comes means core new.core c.args.out.now new.out c.args.draw.now c.args.kind.now _ c.in-File.cid c.in-File.answer c.in-File.is))

pub returns-in-File-clause-lacking : goal.returns-in-File-clause-lacking
returns-in-File-clause-lacking g c =
    err_told c.file_came.result c.told-in-File.result (MayWant g.S.ClientSession.stands c.args.core.now c.args.out.now c.args.draw.now c.args.kind.now) c.told-in-File.ensures
    (err_then c.file_came.result c.file_came.ensures.lacking
    (file_wants g.S.ClientSession.stands c.args.core.now c.args.out.now c.args.draw.now c.args.kind.now c.in-File.cid c.in-File.answer c.in-File.is))
