use Rattle.std.proofs.Common.{ap, sym, ◌∙◌}
use Rattle.server_table.specs.ControlDatagrams as server
use Rattle.server_control.specs.Packets.{packet_of}
use Rattle.server_table.specs.Courses.{outs}
use Rattle.server_table.specs.Runs.{is_refusal}
use Rattle.server_control.proofs.Arrived.{is_admitted, is_zero, not_zero, on_err, on_ok, when_admitted, when_full, when_unwrapped}
use Rattle.server_control.proofs.arriving.of_nobody.Goals as goal

pub returns-then-not-has_room-clause-nobody : goal.returns-then-not-has_room-clause-nobody
returns-then-not-has_room-clause-nobody g c before course bytes lacks h =
    let core = c.args.core.now in
    let r = packet_of c.args.opened.now c.args.view.now in
    when_full g.S.ClientSession.stands before core core c.report-then-not-has_room.new.out course h.table (record { from = c.args.from; bytes = bytes; lacks = lacks }) c.args.draw.now r
    (server.begins_client c.args.op r) (◌∙◌ {a = server.begins_client c.args.op r} (sym c.begins_client.ensures.begins) c.if-not-begins_client.false) (sym c.has_room.ensures.room ∙ c.if-not-has_room.true)
    (c.report-then-not-has_room.ensures.reported before course h)

pub returns-then-opened-eq0-clause-nobody : goal.returns-then-opened-eq0-clause-nobody
returns-then-opened-eq0-clause-nobody g c before course bytes lacks h =
    let core = c.args.core.now in
    let r = packet_of c.args.opened.now c.args.view.now in
    when_unwrapped g.S.ClientSession.stands before core core c.report-then-opened-eq0.new.out course h.table (record { from = c.args.from; bytes = bytes; lacks = lacks }) c.args.draw.now r
    (server.begins_client c.args.op r) (◌∙◌ {a = server.begins_client c.args.op r} (sym c.begins_client.ensures.begins) c.if-not-begins_client.false) (sym c.has_room.ensures.room ∙ c.if-not-has_room.false)
    (is_zero c.args.opened.now.id c.if-opened-eq0.true) (c.report-then-opened-eq0.ensures.reported before course h)

pub returns-clause-nobody : goal.returns-clause-nobody
returns-clause-nobody g c =
    on_ok c.admit.result c.admit.ensures.admitted
    (λ admitted before course bytes lacks h.
    let core = c.args.core.now in
    let r = packet_of c.args.opened.now c.args.view.now in
    when_admitted g.S.ClientSession.stands before core c.admit.new.core c.admit.new.out course h.table (record { from = c.args.from; bytes = bytes; lacks = lacks }) c.args.draw.now r
    (server.begins_client c.args.op r) (◌∙◌ {a = server.begins_client c.args.op r} (sym c.begins_client.ensures.begins) c.if-not-begins_client.false) (sym c.has_room.ensures.room ∙ c.if-not-has_room.false)
    (not_zero c.args.opened.now.id c.if-opened-eq0.false) (admitted before course bytes lacks h))

pub returns-clause-lacking : goal.returns-clause-lacking
returns-clause-lacking g c =
    on_err c.admit.result
    (λ before course bytes lacks h fresh.
    let core = c.args.core.now in
    let r = packet_of c.args.opened.now c.args.view.now in
    ap (λ d. is_refusal (outs d))
    (is_admitted g.S.ClientSession.stands before core core c.args.out.now course h.table (record { from = c.args.from; bytes = bytes; lacks = lacks }) c.args.draw.now r
    (server.begins_client c.args.op r) (◌∙◌ {a = server.begins_client c.args.op r} (sym c.begins_client.ensures.begins) c.if-not-begins_client.false) (sym c.has_room.ensures.room ∙ c.if-not-has_room.false)
    (not_zero c.args.opened.now.id c.if-opened-eq0.false))
    ∙ c.what_is_done_is_no_refusal.ensures.admission c.args.from bytes lacks c.args.draw.now r course fresh)
