use Rattle.std.proofs.Common.{refl}
use Rattle.client_table.specs.Entries.{newcomer}
use Rattle.client_table.specs.PeerIds.{free_peer_id}
use Rattle.client_table.specs.Tables.{admitted_by, entries_of}
use Rattle.server_control.proofs.Admitted.{first_sound, has_admitted, reserved_sound, reserved_stands}
use Rattle.server_control.proofs.Free.{free_is}
use Rattle.server_control.proofs.admitting.admit_first.Goals as goal

pub returns-clause-admitted : goal.returns-clause-admitted
returns-clause-admitted g c before course h =
    let means = g.S.ClientSession.stands in
    let core = c.args.core.now in
    let ct = c.reserve.new.self in
    let core2 = record core { clients = ct } in
    let b = c.in-Ok-begin.begun in
    let table2 = reserved_stands means core ct course.table c.reserve.ensures.same h.table in
    has_admitted means before core2 c.args.out.now c.begin.new.out course (record { table = table2; outbox = h.outbox; in_turn = h.in_turn })
    c.requires.alone c.requires.mark c.args.from c.args.draw.now c.own_sid-own.result c.own_sid-own.ensures c.args.opened.now c.args.view.now c.requires.wrapped c.requires.first
    b.0 b.1 b.2 c.admit.new.self c.in-Ok-admit.ensures.ok
    (free_is means core2 course.table table2 (c.peer_ids_are_the_least_free.ensures (entries_of ct)))
    c.in-Ok-admit.cid c.in-Ok-admit.ensures.number c.last_after-core.result c.last_after-core.ensures c.in-Ok-begin.ensures.begun

pub returns-clause-sound : goal.returns-clause-sound
returns-clause-sound g c =
    let core = c.args.core.now in
    let ct = c.reserve.new.self in
    let b = c.in-Ok-begin.begun in
    first_sound g.S.ClientSession.goes_on g.S.ClientSession.count g.S.ClientSession.since (record core { clients = ct }) c.requires.counted
    (reserved_sound g.S.ClientSession.goes_on g.S.ClientSession.count g.S.ClientSession.since core ct c.reserve.ensures.same c.requires.sound)
    (newcomer (admitted_by ct) (free_peer_id (entries_of ct)) c.args.from c.args.opened.now.sid b.0) c.in-Ok-begin.ensures.count c.in-Ok-begin.ensures.since c.admit.new.self c.in-Ok-admit.ensures.ok
    c.in-Ok-admit.cid c.last_after-core.result b.2 c.in-Ok-begin.ensures.goes_on refl c.in-Ok-admit.ensures.number
