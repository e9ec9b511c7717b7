use Rattle.std.proofs.Common.{ap, sym, ◌∙◌}
use Rattle.vpn_base.specs.declared.names.Cid.{Cid}
use Rattle.server_control.specs.Packets.{packet_of}
use Rattle.server_control.proofs.Taken.{nobody_takes, told_in_all}
use Rattle.server_control.proofs.taking.to_client.Goals as goal

pub returns-in_default-clause-taken : goal.returns-in_default-clause-taken
returns-in_default-clause-taken g c before course h =
    let core = c.args.core.now in
    nobody_takes g.S.ClientSession.stands before core c.args.out.now core.turn.0 (packet_of c.args.opened.now c.args.view.now) course
    (c.places_tell_of_clients.ensures.nobody core course.table core.turn.0 h.table (sym c.place.ensures.place ∙ c.in_default.is)) h

pub returns-in-Ok-clause-taken : goal.returns-in-Ok-clause-taken
returns-in-Ok-clause-taken g c before course h =
    let means = g.S.ClientSession.stands in
    let core = c.args.core.now in
    let n = core.turn.0 in
    let r = packet_of c.args.opened.now c.args.view.now in
    let there = c.places_tell_of_clients.ensures.there core course.table n c.in-Some.i h.table (sym c.place.ensures.place ∙ c.in-Some.is) in
    told_in_all means before c.take_at.new.core c.tell.new.core c.take_at.new.out c.tell.new.out n c.take_at.new.core.turn.0 r course there.client c.in-Ok.answer there.client_there
    (c.in-Ok.ensures.taken before course there.client h there.client_there) (ap (λ (cid : Cid). cid.0) c.take_at.ensures.turn) c.tell.ensures.told
