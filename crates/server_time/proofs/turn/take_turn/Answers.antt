use Rattle.server_table.specs.Courses.{acted}
use Rattle.server_table.specs.Endings.{turned}
use Rattle.server_table.specs.Time.{ticking_for}
use Rattle.peer_table.specs.Time.{ticked}
use Rattle.server_time.proofs.Begun.{room_for_ending, room_for_ping, turn_taken, uses_all}
use Rattle.server_time.proofs.Others.{others_all}
use Rattle.server_time.proofs.turn.take_turn.Goals as goal

pub end_if_over-requires-clause-room : goal.end_if_over-requires-clause-room
end_if_over-requires-clause-room g c =
    let r = c.requires.ready in
    room_for_ending c.args.out.now c.tick_at-turn.new.out r.effects r.bytes r.room (c.tick_at-turn.ensures.uses r.effects r.bytes r.ready)

pub ping-requires-clause-room : goal.ping-requires-clause-room
ping-requires-clause-room g c =
    let r = c.requires.ready in
    room_for_ping c.args.out.now c.tick_at-turn.new.out c.end_if_over.new.out r.effects r.bytes r.room (c.tick_at-turn.ensures.uses r.effects r.bytes r.ready)
    c.end_if_over.ensures.uses

pub returns-clause-ticked : goal.returns-clause-ticked
returns-clause-ticked g c before course h =
    let core = c.args.core.now in
    let l = c.places_tell_of_clients.ensures.there core course.table core.turn.0 c.args.i h.table c.requires.place in
    let x = l.client in
    let after = acted core.turn.0 x.address (ticked (ticking_for course.table x) x.session) course in
    turn_taken g.S.ClientSession.stands before c.ping.new.core c.ping.new.out course core.turn.0 x l.client_there c.tick_at-turn.result
    (c.tick_at-turn.ensures.answer before course h x l.client_there)
    (c.ping.ensures.pinged before (turned core.turn.0 c.tick_at-turn.result after)
    (c.end_if_over.ensures.turned before after (c.tick_at-turn.ensures.acted before course h x l.client_there)))

pub returns-clause-uses : goal.returns-clause-uses
returns-clause-uses g c effects bytes ready =
    uses_all c.args.out.now c.tick_at-turn.new.out c.end_if_over.new.out c.ping.new.out effects bytes (c.tick_at-turn.ensures.uses effects bytes ready)
    c.end_if_over.ensures.uses c.ping.ensures.uses

pub returns-clause-others : goal.returns-clause-others
returns-clause-others g c =
    others_all c.args.core.now.turn.0 c.args.core.now c.tick_at-turn.new.core c.end_if_over.new.core c.ping.new.core c.tick_at-turn.ensures.others c.end_if_over.ensures.others
    c.ping.ensures.others
