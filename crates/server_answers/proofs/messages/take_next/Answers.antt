use Rattle.std.proofs.Common.{◌-◌, refl, sym, ◌∙◌, arith}
use Rattle.server_engine.specs.Messages.{passed}
use Rattle.server_answers.specs.Rooms.{messages_bytes, messages_effects}
use Rattle.server_answers.proofs.Room.{spends_no_room, spends_nothing, spends_one, spends_request}
use Rattle.server_answers.proofs.Stays.{prepared_behind}
use Rattle.server_answers.proofs.Taken.{behind_it, many_request, passed_here}
use Rattle.server_answers.proofs.Taking.{room_behind, takes_empty, takes_nobody, takes_nothing, takes_other, takes_request}
use Rattle.server_answers.proofs.messages.take_next.Goals as goal

-- ---- nobody is here

pub returns-in_default-clause-taken : goal.returns-in_default-clause-taken
returns-in_default-clause-taken g c before course h may =
    let core = c.args.core.now in
    takes_nobody g.S.ClientSession.stands before core c.args.out.now core.turn.0 course c.args.prepared
    (c.places_tell_of_clients.ensures.nobody core course.table core.turn.0 h.table (sym c.place.ensures.place ∙ c.in_default.is)) h

pub returns-in_default-clause-spends : goal.returns-in_default-clause-spends
returns-in_default-clause-spends g c = spends_no_room c.args.prepared c.args.left c.args.out.now c.requires.some

pub returns-in_default-clause-room : goal.returns-in_default-clause-room
returns-in_default-clause-room g c =
    let p = c.args.prepared in
    room_behind c.args.out.now c.args.out.now (messages_effects p c.args.left) (messages_bytes p c.args.left) (messages_effects p 0) (messages_bytes p 0) c.requires.room
    (spends_no_room p c.args.left c.args.out.now c.requires.some)

-- ---- no message waits

pub returns-in-Nothing-clause-taken : goal.returns-in-Nothing-clause-taken
returns-in-Nothing-clause-taken g c before course h may =
    let core = c.args.core.now in
    let l = c.places_tell_of_clients.ensures.there core course.table core.turn.0 c.in-Some.i h.table (sym c.place.ensures.place ∙ c.in-Some.is) in
    takes_nothing g.S.ClientSession.stands before c.take_message.new.core c.take_message.new.out core.turn.0 course l.client l.client_there c.args.prepared
    (c.in-Nothing.ensures.seen course.table l.client h.table l.client_there) (c.in-Nothing.ensures.came before course h)

pub returns-in-Nothing-clause-spends : goal.returns-in-Nothing-clause-spends
returns-in-Nothing-clause-spends g c = spends_nothing c.args.prepared c.args.left c.args.out.now c.take_message.new.out c.requires.some c.in-Nothing.ensures.uses

pub returns-in-Nothing-clause-room : goal.returns-in-Nothing-clause-room
returns-in-Nothing-clause-room g c =
    let p = c.args.prepared in
    room_behind c.args.out.now c.take_message.new.out (messages_effects p c.args.left) (messages_bytes p c.args.left) (messages_effects p 0) (messages_bytes p 0) c.requires.room
    (spends_nothing p c.args.left c.args.out.now c.take_message.new.out c.requires.some c.in-Nothing.ensures.uses)

-- ---- an empty one

pub returns-in-Empty-clause-taken : goal.returns-in-Empty-clause-taken
returns-in-Empty-clause-taken g c before course h may =
    let core = c.args.core.now in
    let l = c.places_tell_of_clients.ensures.there core course.table core.turn.0 c.in-Some.i h.table (sym c.place.ensures.place ∙ c.in-Some.is) in
    let of = may l.client l.client_there in
    takes_empty g.S.ClientSession.stands before c.take_message.new.core c.take_message.new.out core.turn.0 course l.client l.client_there c.args.left of.1 c.args.prepared
    c.what_is_made_stays.ensures of.0 (c.in-Empty.ensures.seen course.table l.client h.table l.client_there) (c.in-Empty.ensures.came before course h)

pub returns-in-Empty-clause-spends : goal.returns-in-Empty-clause-spends
returns-in-Empty-clause-spends g c = spends_one c.args.prepared c.args.left c.args.out.now c.take_message.new.out c.requires.some c.in-Empty.ensures.uses

pub returns-in-Empty-clause-room : goal.returns-in-Empty-clause-room
returns-in-Empty-clause-room g c =
    let p = c.args.prepared in
    let left = c.args.left in
    room_behind c.args.out.now c.take_message.new.out (messages_effects p left) (messages_bytes p left) (messages_effects p (left - 1)) (messages_bytes p (left - 1)) c.requires.room
    (spends_one p left c.args.out.now c.take_message.new.out c.requires.some c.in-Empty.ensures.uses)

-- ---- a request

pub returns-then-left-lt-REQUEST-clause-taken : goal.returns-then-left-lt-REQUEST-clause-taken
returns-then-left-lt-REQUEST-clause-taken g c before course h may =
    let core = c.args.core.now in
    let l = c.places_tell_of_clients.ensures.there core course.table core.turn.0 c.in-Some.i h.table (sym c.place.ensures.place ∙ c.in-Some.is) in
    absurd (omega (
      arith,
      c.if-left-lt-REQUEST.true,
      many_request core.turn.0 course l.client l.client_there c.in-Request.conn c.args.left (c.in-Request.ensures.seen course.table l.client h.table l.client_there)
          (may l.client l.client_there).1,
    ))

pub returns-then-left-lt-REQUEST-clause-spends : goal.returns-then-left-lt-REQUEST-clause-spends
returns-then-left-lt-REQUEST-clause-spends g c =
    spends_nothing c.args.prepared c.args.left c.args.out.now c.take_message.new.out c.requires.some c.in-Request.ensures.uses

pub returns-then-left-lt-REQUEST-clause-room : goal.returns-then-left-lt-REQUEST-clause-room
returns-then-left-lt-REQUEST-clause-room g c =
    let p = c.args.prepared in
    room_behind c.args.out.now c.take_message.new.out (messages_effects p c.args.left) (messages_bytes p c.args.left) (messages_effects p 0) (messages_bytes p 0) c.requires.room
    (spends_nothing p c.args.left c.args.out.now c.take_message.new.out c.requires.some c.in-Request.ensures.uses)

pub returns-else-left-lt-REQUEST-clause-taken : goal.returns-else-left-lt-REQUEST-clause-taken
returns-else-left-lt-REQUEST-clause-taken g c before course h may =
    let core = c.args.core.now in
    let n = core.turn.0 in
    let answer = c.answer_request-prepared in
    let l = c.places_tell_of_clients.ensures.there core course.table n c.in-Some.i h.table (sym c.place.ensures.place ∙ c.in-Some.is) in
    let x = l.client in
    let may_it = may x l.client_there in
    let here = passed_here n course x l.client_there in
    let of = prepared_behind c.what_is_made_stays.ensures n course (passed n course) x c.args.prepared l.client_there refl may_it.0 in
    takes_request g.S.ClientSession.stands before answer.new.core answer.new.out n course x l.client_there c.args.left may_it.1 c.in-Request.conn answer.result
    (c.in-Request.ensures.seen course.table x h.table l.client_there)
    (λ y is. answer.ensures.prepared (passed n course) (behind_it x) y here of is)
    (answer.ensures.requested before (passed n course) (behind_it x) (c.in-Request.ensures.came before course h) here of)

pub returns-else-left-lt-REQUEST-clause-spends : goal.returns-else-left-lt-REQUEST-clause-spends
returns-else-left-lt-REQUEST-clause-spends g c =
    let answer = c.answer_request-prepared in
    spends_request c.args.prepared c.args.left c.args.out.now c.take_message.new.out c.requires.some c.if-left-lt-REQUEST.false c.in-Request.ensures.uses answer.result
    answer.ensures.less answer.new.out answer.ensures.uses

pub returns-else-left-lt-REQUEST-clause-room : goal.returns-else-left-lt-REQUEST-clause-room
returns-else-left-lt-REQUEST-clause-room g c =
    let answer = c.answer_request-prepared in
    let p = c.args.prepared in
    let q = answer.result in
    let left = c.args.left in
    room_behind c.args.out.now answer.new.out (messages_effects p left) (messages_bytes p left) (messages_effects q (left - 13)) (messages_bytes q (left - 13)) c.requires.room
    (spends_request p left c.args.out.now c.take_message.new.out c.requires.some c.if-left-lt-REQUEST.false c.in-Request.ensures.uses q answer.ensures.less answer.new.out
    answer.ensures.uses)

-- ---- any other

pub returns-in-Other-clause-taken : goal.returns-in-Other-clause-taken
returns-in-Other-clause-taken g c before course h may =
    let core = c.args.core.now in
    let l = c.places_tell_of_clients.ensures.there core course.table core.turn.0 c.in-Some.i h.table (sym c.place.ensures.place ∙ c.in-Some.is) in
    let of = may l.client l.client_there in
    takes_other g.S.ClientSession.stands before c.take_message.new.core c.take_message.new.out core.turn.0 course l.client l.client_there c.args.left of.1 c.args.prepared
    c.what_is_made_stays.ensures of.0 (c.in-Other.ensures.seen course.table l.client h.table l.client_there) (c.in-Other.ensures.came before course h)

pub returns-in-Other-clause-spends : goal.returns-in-Other-clause-spends
returns-in-Other-clause-spends g c = spends_one c.args.prepared c.args.left c.args.out.now c.take_message.new.out c.requires.some c.in-Other.ensures.uses

pub returns-in-Other-clause-room : goal.returns-in-Other-clause-room
returns-in-Other-clause-room g c =
    let p = c.args.prepared in
    let left = c.args.left in
    room_behind c.args.out.now c.take_message.new.out (messages_effects p left) (messages_bytes p left) (messages_effects p (left - 1)) (messages_bytes p (left - 1)) c.requires.room
    (spends_one p left c.args.out.now c.take_message.new.out c.requires.some c.in-Other.ensures.uses)
