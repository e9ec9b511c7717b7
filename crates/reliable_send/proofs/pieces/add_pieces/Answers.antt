use Rattle.std.proofs.Common.{◌<◌, length, ap, sym, ◌∙◌, arith}
use Rattle.std.proofs.lemmas.List.{append-nil}
use Rattle.reliable_send.proofs.Cutting.{cut-none, length-cut-some, more_cut}
use Rattle.reliable_send.proofs.pieces.add_pieces.Goals as goal

pub take_last-room-requires : goal.take_last-room-requires
take_last-room-requires c =
    let one = length-cut-some c.loop-rest.rest.now c.min-size.result (grind arith) c.min-size.ensures in omega (arith, one, c.loop-rest.invariant.rooms, c.requires.rooms)

pub push_reserved-requires : goal.push_reserved-requires
push_reserved-requires c =
    let one = length-cut-some c.loop-rest.rest.now c.min-size.result (grind arith) c.min-size.ensures in
    omega (arith, one, c.loop-rest.invariant.places, c.loop-rest.invariant.capacity, c.requires.places)

pub loop-rest-preserved : goal.loop-rest-preserved
loop-rest-preserved c =
    let some : 0 < length c.loop-rest.rest.now = grind arith in
    let one = length-cut-some c.loop-rest.rest.now c.min-size.result some c.min-size.ensures in
    record {
      added = more_cut c.loop-rest.pieces.items c.push_reserved.new.self.items _ c.loop-rest.rest.now c.filled.result c.fresh.result c.min-size.result some c.min-size.ensures c.filled.ensures c.fresh.ensures c.push_reserved.ensures.items c.loop-rest.invariant.added;
      capacity = c.push_reserved.ensures.capacity ∙ c.loop-rest.invariant.capacity;
      places = omega (arith, one, c.push_reserved.ensures.len, c.loop-rest.invariant.places);
      rooms = omega (arith, one, c.take_last-room.ensures.len, c.loop-rest.invariant.rooms);
    }

pub returns-clause-added : goal.returns-clause-added
returns-clause-added c =
    let none = cut-none c.loop-rest.rest.now (grind arith) in sym (append-nil c.loop-rest.pieces.items) ∙ (rw none at c.loop-rest.invariant.added)

pub returns-clause-len : goal.returns-clause-len
returns-clause-len c = let none = ap length (cut-none c.loop-rest.rest.now (grind arith)) in omega (arith, none, c.loop-rest.invariant.places)

pub returns-clause-rooms : goal.returns-clause-rooms
returns-clause-rooms c = let none = ap length (cut-none c.loop-rest.rest.now (grind arith)) in omega (arith, none, c.loop-rest.invariant.rooms)
