use Rattle.std.proofs.Common.{ℕ, ◌+◌, ◌-◌, ◌≤◌, min, List, length, vec_len, vec_capacity, sym, subst, arith}
use Rattle.reliable_send.specs.Sending.{cut}
use Rattle.std.proofs.lemmas.Result.{on_ok_weaker}
use Rattle.reliable_send.specs.Sides.{IsKeptOf, Side, Stands}
use Rattle.reliable_send.proofs.Cutting.{fewer_cuts}
use Rattle.reliable_send.proofs.side.SendSide.reserve.Goals as goal

pub returns-clause-stands : goal.returns-clause-stands
unfolding Stands
returns-clause-stands c = λ h s. rw c.make_room.ensures.same (subst (λ (w : Side). IsKeptOf w.kept h) (sym c.self.view_is) s)

pub returns-clause-enough : goal.returns-clause-enough
returns-clause-enough c =
    let room = min (vec_len c.make_room.new.spare) (vec_capacity c.make_room.new.pieces - vec_len c.make_room.new.pieces) in
    let n = c.count_pieces.result in
    let few : (n ≤ vec_len c.make_room.new.spare) × (vec_len c.make_room.new.pieces + n ≤ vec_capacity c.make_room.new.pieces) → (text : List ℕ) → length text ≤ c.args.bytes → length (cut text) ≤ room = λ there text few.
    omega (arith, fewer_cuts text c.args.bytes few, there.0, there.1, c.count_pieces.ensures) in
    on_ok_weaker _ few c.make_room.ensures.ok
