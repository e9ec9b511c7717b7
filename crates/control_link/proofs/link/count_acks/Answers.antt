use Rattle.std.proofs.Common.{arith, ◌+◌, ℕ, List, subst, sym, take}
use Rattle.reliable_send.specs.Sending.{Sending}
use Rattle.reliable_send.specs.Sides.{Stands}
use Rattle.control_link.specs.Calls.{all_acked}
use Rattle.control_link.proofs.Reading.{acked_more}
use Rattle.control_link.proofs.link.count_acks.Goals as goal

pub loop-id-preserved : goal.loop-id-preserved
loop-id-preserved c = record {
  stands = λ s stands.
      let ids = c.acked_ids-id-items.result.now in
      let value = c.acked_ids-id-items.ensures.value in
      let i = c.loop-id.id-index in
      let before = subst (λ (l : List ℕ). Stands c.loop-id.side (all_acked (take i l) s)) (sym value) (c.loop-id.invariant.stands s stands) in
      subst (λ (l : List ℕ). Stands c.acked.new.self (all_acked (take (i + 1) l) s)) value
      (subst (λ (after : Sending). Stands c.acked.new.self after) (sym (acked_more ids i 0 s c.loop-id-test.true)) (c.acked.ensures.stands _ before));
  room = omega (arith, c.loop-id.invariant.room, c.acked.ensures.spare);
}
