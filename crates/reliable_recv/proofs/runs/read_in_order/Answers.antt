use Rattle.std.proofs.Common.{◌≡◌, ◌+◌, List, ℕ, ◌++◌, sym, ap, subst, ◌∙◌, refl, arith}
use Rattle.reliable_recv.specs.Receiving.{Receiving}
use Rattle.reliable_recv.specs.Sides.{IsKeptOf, Side, Stands}
use Rattle.reliable_recv.specs.Runs.{carried, text_read}
use Rattle.reliable_recv.proofs.Standing.{read_some}
use Rattle.reliable_recv.proofs.Reading.{read_to, stands_at_first, text_at_first, stands_more, text_more, all_was_read}
use Rattle.reliable_recv.proofs.runs.read_in_order.Goals as goal

pub payloads-init : goal.payloads-init
unfolding Stands
payloads-init c = record {
  waiting = refl;
  stands = λ h s. stands_at_first c.args.side.now.kept h s;
  text = λ h s is. text_at_first c.args.side.now.kept h c.args.text.now.items s is;
}

pub returns-in-None-clause-stands : goal.returns-in-None-clause-stands
unfolding Stands
returns-in-None-clause-stands c = λ h s.
    let here = c.payloads.invariant.stands h s in
    subst (λ (t : Receiving). IsKeptOf c.next_in_order.new.self.kept t) (sym (all_was_read c.payloads.side.kept h (sym c.in-None.ensures.same) here))
    (subst (λ (w : Side). IsKeptOf w.kept (read_to c.payloads.side.kept.read h)) (sym c.in-None.ensures.none) here)

pub returns-in-None-clause-text : goal.returns-in-None-clause-text
unfolding Stands
returns-in-None-clause-text c = λ h s is.
    c.payloads.invariant.text h s is ∙ ap text_read (sym (all_was_read c.payloads.side.kept h (sym c.in-None.ensures.same) (c.payloads.invariant.stands h s)))

pub payloads-smaller : goal.payloads-smaller
payloads-smaller c =
    let one : c.next_in_order.new.self.kept.read ≡ c.payloads.side.kept.read + 1 =
    c.in-Some.ensures.read ∙ sym (read_some c.payloads.side.kept c.in-Some.payload (sym c.in-Some.ensures.same)) in
    omega (arith, one, c.in-Some.ensures.bound)

pub payloads-preserved : goal.payloads-preserved
unfolding Stands
payloads-preserved c = record {
  waiting = c.in-Some.ensures.waiting ∙ c.payloads.invariant.waiting;
  stands = λ h s.
      stands_more c.payloads.side.kept c.next_in_order.new.self.kept h c.in-Some.payload (sym c.in-Some.ensures.same) (c.payloads.invariant.stands h s) c.in-Some.ensures.stands c.in-Some.ensures.read;
  text = λ h s is.
      c.in_ok-add_text-in-Some.ensures
      ∙ ap (λ (n : ℕ). c.payloads.text.items ++ carried n c.as_slice.result.now) c.read_count-id.ensures.same
      ∙ ap (λ (p : List ℕ). c.payloads.text.items ++ carried c.payloads.side.kept.read p) c.as_slice.ensures
      ∙ ap (λ (t : List ℕ). t ++ carried c.payloads.side.kept.read c.in-Some.payload) (c.payloads.invariant.text h s is)
      ∙ text_more c.payloads.side.kept c.next_in_order.new.self.kept h c.in-Some.payload (sym c.in-Some.ensures.same) (c.payloads.invariant.stands h s) c.in-Some.ensures.read;
}
