use Rattle.std.proofs.Common.{◌≡◌, ◌+◌, ℕ, List, [], ◌∷◌, ◌++◌, take, sym, ap, subst, ◌∙◌}
use Rattle.std.proofs.lemmas.List.{take_more}
use Rattle.reliable_recv.specs.Receiving.{Arrival, Receiving, put_into, after_acks, taken_after, all_taken, text_of}
use Rattle.reliable_recv.specs.Sides.{Stands}
use Rattle.reliable_recv.specs.Runs.{text_read, all_read, reached}
use Rattle.reliable_recv.proofs.Reading.{reached_none, reached_next, text_of_none, text_of_is, text_stays, text_reached, all_taken-push, text_of-push}
use Rattle.reliable_recv.proofs.runs.read_all.Goals as goal

pub loop-id-init : goal.loop-id-init
loop-id-init c = record {
  waiting = ap (λ (r : Receiving). r.waiting) c.in_ok-side.ensures.fresh;
  stands = subst (λ (h : Receiving). Stands c.in_ok-side.side h) reached_none c.in_ok-side.ensures.stands;
  text = c.new-text.ensures.items ∙ sym text_of_none;
}

pub loop-id-preserved : goal.loop-id-preserved
unfolding Stands
loop-id-preserved c =
    let i = c.loop-id.id-index in
    let arrivals : List Arrival = c.args.arrivals.now in
    let a : Arrival = c.loop-id-item.result in
    let xs : List Arrival = take i arrivals in
    let taken : List Arrival = all_taken [] xs in
    let more : take (i + 1) arrivals ≡ xs ++ a ∷ [] =
    take_more arrivals i a c.loop-id-test.true ∙ ap (λ (x : Arrival). xs ++ x ∷ []) (sym c.loop-id-item.is) in
    let middle : Receiving = after_acks (put_into (reached taken) a.0 a.1) 8 in
    let put : Stands c.put_next.new.side middle =
    subst (λ (p : List ℕ). Stands c.put_next.new.side (after_acks (put_into (reached taken) a.0 p) 8)) c.as_slice.ensures
    (c.in_ok-put_next.ensures.stands (reached taken) c.loop-id.invariant.stands) in
    let told : text_of (xs ++ a ∷ []) ≡ text_read (all_read middle) = text_of-push xs a ∙ sym (text_reached (taken_after taken a)) ∙ sym (ap text_read (reached_next taken a)) in
    record {
      waiting = c.in_ok-read_in_order.ensures.waiting ∙ c.in_ok-put_next.ensures.none;
      stands =
          subst (λ (t : List Arrival). Stands c.read_in_order.new.side (reached (all_taken [] t))) (sym more)
          (subst (λ (t : List Arrival). Stands c.read_in_order.new.side (reached t)) (sym (all_taken-push xs [] a))
          (subst (λ (h : Receiving). Stands c.read_in_order.new.side h) (reached_next taken a) (c.in_ok-read_in_order.ensures.stands middle put)));
      text =
          c.in_ok-read_in_order.ensures.text middle put (c.loop-id.invariant.text ∙ text_of_is xs ∙ text_stays c.loop-id.side.kept taken a c.loop-id.invariant.stands)
          ∙ sym (ap text_of more ∙ told);
    }
