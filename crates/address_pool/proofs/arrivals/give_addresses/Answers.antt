use Rattle.std.proofs.Common.{◌≡◌, [], ◌∷◌, ◌++◌, Ok, Err, sym, ◌∙◌}
use Rattle.std.proofs.lemmas.List.{append-nil}
use Rattle.address_pool.specs.LeastFree.{Takings}
use Rattle.address_pool.proofs.Coming.{next_is, refused_is}
use Rattle.address_pool.proofs.arrivals.give_addresses.Goals as goal

pub returns-in-Err-clause-empty : goal.returns-in-Err-clause-empty
returns-in-Err-clause-empty c = λ why.
    let t : Takings = record { first = c.args.first; last = c.args.last; taken = c.loop-own.addresses.items } in
    sym c.loop-own.invariant.rest
    ∙ next_is c.args.first c.args.last c.loop-own.addresses.items c.args.wanted.now c.loop-own.own-index (Err (record {})) c.loop-own-test.true
    (refused_is c.in-Err.e _ (c.in-Err.ensures.next t c.loop-own.invariant.holds) why)

pub loop-own-preserved : goal.loop-own-preserved
loop-own-preserved c =
    let taken = c.loop-own.addresses.items in
    let t : Takings = record { first = c.args.first; last = c.args.last; taken = taken } in
    let holds = c.in-Ok.ensures.taken t taken [] c.loop-own.invariant.holds (sym (append-nil taken)) in
    let items : c.push.new.self.items ≡ taken ++ c.in-Ok.a ∷ [] = c.in-Ok-push.ensures.items in
    record {
      holds = rw items holds;
      rest =
          rw items
          (sym (next_is c.args.first c.args.last taken c.args.wanted.now c.loop-own.own-index (Ok c.in-Ok.a) c.loop-own-test.true (c.in-Ok.ensures.next t c.loop-own.invariant.holds))
          ∙ c.loop-own.invariant.rest);
    }
