use Rattle.std.proofs.Common.{◌≡◌, ◌≤◌, ◌-◌, length, take, true, false, ap, ◌∙◌, arith}
use Rattle.std.proofs.lemmas.List.{length-take}
use Rattle.std.specs.Prelude.{◌||◌}
use Rattle.reliable_send.specs.declared.pieces.Wanted.TheVariants.{Unsent, Due}
use Rattle.reliable_send.specs.Sides.{is_among}
use Rattle.reliable_send.specs.internal.Walks.{alter, count_one, found}
use Rattle.reliable_send.proofs.Finding.{counted_none, counted_some, either_within}
use Rattle.reliable_send.proofs.pieces.count_where.Goals as goal

pub overflow_sub-id : goal.overflow_sub-id
overflow_sub-id c =
    (either_within (Unsent c.args.started) (Due c.args.now) c.args.first c.from-id.result c.window.result.now cc).0

pub count_at-requires : goal.count_at-requires
count_at-requires c =
    let within = either_within (Unsent c.args.started) (Due c.args.now) c.args.first c.from-id.result c.window.result.now cc in
    let size : length c.window.result.now ≤ length c.args.pieces.now.items = rw (c.window.ensures, c.deref.ensures.value) (omega (arith, length-take 6 c.args.pieces.now.items)) in
    omega (arith, within.0, within.1)

pub returns-then-goes_out-clause-counted : goal.returns-then-goes_out-clause-counted
returns-then-goes_out-clause-counted c =
    let items = c.args.pieces.now.items in
    let test : is_among c.args.id (found (Unsent c.args.started) c.args.first (take 6 items)) || is_among c.args.id (found (Due c.args.now) c.args.first (take 6 items)) ≡ true = cc in
    let place : c.from-id.result - c.args.first ≡ c.args.id - c.args.first = cc in
    c.count_at.ensures.counted ∙ ap (λ k. alter (count_one c.args.timeout c.args.now) k items) place ∙ counted_some c.args.started c.args.first c.args.timeout c.args.id c.args.now items test

pub returns-else-goes_out-clause-counted : goal.returns-else-goes_out-clause-counted
returns-else-goes_out-clause-counted c =
    let items = c.args.pieces.now.items in
    let test : is_among c.args.id (found (Unsent c.args.started) c.args.first (take 6 items)) || is_among c.args.id (found (Due c.args.now) c.args.first (take 6 items)) ≡ false = cc in
    counted_none c.args.started c.args.first c.args.timeout c.args.id c.args.now items test
