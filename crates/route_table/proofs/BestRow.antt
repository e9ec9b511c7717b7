-- The best row of a list with one more row at its end.
use Rattle.std.proofs.Common.{◌≡◌, ◌&&◌, Bool, true, false, List, [], ◌∷◌, ◌++◌, refl, arith, ap, ◌∙◌}
use Rattle.std.specs.Prelude.{Option, Some, None, nat_lt, cond}
use Rattle.vpn_base.specs.declared.address.Ip4.{Ip4}
use Rattle.vpn_base.specs.Network.{contains}
use Rattle.route_table.specs.Owner.{Row, better, best_row}
use Rattle.route_table.specs.internal.Walk.{longer, best_after}

-- nothing is best so far
after_none : (x r : Row) (in_x : Bool) → cond (in_x && nat_lt r.0.len x.0.len) (Some x) (Some r) ≡ longer (cond in_x (Some x) None) r
after_none x r true = refl
after_none x r false = refl

-- b is best so far: whether x, which stands before it, beats b and r, which comes after it
after_some : (x b r : Row) (in_x r_shorter x_longer : Bool) → nat_lt r.0.len b.0.len ≡ r_shorter → nat_lt b.0.len x.0.len ≡ x_longer →
    cond r_shorter (cond (in_x && x_longer) (Some x) (Some b)) (cond (in_x && nat_lt r.0.len x.0.len) (Some x) (Some r))
    ≡ longer (cond (in_x && x_longer) (Some x) (Some b)) r
after_some x b r true true true p q = grind arith
after_some x b r true true false p q = grind arith
after_some x b r true false true p q = grind arith
after_some x b r true false false p q = grind arith
after_some x b r false true x_longer p q = grind arith
after_some x b r false false x_longer p q = grind arith

better-cond : (a : Ip4) (x b r : Row) (t : Bool) → better a x (cond t (Some b) (Some r)) ≡ cond t (better a x (Some b)) (better a x (Some r))
better-cond a x b r true = refl
better-cond a x b r false = refl

after_row : (a : Ip4) (x r : Row) (best : Option Row) (in_r : Bool) →
    better a x (cond in_r (longer best r) best) ≡ cond in_r (longer (better a x best) r) (better a x best)
after_row a x r best false = refl
after_row a x r None true = after_none x r (contains x.0 a)
after_row a x r (Some b) true =
    better-cond a x b r (nat_lt r.0.len b.0.len)
    ∙ after_some x b r (contains x.0 a) (nat_lt r.0.len b.0.len) (nat_lt b.0.len x.0.len) refl refl

pub better-best_after : (a : Ip4) (x r : Row) (best : Option Row) → better a x (best_after a best r) ≡ best_after a (better a x best) r
better-best_after a x r best = after_row a x r best (contains r.0 a)

pub best_row-push : (a : Ip4) (rows : List Row) (r : Row) → best_row (rows ++ r ∷ []) a ≡ best_after a (best_row rows a) r
best_row-push a [] r = refl
best_row-push a (x ∷ rows) r = ap (better a x) (best_row-push a rows r) ∙ better-best_after a x r (best_row rows a)
