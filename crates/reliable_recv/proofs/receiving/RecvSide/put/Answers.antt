use Rattle.std.proofs.Common.{◌≡◌, ◌<◌, ◌≤◌, [], ◌∷◌, ◌++◌, length, arith, sym, ap, subst, ◌∙◌}
use Rattle.reliable_recv.specs.declared.receiving.Got.TheVariants.{New, Repeat, Ahead}
use Rattle.reliable_recv.specs.Receiving.{Receiving, got, put_into}
use Rattle.reliable_recv.specs.Sides.{IsKeptOf, Side, Stands}
use Rattle.reliable_recv.specs.internal.Sound.{AreNear, AreOnce}
use Rattle.reliable_recv.proofs.Standing.{got_is, kept_after, stands_put, waiting_put}
use Rattle.reliable_recv.proofs.Soundness.{few_held, few_with, once_with, near_with}
use Rattle.reliable_recv.proofs.receiving.RecvSide.put.Goals as goal

-- what came of it, by the side before the call
ahead_is : (c : goal.In-Ahead) → Ahead ≡ got c.args.self.now.kept c.args.id
ahead_is c = subst (λ (w : Side). Ahead ≡ got w.kept c.args.id) c.self.view_is (rw c.deref.ensures.value at (c.in-Ahead.ensures c.self.inside.waiting.items))

pub returns-in-Ahead-clause-same : goal.returns-in-Ahead-clause-same
returns-in-Ahead-clause-same c = ahead_is c

pub returns-in-Ahead-clause-exact : goal.returns-in-Ahead-clause-exact
unfolding Stands
returns-in-Ahead-clause-exact c = λ h s. ahead_is c ∙ got_is c.args.self.now.kept h c.args.id s

pub returns-in-Ahead-clause-ok : goal.returns-in-Ahead-clause-ok
unfolding Stands
returns-in-Ahead-clause-ok c = λ h s. stands_put Ahead c.args.self.now.kept h c.args.id c.args.payload.now (ahead_is c) s

pub returns-in-Ahead-clause-waiting : goal.returns-in-Ahead-clause-waiting
returns-in-Ahead-clause-waiting c = waiting_put Ahead c.args.self.now.kept c.args.id c.args.payload.now (ahead_is c)

repeat_is : (c : goal.After-push_back_reserved) → Repeat ≡ got c.args.self.now.kept c.args.id
repeat_is c = subst (λ (w : Side). Repeat ≡ got w.kept c.args.id) c.self.view_is (rw c.deref.ensures.value at (c.in-Repeat.ensures c.self.inside.waiting.items))

pub returns-in-Repeat-clause-same : goal.returns-in-Repeat-clause-same
returns-in-Repeat-clause-same c = repeat_is c

pub returns-in-Repeat-clause-exact : goal.returns-in-Repeat-clause-exact
unfolding Stands
returns-in-Repeat-clause-exact c = λ h s. repeat_is c ∙ got_is c.args.self.now.kept h c.args.id s

pub returns-in-Repeat-clause-ok : goal.returns-in-Repeat-clause-ok
unfolding Stands
returns-in-Repeat-clause-ok c = λ h s.
    rw c.push_back_reserved.ensures.items
    (subst (λ (w : Side). IsKeptOf (kept_after Repeat w.kept c.args.id c.args.payload.now) (put_into h c.args.id c.args.payload.now)) (sym c.self.view_is)
    (stands_put Repeat c.args.self.now.kept h c.args.id c.args.payload.now (repeat_is c) s))

pub returns-in-Repeat-clause-waiting : goal.returns-in-Repeat-clause-waiting
returns-in-Repeat-clause-waiting c =
    c.push_back_reserved.ensures.items ∙ ap (λ (w : Side). (kept_after Repeat w.kept c.args.id c.args.payload.now).waiting) c.self.view_is
    ∙ waiting_put Repeat c.args.self.now.kept c.args.id c.args.payload.now (repeat_is c)

new_is : (c : goal.After-push_back_reserved-in-New) → New ≡ got c.args.self.now.kept c.args.id
new_is c = subst (λ (w : Side). New ≡ got w.kept c.args.id) c.self.view_is (rw c.deref.ensures.value at (c.in-New.ensures c.self.inside.waiting.items))

pub returns-in_ok-bytes-in-New-clause-same : goal.returns-in_ok-bytes-in-New-clause-same
returns-in_ok-bytes-in-New-clause-same c = new_is c

pub returns-in_ok-bytes-in-New-clause-exact : goal.returns-in_ok-bytes-in-New-clause-exact
unfolding Stands
returns-in_ok-bytes-in-New-clause-exact c = λ h s. new_is c ∙ got_is c.args.self.now.kept h c.args.id s

pub returns-in_ok-bytes-in-New-clause-ok : goal.returns-in_ok-bytes-in-New-clause-ok
unfolding Stands
returns-in_ok-bytes-in-New-clause-ok c = λ h s.
    rw (c.push_back_reserved-in-New.ensures.items, c.push_reserved.ensures.items, c.in_ok-bytes-in-New.ensures.ok)
    (subst (λ (w : Side). IsKeptOf (kept_after New w.kept c.args.id c.args.payload.now) (put_into h c.args.id c.args.payload.now)) (sym c.self.view_is)
    (stands_put New c.args.self.now.kept h c.args.id c.args.payload.now (new_is c) s))

pub returns-in_ok-bytes-in-New-clause-waiting : goal.returns-in_ok-bytes-in-New-clause-waiting
returns-in_ok-bytes-in-New-clause-waiting c =
    c.push_back_reserved-in-New.ensures.items ∙ ap (λ (w : Side). (kept_after New w.kept c.args.id c.args.payload.now).waiting) c.self.view_is
    ∙ waiting_put New c.args.self.now.kept c.args.id c.args.payload.now (new_is c)

-- ---- no more than 12 payloads are held

pub returns-in-Ahead-clause-few : goal.returns-in-Ahead-clause-few
returns-in-Ahead-clause-few c =
    subst (λ (w : Side). length w.kept.taken ≤ 12) c.self.view_is (few_held c.self.inside.read c.self.inside.held.items c.self.invariant.once c.self.invariant.near)

pub returns-in-Repeat-clause-few : goal.returns-in-Repeat-clause-few
returns-in-Repeat-clause-few c = few_held c.self.inside.read c.self.inside.held.items c.self.invariant.once c.self.invariant.near

pub returns-in_err-bytes-in-New-clause-few : goal.returns-in_err-bytes-in-New-clause-few
returns-in_err-bytes-in-New-clause-few c = few_held c.self.inside.read c.self.inside.held.items c.self.invariant.once c.self.invariant.near

pub push_reserved-requires : goal.push_reserved-requires
push_reserved-requires c =
    let r : Receiving = record { taken = c.self.inside.held.items; read = c.self.inside.read; waiting = c.self.inside.waiting.items } in
    let few = few_with r c.args.id (rw c.deref.ensures.value at (c.in-New.ensures r.waiting)) c.self.invariant.once c.self.invariant.near in
    omega (arith, few, c.self.invariant.fit, c.self.inside.held.ok.0)

-- a new payload is held once, and its id is near
once_held : (c : goal.After-push_back_reserved-in-New) → AreOnce (c.self.inside.held.items ++ (c.args.id, c.args.payload.now) ∷ [])
once_held c =
    let r : Receiving = record { taken = c.self.inside.held.items; read = c.self.inside.read; waiting = c.self.inside.waiting.items } in
    once_with r c.args.id c.args.payload.now (rw c.deref.ensures.value at (c.in-New.ensures r.waiting)) c.self.invariant.once

near_held : (c : goal.After-push_back_reserved-in-New) → AreNear c.self.inside.read (c.self.inside.held.items ++ (c.args.id, c.args.payload.now) ∷ [])
near_held c =
    let r : Receiving = record { taken = c.self.inside.held.items; read = c.self.inside.read; waiting = c.self.inside.waiting.items } in
    near_with r c.args.id c.args.payload.now (rw c.deref.ensures.value at (c.in-New.ensures r.waiting)) c.self.invariant.near

pub invariant_of-self-in-New : goal.invariant_of-self-in-New
invariant_of-self-in-New c =
    let short : length c.self.inside.waiting.items < 8 = subst (λ (w : Side). length w.kept.waiting < 8) (sym c.self.view_is) c.requires in
    record {
      bound = c.self.invariant.bound;
      once = rw (c.push_reserved.ensures.items, c.in_ok-bytes-in-New.ensures.ok) (once_held c);
      near = rw (c.push_reserved.ensures.items, c.in_ok-bytes-in-New.ensures.ok) (near_held c);
      waits = omega (arith, short, c.push_back_reserved-in-New.ensures.len, c.self.inside.waiting.ok.0);
      room = omega (arith, c.self.invariant.room, c.push_back_reserved-in-New.ensures.capacity);
      fit = omega (arith, c.self.invariant.fit, c.push_reserved.ensures.capacity);
      empty = c.in_ok-bytes-in-New.ensures.empty;
    }

pub returns-in_ok-bytes-in-New-clause-few : goal.returns-in_ok-bytes-in-New-clause-few
returns-in_ok-bytes-in-New-clause-few c =
    rw (c.push_reserved.ensures.items, c.in_ok-bytes-in-New.ensures.ok)
    (few_held c.self.inside.read (c.self.inside.held.items ++ (c.args.id, c.args.payload.now) ∷ []) (once_held c) (near_held c))
