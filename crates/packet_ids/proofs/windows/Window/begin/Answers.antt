use Rattle.std.proofs.Common.{◌≡◌, ap, sym, subst, arith}
use Rattle.packet_ids.specs.Window.{Kept, Stands}
use Rattle.packet_ids.proofs.Standing.{stands_anew, fresh_anew}
use Rattle.packet_ids.proofs.windows.Window.begin.Goals as goal

pub returns-clause-begins : goal.returns-clause-begins
returns-clause-begins c = λ h s.
    let stamp : c.self.inside.stamp ≡ c.args.self.now.stamp = ap (λ (w : Kept). w.stamp) c.self.view_is in
    stands_anew _ c.args.stamp h c.self.invariant (omega (arith, stamp, c.requires)) (subst (λ (w : Kept). Stands w h) (sym c.self.view_is) s)

pub returns-clause-fresh : goal.returns-clause-fresh
returns-clause-fresh c = λ id now not_zero.
    let stamp : c.self.inside.stamp ≡ c.args.self.now.stamp = ap (λ (w : Kept). w.stamp) c.self.view_is in
    let before : Kept = record { width = c.self.inside.width; seconds = c.self.inside.seconds; stamp = c.self.inside.stamp; greatest = c.self.inside.greatest; places = c.self.inside.places.items } in
    fresh_anew before c.args.stamp id now c.self.invariant (omega (arith, stamp, c.requires)) not_zero
