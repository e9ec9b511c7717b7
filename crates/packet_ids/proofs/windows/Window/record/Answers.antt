use Rattle.std.proofs.Common.{◌≡◌, sym, subst}
use Rattle.vpn_base.specs.declared.names.Freshness.TheVariants.{Fresh}
use Rattle.packet_ids.specs.Window.{Kept, Stands, answer}
use Rattle.packet_ids.proofs.Standing.{fresh_is, stands_after}
use Rattle.packet_ids.proofs.windows.Window.record.Goals as goal

pub returns-clause-stands : goal.returns-clause-stands
returns-clause-stands c = λ h s.
    let before = subst (λ (w : Kept). Stands w h) (sym c.self.view_is) s in
    let fresh = fresh_is _ c.args.id c.args.now (subst (λ (w : Kept). answer w c.args.id c.args.now ≡ Fresh) (sym c.self.view_is) c.requires) in
    rw (c.put.ensures, c.max-self-inside.ensures) (stands_after _ h c.args.id c.args.now c.self.invariant.full fresh before)
