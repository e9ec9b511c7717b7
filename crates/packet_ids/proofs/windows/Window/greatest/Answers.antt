use Rattle.std.proofs.Common.{ap, ◌∙◌}
use Rattle.packet_ids.specs.Window.{Kept}
use Rattle.packet_ids.proofs.Standing.{greatest_is}
use Rattle.packet_ids.proofs.windows.Window.greatest.Goals as goal

pub returns : goal.returns
returns c = λ h s. ap (λ (w : Kept). w.greatest) c.self.view_is ∙ greatest_is c.args.self.now h s
