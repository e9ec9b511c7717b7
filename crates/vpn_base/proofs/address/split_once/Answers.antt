use Rattle.std.proofs.Common.{◌==◌, ◌∙◌, sym}
use Rattle.vpn_base.proofs.Splitting.{split_none, split_some}
use Rattle.vpn_base.proofs.address.split_once.Goals as goal

pub returns-in-None : goal.returns-in-None
returns-in-None c = split_none (λ b. b == c.args.byte) c.args.text.now (sym c.first_place.ensures ∙ c.in-None.is)

pub returns-in-Some : goal.returns-in-Some
returns-in-Some c = split_some (λ b. b == c.args.byte) c.args.text.now c.in-Some.i (sym c.first_place.ensures ∙ c.in-Some.is)
