use Rattle.std.proofs.Common.{false, arith}
use Rattle.std.proofs.lemmas.Bool.{false≢true}
use Rattle.vpn_node.proofs.run.give_one.Goals as goal

pub returns-in-Ok-clause-gave : goal.returns-in-Ok-clause-gave
returns-in-Ok-clause-gave g c = record {
  is_lost = false;
  wire = λ lost. absurd (false≢true lost);
  told = λ rounds before. c.in-Ok.ensures.given rounds before;
  counted = omega (arith, c.requires);
}
