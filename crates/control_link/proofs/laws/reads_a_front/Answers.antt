use Rattle.std.proofs.Common.{List, ℕ, subst}
use Rattle.reliable_recv.specs.Prefix.{IsPrefix}
use Rattle.reliable_recv.specs.Receiving.{text_of}
use Rattle.control_link.specs.Texts.{arrivals_of, pieces_of}
use Rattle.control_link.proofs.Fronts.{carry_arrivals, concat-cuts}
use Rattle.control_link.proofs.laws.reads_a_front.Goals as goal

pub returns : goal.returns
returns c = λ parts packets carry.
    subst (λ (whole : List ℕ). IsPrefix (text_of (arrivals_of packets)) whole) (concat-cuts parts)
    (c.reads_a_prefix.ensures (pieces_of parts) (arrivals_of packets) (carry_arrivals (pieces_of parts) packets carry))
