use Rattle.control_laws.proofs.laws.link_reads.Goals as goal

pub returns : goal.returns
returns c = let law = c.reads_what_is_given.ensures in record {
  begun = law.begun;
  whole = law.whole;
  given = law.given;
  taken = law.taken;
  again = law.again;
}
