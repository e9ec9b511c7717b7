use Rattle.packet_tests.proofs.verdicts.verdicts_in_their_order.Given as goal

abbrev pub ghosts-judge : goal.ghosts-judge
ghosts-judge g a = record { name = a.blank.name; parts = a.blank.parts }
