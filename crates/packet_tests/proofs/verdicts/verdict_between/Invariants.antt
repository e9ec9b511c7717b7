use Rattle.packet_tests.proofs.verdicts.verdict_between.Given as goal

abbrev pub ghosts-judge : goal.ghosts-judge
ghosts-judge a = record { name = a.blank.name; parts = a.blank.parts }
