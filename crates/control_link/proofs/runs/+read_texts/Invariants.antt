use Rattle.control_link.proofs.runs.+read_texts.Given as goal

abbrev pub decreases-read_texts : goal.decreases-read_texts
decreases-read_texts l = l.most
