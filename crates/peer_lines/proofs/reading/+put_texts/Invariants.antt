use Rattle.peer_lines.proofs.reading.+put_texts.Given as goal

abbrev pub decreases-put_texts : goal.decreases-put_texts
decreases-put_texts l = l.most
