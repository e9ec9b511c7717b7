use Rattle.route_file.proofs.state.State.print_verdict_on.Given as goal

abbrev pub ghosts-verdict_of : goal.ghosts-verdict_of
ghosts-verdict_of a = record { name = a.blank.name; parts = a.blank.parts }
