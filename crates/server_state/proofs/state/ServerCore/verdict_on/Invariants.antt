use Rattle.server_state.proofs.state.ServerCore.verdict_on.Given as goal

abbrev pub ghosts-verdict_uncounted : goal.ghosts-verdict_uncounted
ghosts-verdict_uncounted g a = record { name = a.blank.name; parts = a.blank.parts }
