use Rattle.server_table.proofs.laws.at_most_three_sessions_are_open.Goals as goal

pub returns : goal.returns
returns c = λ t n x s there. c.at_most_three_are_open.ensures x.session.sessions (s.orderly n x there)
