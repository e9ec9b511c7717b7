use Rattle.route_table.proofs.hosts.is_owned.Given as goal

abbrev pub ghosts-is_owned_uncounted : goal.ghosts-is_owned_uncounted
ghosts-is_owned_uncounted a = record { name = a.blank.name; parts = a.blank.parts }
