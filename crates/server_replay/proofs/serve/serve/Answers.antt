use Rattle.server_table.specs.Table.{table_begun}
use Rattle.server_replay.proofs.serve.serve.Goals as goal

pub returns-clause-run : goal.returns-clause-run
returns-clause-run g c = c.serve_by.ensures.run (table_begun c.args.settings c.args.key.0) c.in-Ok-make.ensures.made

pub returns-in_default-clause-run : goal.returns-in_default-clause-run
returns-in_default-clause-run g c = c.never_served.ensures.run (table_begun c.args.settings c.args.key.0)

pub returns-in_default-make-clause-run : goal.returns-in_default-make-clause-run
returns-in_default-make-clause-run g c = c.never_served-in_default-make.ensures.run (table_begun c.args.settings c.args.key.0)
