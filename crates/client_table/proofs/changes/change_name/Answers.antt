use Rattle.client_table.specs.Changes.{with_name}
use Rattle.client_table.proofs.Lists.{set_is}
use Rattle.client_table.proofs.changes.change_name.Goals as goal

pub returns : goal.returns
returns c = set_is (with_name c.args.name) c.args.keys.now.items c.args.i c.index_mut.result.now c.index_mut.ensures.value
