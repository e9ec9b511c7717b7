use Rattle.client_table.specs.Changes.{with_address}
use Rattle.client_table.proofs.Lists.{set_is}
use Rattle.client_table.proofs.changes.change_address.Goals as goal

pub returns : goal.returns
returns c = set_is (with_address c.args.to) c.args.keys.now.items c.args.i c.index_mut.result.now c.index_mut.ensures.value
