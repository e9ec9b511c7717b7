use Rattle.std.proofs.Common.{arith}
use Rattle.key_method2.specs.Views.{read_seen}
use Rattle.key_method2.proofs.Judged.{is_found, all_texts_found, early_found, is_more, is_bad}
use Rattle.key_method2.proofs.reading.read_km2_view.Goals as goal

pub returns-clause-found : goal.returns-clause-found
returns-clause-found c = is_found c.args.from c.args.bytes.now (read_seen c.look.result) (λ i. omega (arith, c.type_inv.bytes i)) c.look.ensures

pub returns-clause-all_texts : goal.returns-clause-all_texts
returns-clause-all_texts c = all_texts_found c.args.from c.args.bytes.now (read_seen c.look.result) c.look.ensures

pub returns-clause-early : goal.returns-clause-early
returns-clause-early c = early_found c.args.from c.args.bytes.now (read_seen c.look.result) c.look.ensures

pub returns-clause-more : goal.returns-clause-more
returns-clause-more c = is_more c.args.from c.args.bytes.now (read_seen c.look.result) (λ i. omega (arith, c.type_inv.bytes i)) c.look.ensures

pub returns-clause-bad : goal.returns-clause-bad
returns-clause-bad c = is_bad c.args.from c.args.bytes.now (read_seen c.look.result) (λ i. omega (arith, c.type_inv.bytes i)) c.look.ensures
