use Rattle.std.proofs.Common.{arith}
use Rattle.std.proofs.lemmas.Result.{IfOk-weaker}
use Rattle.key_method2.proofs.Judged.{is_found, all_texts_found, early_found, is_more, is_bad}
use Rattle.key_method2.proofs.reading.read_km2.Goals as goal

pub returns-clause-found : goal.returns-clause-found
returns-clause-found c = IfOk-weaker c.read.result _ _ (λ read is. is_found c.args.from c.args.bytes.now read (λ i. omega (arith, c.type_inv.bytes i)) is) c.read.ensures

pub returns-clause-all_texts : goal.returns-clause-all_texts
returns-clause-all_texts c = IfOk-weaker c.read.result _ _ (λ read is. all_texts_found c.args.from c.args.bytes.now read is) c.read.ensures

pub returns-clause-early : goal.returns-clause-early
returns-clause-early c = IfOk-weaker c.read.result _ _ (λ read is. early_found c.args.from c.args.bytes.now read is) c.read.ensures

pub returns-clause-more : goal.returns-clause-more
returns-clause-more c = IfOk-weaker c.read.result _ _ (λ read is. is_more c.args.from c.args.bytes.now read (λ i. omega (arith, c.type_inv.bytes i)) is) c.read.ensures

pub returns-clause-bad : goal.returns-clause-bad
returns-clause-bad c = IfOk-weaker c.read.result _ _ (λ read is. is_bad c.args.from c.args.bytes.now read (λ i. omega (arith, c.type_inv.bytes i)) is) c.read.ensures
