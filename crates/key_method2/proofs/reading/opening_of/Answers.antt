use Rattle.std.proofs.Common.{ap, arith}
use Rattle.key_method2.specs.Message.{opening}
use Rattle.key_method2.specs.Reading.{opened}
use Rattle.key_method2.proofs.Opening.{differs_at, differs_nowhere}
use Rattle.key_method2.proofs.reading.opening_of.Goals as goal

pub returns-then-bytes-place : goal.returns-then-bytes-place
returns-then-bytes-place c = record {
  gives = ap opened (differs_at opening c.args.bytes.now c.loop-place.place (omega arith) (omega arith) c.loop-place.invariant c.if-bytes-place.true);
  short = omega arith;
}

pub returns : goal.returns
returns c = record {
  gives = ap opened (differs_nowhere opening c.args.bytes.now (λ k in_opening in_bytes. c.loop-place.invariant k (omega arith)));
  short = tt;
}
