use Rattle.std.proofs.Common.{arith}
use Rattle.vpn_base.proofs.Digits.{too_much}
use Rattle.vpn_base.proofs.number.read_number.Goals as goal

pub returns-then-value-from-clause-same : goal.returns-then-value-from-clause-same
returns-then-value-from-clause-same c =
    too_much c.args.most c.loop-digit.value c.loop-digit.digit-index c.args.text.now c.loop-digit-test.true c.loop-digit.invariant.spells (omega arith)
