use Rattle.std.proofs.Common.{◌∙◌, sym, arith, add-one}
use Rattle.hmac_kit.proofs.Xor.{xor_bytes-nil, xor_bytes-more, xor_up_to}
use Rattle.hmac_kit.proofs.pseudorandom.xor_onto.Goals as goal

pub loop-k-init : goal.loop-k-init
loop-k-init c = sym (xor_bytes-nil c.args.out.now)

pub loop-k-preserved : goal.loop-k-preserved
loop-k-preserved c = rw (c.loop-k.invariant, add-one) (xor_bytes-more c.args.out.now c.args.block.now c.loop-k.k (omega arith) (omega arith))

pub returns : goal.returns
returns c = c.loop-k.invariant ∙ xor_up_to c.args.out.now c.args.block.now c.loop-k.k (omega arith)
