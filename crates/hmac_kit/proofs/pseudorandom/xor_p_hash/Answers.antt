use Rattle.std.proofs.Common.{◌≡◌, ◌∙◌, sym, arith, map, length, ◌≤◌}
use Rattle.std.specs.List.{concat}
use Rattle.hmac_kit.specs.Hmac.{hmac}
use Rattle.hmac_kit.specs.Prf.{chained, blocks}
use Rattle.hmac_kit.proofs.Xor.{xor_bytes-nil}
use Rattle.hmac_kit.proofs.PHash.{length-p_hash, xor_enough, xor_next, length-blocks-next, chained-next, div_ceil-enough}
use Rattle.hmac_kit.proofs.pseudorandom.xor_p_hash.Goals as goal

pub loop-i-init : goal.loop-i-init
unfolding chained blocks
loop-i-init g c = record { next = c.mac_of-chained.ensures; xored = sym (xor_bytes-nil c.args.out.now); long = omega arith }

pub loop-i-preserved : goal.loop-i-preserved
loop-i-preserved g c =
    let mac = hmac g.H.HashFunction.hash c.args.secret.now in
    let seed = concat (map (λ piece. piece.now) c.args.seed.now) in
    let long : length c.mac_of-block.result ≡ g.row.N = omega arith in
    record {
      next = chained-next mac seed c.loop-i.chained c.mac_of-chained-in-loop-i.result c.loop-i.i c.loop-i.invariant.next c.mac_of-chained-in-loop-i.ensures;
      xored = xor_next mac seed c.args.out.now c.loop-i.out c.loop-i.chained c.xor_onto.new.out c.loop-i.i _ c.loop-i.invariant.xored c.loop-i.invariant.long c.loop-i.invariant.next (rw (← c.mac_of-block.ensures) c.xor_onto.ensures);
      long = length-blocks-next mac seed c.loop-i.chained c.loop-i.i g.row.N c.loop-i.invariant.long c.loop-i.invariant.next (rw (← c.mac_of-block.ensures) long);
    }

pub returns : goal.returns
returns g c =
    let mac = hmac g.H.HashFunction.hash c.args.secret.now in
    let seed = concat (map (λ piece. piece.now) c.args.seed.now) in
    let count = div_ceil-enough (length c.args.out.now) g.row.N c.div_ceil-count.result c.requires.some c.div_ceil-count.ensures in
    let all : c.loop-i.i ≡ c.div_ceil-count.result = omega arith in
    let few : c.loop-i.i ≤ length c.args.out.now = omega arith in
    let enough : length c.args.out.now ≤ length (blocks mac seed c.loop-i.i) = rw (c.loop-i.invariant.long, all) count.1 in
    record {
      long = sym (length-p_hash mac seed (length c.args.out.now) c.loop-i.i few enough);
      xored = c.loop-i.invariant.xored ∙ xor_enough mac seed c.args.out.now c.loop-i.i few enough;
    }
