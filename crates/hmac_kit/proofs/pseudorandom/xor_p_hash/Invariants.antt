use Rattle.std.proofs.Common.{◌≡◌, ◌+◌, ◌*◌, length, map}
use Rattle.std.specs.List.{concat}
use Rattle.hmac_kit.specs.Hmac.{hmac}
use Rattle.hmac_kit.specs.Prf.{chained, blocks, xor_bytes}
use Rattle.hmac_kit.proofs.pseudorandom.xor_p_hash.Given as goal

abbrev pub invariant-loop-i : goal.invariant-loop-i
invariant-loop-i g l = record {
  next : l.chained ≡ chained (hmac g.H.HashFunction.hash l.secret) (concat (map (λ piece. piece.now) l.seed)) (l.i + 1);
  xored : l.out ≡ xor_bytes l.fn.out (blocks (hmac g.H.HashFunction.hash l.secret) (concat (map (λ piece. piece.now) l.seed)) l.i);
  long : length (blocks (hmac g.H.HashFunction.hash l.secret) (concat (map (λ piece. piece.now) l.seed)) l.i) ≡ l.i * g.row.N;
}
