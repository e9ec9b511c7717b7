use Rattle.std.proofs.Common.{◌≡◌, []}
use Rattle.std.proofs.lemmas.List.{append-nil}
use Rattle.hmac_kit.specs.Hmac.{masked_key}
use Rattle.hmac_kit.proofs.hmac.keyed.Goals as goal

pub returns : goal.returns
unfolding masked_key
returns g c =
    let under_ipad : c.masked.result ≡ masked_key g.H.HashFunction.hash 0x36 c.args.key.now = rw (← c.key_block_of-block.ensures) c.masked.ensures in
    let under_opad : c.masked-2.result ≡ masked_key g.H.HashFunction.hash 0x5c c.args.key.now = rw (← c.key_block_of-block.ensures) c.masked-2.ensures in
    record {
      inner = rw (append-nil, ← under_ipad) (c.absorb.ensures [] c.begin-inner.ensures);
      outer = rw (← under_opad) (c.absorb-2.ensures [] c.begin-outer.ensures);
    }
