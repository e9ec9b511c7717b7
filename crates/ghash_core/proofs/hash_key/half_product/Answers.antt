use Rattle.std.proofs.Common.{◌*◌, arith}
use Rattle.ghash_core.proofs.Linear.{product_no_bits}
use Rattle.ghash_core.proofs.Table.{place_more}
use Rattle.ghash_core.proofs.hash_key.half_product.Goals as goal

pub places-init : goal.places-init
places-init c = λ y multiples. product_no_bits c.args.half y (4 * c.args.first_place)

pub places-preserved : goal.places-preserved
places-preserved c = λ y multiples.
    place_more c.args.multiples.now y c.args.half c.args.first_place c.places.place c.places.sum multiples (omega arith) (c.places.invariant y multiples)
