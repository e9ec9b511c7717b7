use Rattle.std.proofs.Common.{◌≡◌, ℕ, List, Some, refl}
use Rattle.byte_texts.specs.Texts.{IsBytes}
use Rattle.tls_crypt.specs.Wrapped.{half, keys_of, wrapped}
use Rattle.tls_crypt.specs.Packets.{InRange, Packet, wrapped_by}
use Rattle.tls_crypt.specs.Unwrapping.{unwrapping}
use Rattle.tls_crypt.specs.internal.Laws.{framed, one_packet}
use Rattle.tls_crypt.proofs.Searched.{unwraps_found}
use Rattle.tls_crypt.proofs.wrapper.unwraps_what_the_other_end_wrapped.Goals as goal

-- both ends use one half
by_half : (key : List ℕ) (number : ℕ) (p : Packet) → InRange p → IsBytes p.plain →
    unwrapping (wrapped (keys_of (half key number))) (wrapped_by (wrapped (keys_of (half key number))) p) ≡ Some p
by_half key number p fits small =
    let keys = keys_of (half key number) in
    unwraps_found (wrapped keys) (wrapped_by (wrapped keys) p) p (framed keys) (one_packet keys) (record { in_range = fits; bytes = small; is_wrapped = refl })

pub returns-clause-server : goal.returns-clause-server
returns-clause-server c = by_half c.args.key.now.0 1

pub returns-clause-client : goal.returns-clause-client
returns-clause-client c = by_half c.args.key.now.0 0
