use Rattle.std.proofs.Common.{arith, ◌≡◌, ℕ, List, length, drop, Some, ap, sym, ◌∙◌, rules}
use Rattle.std.proofs.lemmas.List.{take_at, take_rest}
use Rattle.std.proofs.lemmas.Bool.Decides.{nat_tests}
use Rattle.gcm_seal.specs.AnyGcm.{key_of}
use Rattle.gcm_seal.specs.Gcm.{gcm}
use Rattle.sealed_packet.specs.Opening.{opening}
use Rattle.route_file.specs.Keys.{PacketKey}
use Rattle.route_file.specs.Seals.{opened_for}
use Rattle.route_file.proofs.keys.Key.open.Goals as goal

-- the peer id is the client's
for_client : (k : PacketKey) (cid kid peer : ℕ) (datagram : List ℕ) → peer ≡ cid → opened_for k cid kid peer datagram ≡ opening (gcm k.key) k.iv kid datagram
for_client k cid kid peer datagram same = grind (arith, nat_tests)

pub returns : goal.returns
returns c =
    let key = key_of c.self.inside.cipher in
    let iv = c.self.inside.iv in
    let datagram = c.args.datagram.now in
    let same : c.as_mut_slice.result.now ≡ datagram = c.as_mut_slice.ensures.value ∙ c.in_ok-bytes.ensures.items in
    let size : length c.open_packet.new.datagram ≡ c.in_ok-bytes.bytes.len = search rules in
    let whole : c.as_slice.result.now ≡ c.open_packet.new.datagram =
    c.as_slice.ensures.value ∙ take_at c.open_packet.new.datagram (drop (length c.open_packet.new.datagram) c.in_ok-bytes.bytes.items) c.in_ok-bytes.bytes.len size in
    let inner : drop 24 c.open_packet.new.datagram ≡ c.in_ok-inner-in-Ok.inner =
    sym (c.in_ok-inner-in-Ok.ensures ∙ take_rest c.as_slice.result.now 24 ∙ ap (drop 24) whole) in
    let opens : opening (gcm key) iv c.args.kid datagram ≡ Some (c.in-Ok.id, c.in_ok-inner-in-Ok.inner) =
    ap (opening (gcm key) iv c.args.kid) (sym same) ∙ c.in-Ok.ensures.exact ∙ ap (λ (p : List ℕ). Some (c.in-Ok.id, p)) inner in
    sym (for_client c.args.self.now c.args.cid.0 c.args.kid c.args.peer datagram (omega arith)
    ∙ ap (λ (k : PacketKey). opening (gcm k.key) k.iv c.args.kid datagram) (sym c.self.view_is) ∙ opens)
