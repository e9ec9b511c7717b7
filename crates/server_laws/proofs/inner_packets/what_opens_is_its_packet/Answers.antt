use Rattle.server_laws.proofs.inner_packets.what_opens_is_its_packet.Goals as goal
use Rattle.std.specs.Prelude.{ℕ, List, Some, ◌≡◌, ◌↔◌}
use Rattle.std.proofs.Common.{sym, subst}
use Rattle.vpn_base.specs.declared.names.Role.TheVariants.{Client}
use Rattle.byte_texts.specs.Texts.{IsBytes}
use Rattle.gcm_seal.specs.AnyGcm.{key_of}
use Rattle.gcm_seal.specs.Gcm.{gcm}
use Rattle.sealed_packet.specs.Opening.{opening}
use Rattle.sealed_packet.specs.SealedPacket.{Opens}
use Rattle.peer_table.specs.DataPackets.{half_of, implicit_bytes, opened_under}

pub returns : goal.returns
unfolding opened_under
returns c = λ keys kid datagram id inner same bytes.
    let implicit = implicit_bytes (half_of Client keys.block) in
    subst (λ (key : List ℕ). (opening (gcm key) implicit kid datagram ≡ Some (id, inner)) ↔ (Opens (gcm (key_of c.before.args.cipher.now)) implicit kid datagram id inner × IsBytes inner))
    (sym same) (c.opening_is_what_opens.ensures.some implicit kid datagram id inner bytes)
