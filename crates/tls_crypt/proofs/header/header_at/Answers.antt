use Rattle.std.proofs.Common.{rules, ◌≡◌, ℕ, ◌<◌, length, get_or}
use Rattle.tls_crypt.proofs.HeaderParts.{header_read}
use Rattle.tls_crypt.proofs.header.header_at.Goals as goal

pub returns : goal.returns
returns c =
    let id_size : length c.array_at-2.result ≡ 4 = search rules in
    let id_small : (i : ℕ) → get_or c.array_at-2.result i 0 < 256 = search rules in
    let time_size : length c.array_at-3.result ≡ 4 = search rules in
    let time_small : (i : ℕ) → get_or c.array_at-3.result i 0 < 256 = search rules in
    header_read c.args.datagram.now c.array_at.result c.array_at-2.result c.array_at-3.result c.from_be_bytes.result c.from_be_bytes-2.result
    c.requires c.array_at.ensures c.array_at-2.ensures c.array_at-3.ensures id_size id_small time_size time_small c.from_be_bytes.ensures c.from_be_bytes-2.ensures
