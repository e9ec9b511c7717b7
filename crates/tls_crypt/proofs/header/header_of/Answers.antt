use Rattle.std.proofs.Common.{rules, ◌≡◌, length}
use Rattle.tls_crypt.proofs.HeaderParts.{header_written}
use Rattle.tls_crypt.proofs.header.header_of.Goals as goal

pub returns : goal.returns
returns c =
    let size : length c.args.sid.0 ≡ 8 = search rules in
    let whole : length c.write_at-4.new.out ≡ 17 = search rules in
    header_written c.args.first c.args.sid.0 c.to_be_bytes.result c.to_be_bytes-2.result c.args.id c.args.time
    c.write_at.new.out c.write_at-2.new.out c.write_at-3.new.out c.write_at-4.new.out size whole
    c.to_be_bytes.ensures c.to_be_bytes-2.ensures c.write_at.ensures.written c.write_at-2.ensures.written c.write_at-3.ensures.written c.write_at-4.ensures.written
