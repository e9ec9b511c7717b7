use Rattle.std.proofs.lemmas.List.{take_rest}
use Rattle.tls_crypt.proofs.datagram.Datagram.opened.Goals as goal

pub returns-clause-plain : goal.returns-clause-plain
returns-clause-plain c = take_rest c.args.self.now.bytes.now 49
