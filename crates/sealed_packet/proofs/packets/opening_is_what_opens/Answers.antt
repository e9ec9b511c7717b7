use Rattle.sealed_packet.proofs.Searched.{not_opening, opening_none, opening_opens, opens_opening}
use Rattle.sealed_packet.proofs.packets.opening_is_what_opens.Goals as goal

pub returns-clause-some : goal.returns-clause-some
returns-clause-some g c = λ implicit kid datagram id inner small. (
  opening_opens (g.C.Aead.sealed c.args.cipher.now) implicit kid id datagram inner small,
  λ o. opens_opening (g.C.Aead.sealed c.args.cipher.now) implicit kid id datagram inner
      (g.met.C.Aead.lengths c.args.cipher.now) (g.met.C.Aead.one_plain c.args.cipher.now) o.1 o.0,
)

pub returns-clause-none : goal.returns-clause-none
returns-clause-none g c = λ implicit kid datagram small. (
  opening_none (g.C.Aead.sealed c.args.cipher.now) implicit kid datagram (g.met.C.Aead.lengths c.args.cipher.now) (g.met.C.Aead.one_plain c.args.cipher.now),
  not_opening (g.C.Aead.sealed c.args.cipher.now) implicit kid datagram small,
)
