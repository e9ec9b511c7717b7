-- Link, envelope, outbox and text in the middle of a run.
use Rattle.std.specs.Prelude.{◌≡◌, ℕ, List, []}
use Rattle.vpn_base.specs.declared.address.Addr.{Addr}
use Rattle.vpn_links.specs.Actions.{Contents, Holds}
use Rattle.tls_crypt.specs.Packets.{Wrapping}
use Rattle.control_link.specs.declared.envelope.Envelope.{Envelope}
use Rattle.control_link.specs.Envelope.{EnvelopeStands}
use Rattle.control_link.specs.Links.{KeptLink, LinkStands}
use Rattle.control_link.specs.Calls.{datagrams_to}
use Rattle.control_link.specs.Runs.{Course}

-- link, envelope, outbox and text are as the course says
pub record IsAt {W : Type 0} (wrapped : W → Wrapping) (k : KeptLink) (env : Envelope W) (out : Contents) (bytes : List ℕ) (to : Addr) (c : Course) : Type 0 where
  pub link : LinkStands k c.link
  pub envelope : EnvelopeStands wrapped env c.envelope
  pub outbox : Holds out [] (datagrams_to to c.datagrams)
  pub text : bytes ≡ c.text
