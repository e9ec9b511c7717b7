use Rattle.std.proofs.Common.{sym, subst}
use Rattle.vpn_base.specs.declared.names.Role.{Role}
use Rattle.peer_table.specs.DataPackets.{opened_under}
use Rattle.peer_table.specs.Peer.{other}
use Rattle.data_channel.specs.Channels.{channel_of, opened_of, received_after}
use Rattle.data_channel.specs.Standing.{ChannelStands}
use Rattle.data_channel.proofs.channel.DataChannel.unseal_as.Goals as goal

pub returns-clause-left : goal.returns-clause-left
unfolding opened_of opened_under
returns-clause-left g c = λ keys kid received sealed stands.
    subst (λ (role : Role). ChannelStands g.C.Aead.sealed c.unseal_of.new.self
    (channel_of role keys kid (received_after received c.args.now (opened_under (other c.args.role) keys kid c.args.datagram.now)) sealed))
    (sym c.unseal_of.ensures.role) (c.unseal_of.ensures.left (channel_of c.args.self.now.role keys kid received sealed) stands)

pub returns-clause-answer : goal.returns-clause-answer
unfolding opened_of opened_under
returns-clause-answer g c = λ keys kid received sealed stands. c.unseal_of.ensures.answer (channel_of c.args.self.now.role keys kid received sealed) stands

pub returns-clause-shown : goal.returns-clause-shown
unfolding opened_of opened_under
returns-clause-shown g c = λ keys kid received sealed stands. c.unseal_of.ensures.shown (channel_of c.args.self.now.role keys kid received sealed) stands
