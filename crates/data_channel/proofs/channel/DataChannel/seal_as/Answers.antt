use Rattle.std.proofs.Common.{◌+◌, OnErr, OnOk, sym, subst}
use Rattle.vpn_base.specs.declared.names.Role.{Role}
use Rattle.peer_table.specs.DataPackets.{sealed_under}
use Rattle.data_channel.specs.Channels.{channel_of, next_packet_of}
use Rattle.data_channel.specs.Standing.{ChannelStands}
use Rattle.data_channel.proofs.channel.DataChannel.seal_as.Goals as goal

pub returns-clause-written : goal.returns-clause-written
unfolding next_packet_of sealed_under
returns-clause-written g c = λ keys kid received sealed stands. c.seal_of.ensures.written (channel_of c.args.self.now.role keys kid received sealed) stands

pub returns-clause-sealed : goal.returns-clause-sealed
returns-clause-sealed g c = λ keys kid received sealed stands.
    subst (λ (role : Role). OnOk c.seal_of.result (ChannelStands g.C.Aead.sealed c.seal_of.new.self (channel_of role keys kid received (sealed + 1))))
    (sym c.seal_of.ensures.role) (c.seal_of.ensures.sealed (channel_of c.args.self.now.role keys kid received sealed) stands)

pub returns-clause-kept : goal.returns-clause-kept
returns-clause-kept g c = λ keys kid received sealed stands.
    subst (λ (role : Role). OnErr c.seal_of.result (ChannelStands g.C.Aead.sealed c.seal_of.new.self (channel_of role keys kid received sealed)))
    (sym c.seal_of.ensures.role) (c.seal_of.ensures.kept (channel_of c.args.self.now.role keys kid received sealed) stands)

pub returns-clause-spent : goal.returns-clause-spent
returns-clause-spent g c = λ keys kid received sealed stands. c.seal_of.ensures.spent (channel_of c.args.self.now.role keys kid received sealed) stands
