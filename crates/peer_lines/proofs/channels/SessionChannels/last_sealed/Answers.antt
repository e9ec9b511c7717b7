use Rattle.std.proofs.Common.{◌==◌, length, slice_index_or, ap, sym, ◌∙◌}
use Rattle.data_channel.specs.Channels.{channel_of}
use Rattle.peer_lines.specs.Standing.{StandsFor}
use Rattle.peer_lines.proofs.Packets.{empty_of, none_told, sealed_told, some_of}
use Rattle.peer_lines.proofs.channels.SessionChannels.last_sealed.Goals as goal

pub returns-then-is_empty : goal.returns-then-is_empty
unfolding StandsFor
returns-then-is_empty c = λ s stands.
    none_told c.args.self.now.window c.args.self.now.packets.items s
    (empty_of c.args.self.now.packets.items (sym c.if-is_empty.true ∙ c.is_empty.ensures ∙ ap (λ packets. length packets == 0) c.as_slice-packets.ensures.value)) stands.packets

pub returns : goal.returns
unfolding StandsFor
returns c = λ s stands.
    sealed_told c.args.self.now.window c.args.self.now.packets.items s c.index-packets-0.result c.last_sealed.result
    (some_of c.args.self.now.packets.items (sym c.if-is_empty.false ∙ c.is_empty.ensures ∙ ap (λ packets. length packets == 0) c.as_slice-packets.ensures.value))
    (c.index-packets-0.is ∙ ap (λ packets. slice_index_or packets 0 c.index-packets-0.result) c.as_slice-packets.ensures.value) stands.packets
    (λ keys kid received sealed is. c.last_sealed.ensures (channel_of c.index-packets-0.result.role keys kid received sealed) is)
