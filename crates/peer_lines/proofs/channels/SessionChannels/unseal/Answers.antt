use Rattle.peer_lines.specs.Calls.{after_opening, opening_answer}
use Rattle.peer_lines.specs.Standing.{StandsFor, has_data}
use Rattle.peer_lines.proofs.Packets.{first_set, first_stands}
use Rattle.peer_lines.proofs.channels.SessionChannels.unseal.Goals as goal

pub returns-clause-left : goal.returns-clause-left
unfolding StandsFor has_data after_opening
returns-clause-left c = λ s keys stands keyed there.
    let packets = c.args.self.now.packets.items in
    let window = c.args.self.now.window in
    let first = first_stands window packets s keys c.index_mut.result.now there c.index_mut.ensures.value keyed stands.packets in
    let after = after_opening c.args.role keys c.args.datagram.now c.args.now s in
    record {
      link = stands.link;
      plain = stands.plain;
      read_inside = stands.read_inside;
      longest = stands.longest;
      room = stands.room;
      packets = first_set window packets after keys c.unseal_with.new.channel there keyed
          (c.unseal_with.ensures.left keys s.link.kid s.received s.sealed first);
    }

pub returns-clause-answer : goal.returns-clause-answer
unfolding StandsFor has_data opening_answer
returns-clause-answer c = λ s keys stands keyed there.
    c.unseal_with.ensures.answer keys s.link.kid s.received s.sealed
    (first_stands c.args.self.now.window c.args.self.now.packets.items s keys c.index_mut.result.now there c.index_mut.ensures.value keyed stands.packets)
