use Rattle.std.proofs.Common.{rules, ◌≡◌, ◌≤◌, ◌+◌, ℕ, List, length, drop, Option, Some, Result, Ok, Err, IfOk, refl, sym, subst, arith}
use Rattle.std.proofs.lemmas.List.{length-drop}
use Rattle.peer_table.specs.Peer.{other}
use Rattle.data_channel.specs.declared.channel.DataFault.{DataFault}
use Rattle.data_channel.specs.Channels.{answer_to, opened_of}
use Rattle.data_channel.specs.Standing.{ChannelStands, TellsInner}
use Rattle.data_channel.proofs.Lengths.{opens_long}
use Rattle.data_channel.proofs.channel.DataChannel.unseal_of.Goals as goal

long_if : (r : Result ℕ DataFault) (size total : ℕ) → IfOk r (λ n. n ≡ size) → size + 24 ≡ total → IfOk r (λ n. n + 24 ≡ total)
long_if (Ok n) size total is whole = omega (arith, is, whole)
long_if (Err e) size total is whole = tt

pub returns-in-Ok-clause-long : goal.returns-in-Ok-clause-long
returns-in-Ok-clause-long g c =
    let before = c.args.datagram.now in
    let after = c.open_packet-opened.new.datagram in
    let long : 24 ≤ length before =
    opens_long (g.C.Aead.sealed c.by_role-sealer.result.now.cipher) c.by_role-sealer.result.now.implicit _ c.in-Ok.id before (drop 24 after)
    (g.met.C.Aead.lengths c.by_role-sealer.result.now.cipher) c.in-Ok.ensures.opened in
    let same : length after ≡ length before = search rules in
    long_if c.accept_id.result c.saturating_sub.result (length before) c.accept_id.ensures.size (omega (arith, long, same, c.saturating_sub.ensures))

pub returns-in-Ok-clause-answer : goal.returns-in-Ok-clause-answer
unfolding ChannelStands opened_of
returns-in-Ok-clause-answer g c = λ ch stands.
    let before = c.args.datagram.now in
    let after = c.open_packet-opened.new.datagram in
    let is : opened_of (other c.args.role) ch before ≡ Some (c.in-Ok.id, drop 24 after) = search rules in
    let size : c.saturating_sub.result ≡ length (drop 24 after) = omega (arith, length-drop 24 after, c.saturating_sub.ensures) in
    subst (λ (o : Option (ℕ × List ℕ)). TellsInner c.accept_id.result after (answer_to ch.received c.args.now o)) (sym is)
    (c.accept_id.ensures.answer ch.received (search rules) after (drop 24 after) size refl)
