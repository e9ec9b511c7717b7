use Rattle.std.proofs.Common.{ℕ, sym, subst}
use Rattle.peer_table.specs.DataPackets.{data_came}
use Rattle.peer_session.specs.Client.{ClientStands}
use Rattle.session_state.specs.Standing.{RetiredBy, since}
use Rattle.peer_session.proofs.client.PeerSessionWrapperClientSession.unseal.Goals as goal

pub returns-clause-left : goal.returns-clause-left
unfolding ClientStands
returns-clause-left c p stands =
    let law = c.retired_sessions_stay_retired.ensures in
    let was = since c.args.self.now.state in
    record {
      session = c.unseal.ensures.left p (law.usable was c.args.now.0 p stands.retired c.requires.later) stands.session;
      retired = subst (λ (n : ℕ). RetiredBy n (data_came c.args.datagram.now c.args.now p).peer) (sym c.unseal.ensures.since)
          (law.opens was c.args.datagram.now c.args.now p stands.retired);
      named = c.names_come_first.ensures.opens c.args.datagram.now c.args.now p stands.named;
    }

pub returns-clause-answer : goal.returns-clause-answer
unfolding ClientStands
returns-clause-answer c p stands =
    c.unseal.ensures.answer p (c.retired_sessions_stay_retired.ensures.usable (since c.args.self.now.state) c.args.now.0 p stands.retired c.requires.later) stands.session
