use Rattle.std.proofs.Common.{refl, subst}
use Rattle.peer_table.specs.KeySessions.{session_begun}
use Rattle.peer_lines.specs.Standing.{StandsFor}
use Rattle.peer_session.proofs.begin.first_text.Goals as goal

pub returns : goal.returns
returns c = λ moment. subst (λ first. StandsFor c.begin.result (session_begun c.args.timers.now c.args.conn 0 first moment)) c.first_reset.ensures.opcode
    (c.begin.ensures.stands c.args.timers.now 0 moment c.in_ok-blank.ensures refl)
