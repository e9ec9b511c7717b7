use Rattle.std.proofs.Common.{sym, ◌∙◌}
use Rattle.session_state.proofs.Seen.{next_is}
use Rattle.session_state.proofs.session.SessionState.control_session.Goals as goal

pub returns-in-None : goal.returns-in-None
returns-in-None g c p stands =
    next_is g.W.Wrap.wrapped c.args.self.now p c.newest.result c.args.kid c.args.now.0 c.newest.ensures.seen
    (λ timers ss slots same. sym c.in-None.is ∙ c.live.ensures timers ss slots same) stands
