use Rattle.server_state.proofs.Acted.{call_stands}
use Rattle.server_state.proofs.laws.calls_are_put_into_courses.Goals as goal

pub returns-clause-turn : goal.returns-clause-turn
returns-clause-turn g c before core course old after o i v w ct h called place x there =
    call_stands g.S.ClientSession.stands before core course old after o i v w ct h called place x there

pub returns-clause-control : goal.returns-clause-control
returns-clause-control g c before core course old after o i v w ct h called place x there =
    call_stands g.S.ClientSession.stands before core course old after o i v w ct h called place x there
