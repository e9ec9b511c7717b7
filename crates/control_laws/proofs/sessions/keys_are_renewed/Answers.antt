use Rattle.control_laws.proofs.RenewalSteps.{step_renewed}
use Rattle.control_laws.proofs.Renewals.{keys_renewed}
use Rattle.control_laws.proofs.sessions.keys_are_renewed.Goals as goal

pub returns-clause-session : goal.returns-clause-session
returns-clause-session c = keys_renewed

pub returns-clause-step : goal.returns-clause-step
returns-clause-step c = step_renewed
