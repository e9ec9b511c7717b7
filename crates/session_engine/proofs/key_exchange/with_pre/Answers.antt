use Rattle.session_engine.proofs.Secrets.{same_block}
use Rattle.session_engine.proofs.key_exchange.with_pre.Goals as goal

pub returns-in-None-clause-block : goal.returns-in-None-clause-block
returns-in-None-clause-block c = λ own client_sid server_sid. same_block c.args.source.now own client_sid server_sid c.in-None.is
