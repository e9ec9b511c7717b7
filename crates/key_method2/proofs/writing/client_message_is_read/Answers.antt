use Rattle.key_method2.proofs.Written.{client_is}
use Rattle.key_method2.proofs.writing.client_message_is_read.Goals as goal

pub returns : goal.returns
returns c = client_is
