use Rattle.tls_crypt.specs.StaticKey.{digits_of}
use Rattle.tls_crypt.proofs.KeyLines.{misspelled, spelled}
use Rattle.tls_crypt.proofs.static_key.bytes_of.Goals as goal

pub returns-in-Ok : goal.returns-in-Ok
unfolding digits_of
returns-in-Ok c = spelled _ _ _ c.in-Ok.ensures.value

pub returns-in-Err : goal.returns-in-Err
unfolding digits_of
returns-in-Err c = misspelled _ _ _ c.in-Err.ensures.value
