use Rattle.server_establishing.proofs.Kept.{made_then}
use Rattle.server_establishing.proofs.laws.what_is_made_stays.Goals as goal

pub returns : goal.returns
returns c course then n name file ahead g x made there none keeps settings clients =
    made_then course then n g x there none keeps settings clients name file ahead made
