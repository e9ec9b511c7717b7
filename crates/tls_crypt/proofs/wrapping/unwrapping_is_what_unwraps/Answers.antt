use Rattle.tls_crypt.proofs.Searched.{finds_what_unwraps}
use Rattle.tls_crypt.proofs.wrapping.unwrapping_is_what_unwraps.Goals as goal

pub returns-clause-here : goal.returns-clause-here
returns-clause-here g c =
    finds_what_unwraps (g.W.Wrap.wrapped c.args.wrap.now) (g.met.W.Wrap.wrapped_framed c.args.wrap.now) (g.met.W.Wrap.wrapped_once c.args.wrap.now)

pub returns-clause-there : goal.returns-clause-there
returns-clause-there g c =
    finds_what_unwraps (g.W.Wrap.unwrapped c.args.wrap.now) (g.met.W.Wrap.unwrapped_framed c.args.wrap.now) (g.met.W.Wrap.unwrapped_once c.args.wrap.now)
