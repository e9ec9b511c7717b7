use Rattle.std.proofs.Common.{ap, sym, ◌∙◌}
use Rattle.std.specs.Prelude.{option_map}
use Rattle.key_sessions.specs.Looks.{keys_of_some}
use Rattle.session_engine.proofs.ExchangeSteps.{keys_are, no_keys}
use Rattle.session_engine.proofs.key_exchange.write_in.Goals as goal

pub returns-in-None-clause-written : goal.returns-in-None-clause-written
returns-in-None-clause-written c = λ ss s keys stands at is_open stage id unread kid within.
    absurd (no_keys s keys is_open stage (ap (option_map (λ r. (r.0.now.0, r.1))) (sym c.in-None.is) ∙ c.keys_at.ensures ss stands ∙ ap keys_of_some at))

pub returns-in-Some-clause-written : goal.returns-in-Some-clause-written
returns-in-Some-clause-written c = λ ss s keys stands at is_open stage id unread kid within.
    let shown = ap (option_map (λ r. (r.0.now.0, r.1))) (sym c.in-Some.is) ∙ c.keys_at.ensures ss stands ∙ ap keys_of_some at in
    c.write_under.ensures.written ss s stands at is_open (keys_are s keys (c.in-Some.keys.now.0, c.in-Some.cipher) c.args.peer_id is_open stage id shown) unread kid within
