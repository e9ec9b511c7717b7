use Rattle.std.proofs.Common.{ap, ◌∙◌}
use Rattle.peer_table.specs.Time.{is_open_session}
use Rattle.session_engine.proofs.ExchangeSteps.{if_some, unread_by}
use Rattle.session_engine.proofs.key_exchange.nothing_is_read_before_keys.Goals as goal

pub returns : goal.returns
returns c = λ ss s stands at none.
    unread_by c.text.result s
    (c.text.ensures.some c.requires ss stands ∙ ap is_open_session at ∙ c.sessions_are_open_without_keys.ensures.open ss c.args.number s stands at none)
    (if_some c.text.result _ _ (λ text so. so ss s stands at) c.text.ensures.text)
    (λ channels is. (c.channels_stand_on.ensures.none channels s none is).1)
