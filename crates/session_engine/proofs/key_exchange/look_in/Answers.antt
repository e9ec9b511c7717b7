use Rattle.std.proofs.Common.{ℕ, Bool, Option, Some, ap, sym, ◌∙◌}
use Rattle.std.specs.Prelude.{option_map}
use Rattle.vpn_base.specs.declared.names.Cipher.{Cipher}
use Rattle.key_method2.specs.Views.{message_seen}
use Rattle.peer_table.specs.Exchange.{asks_with}
use Rattle.session_engine.specs.internal.Exchanges.{prepared_as}
use Rattle.session_engine.proofs.key_exchange.look_in.Goals as goal

pub returns-in-None : goal.returns-in-None
returns-in-None g c = λ p s stands at named number.
    ap (option_map (prepared_as c.args.policy.now p)) (ap (option_map (λ m. (message_seen m.0, m.1))) (sym c.in-None.is) ∙ c.whole_message.ensures p s stands at named)

pub returns-in-Some : goal.returns-in-Some
returns-in-Some g c = λ p s stands at named number.
    let asks = c.asks_with.ensures p stands ∙ ap (λ (n : ℕ). asks_with n c.in-Some.view.info.now p) (sym number) in
    ap (λ (r : Option Cipher × Bool). Some (record { source = c.in-Some.view.source; used = c.in-Some.used; cipher = r.0; asks_push = r.1 })) (λ i. (c.cipher_chosen.ensures i, asks i))
    ∙ ap (option_map (prepared_as c.args.policy.now p)) (ap (option_map (λ m. (message_seen m.0, m.1))) (sym c.in-Some.is) ∙ c.whole_message.ensures p s stands at named)
