use Rattle.std.proofs.Common.{ℕ, List, option_map, Option, sym, ap, subst, ◌∙◌}
use Rattle.vpn_base.specs.declared.names.Conn.{Conn}
use Rattle.peer_table.specs.Outboxes.{message_seen}
use Rattle.server_engine.specs.declared.messages.Waiting.TheVariants as waiting
use Rattle.server_engine.specs.Messages.{Sees}
use Rattle.server_engine.proofs.messages.look.Goals as goal

pub returns-in-None : goal.returns-in-None
returns-in-None g c p h =
    subst (λ (m : Option (Conn × List ℕ)). Sees waiting.Nothing m) (sym (ap (λ o. option_map message_seen o) c.in-None.is) ∙ c.next_message.ensures p h) (tt {0})

pub returns-in-Some : goal.returns-in-Some
returns-in-Some g c p h = subst (Sees c.found_in.result) (sym (ap (λ o. option_map message_seen o) c.in-Some.is) ∙ c.next_message.ensures p h) c.found_in.ensures
