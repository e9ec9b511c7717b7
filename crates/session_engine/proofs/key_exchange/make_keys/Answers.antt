use Rattle.std.proofs.Common.{◌≡◌, List, ℕ, refl, ap, subst}
use Rattle.std.proofs.lemmas.Bool.{false≢true}
use Rattle.peer_table.specs.KeySessions.{Keys}
use Rattle.key_sessions.specs.Changes.{exchanged_in, newest_keyed, one_closed}
use Rattle.key_sessions.specs.Sessions.{keys_made}
use Rattle.key_sessions.specs.Slots.{SlotsStand}
use Rattle.peer_lines.specs.Standing.{StandsFor}
use Rattle.session_engine.specs.internal.Exchanges.{IsTextOf}
use Rattle.session_engine.proofs.ExchangeSteps.{if_some, text_of}
use Rattle.session_engine.proofs.key_exchange.make_keys.Goals as goal

pub returns-in-Ok-clause-made : goal.returns-in-Ok-clause-made
returns-in-Ok-clause-made c = λ peer_id ss stands.
    let same : keys_made c.with_pre-client.result c.args.own.now c.args.client_sid c.args.server_sid c.args.cipher peer_id
    ≡ keys_made c.args.client.now c.args.own.now c.args.client_sid c.args.server_sid c.args.cipher peer_id =
    ap (λ (block : List ℕ). record { block = block; cipher = c.args.cipher; peer_id = peer_id }) (c.with_pre-client.ensures.block c.args.own.now c.args.client_sid.0 c.args.server_sid.0) in
    subst (λ (keys : Keys). SlotsStand StandsFor c.exchange.new.self (exchanged_in keys ss)) same (c.in-Ok.ensures.exchanged peer_id c.args.cipher ss refl stands)

pub returns-in-Ok-clause-given : goal.returns-in-Ok-clause-given
returns-in-Ok-clause-given c = λ peer_id ss stands.
    let same : keys_made c.with_pre-client.result c.args.own.now c.args.client_sid c.args.server_sid c.args.cipher peer_id
    ≡ keys_made c.args.client.now c.args.own.now c.args.client_sid c.args.server_sid c.args.cipher peer_id =
    ap (λ (block : List ℕ). record { block = block; cipher = c.args.cipher; peer_id = peer_id }) (c.with_pre-client.ensures.block c.args.own.now c.args.client_sid.0 c.args.server_sid.0) in
    subst (λ (keys : Keys). IsTextOf c.in-Ok.closed (one_closed (newest_keyed keys ss))) same
    (text_of c.in-Ok.closed _ (c.in-Ok.ensures.there peer_id c.args.cipher ss refl stands)
    (if_some c.in-Ok.closed _ _ (λ text so s is. so peer_id c.args.cipher ss s refl stands is) c.in-Ok.ensures.text))

pub returns-in-Err-clause-made : goal.returns-in-Err-clause-made
returns-in-Err-clause-made c = absurd (false≢true c.in-Err.ensures.judged)

pub returns-in-Err-clause-given : goal.returns-in-Err-clause-given
returns-in-Err-clause-given c = absurd (false≢true c.in-Err.ensures.judged)
