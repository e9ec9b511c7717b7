use Rattle.std.proofs.Common.{Some, sym, ap, ◌∙◌}
use Rattle.server_engine.proofs.Begun.{begun, none_made, not_begun, one_made}
use Rattle.server_engine.proofs.beginning.begin_exchange.Goals as goal

pub returns-then-not-is_known-clause-begun : goal.returns-then-not-is_known-clause-begun
returns-then-not-is_known-clause-begun g c before course h =
    let core = c.args.core.now in
    not_begun g.S.ClientSession.stands before core course c.args.draw.now core.turn.0 c.args.i
    (c.places_tell_of_clients.ensures.there core course.table core.turn.0 c.args.i h.table c.requires.ready.place) c.look_at.result.now c.look_at.ensures core c.args.out.now
    (sym c.is_known.ensures ∙ c.if-not-is_known.true) h

pub returns-clause-begun : goal.returns-clause-begun
returns-clause-begun g c before course h =
    let core = c.args.core.now in
    let there = c.places_tell_of_clients.ensures.there core course.table core.turn.0 c.args.i h.table c.requires.ready.place in
    begun g.S.ClientSession.stands before core course c.args.draw.now core.turn.0 c.args.i there c.look_at.result.now c.look_at.ensures c.exchange_keys.new.core c.exchange_keys.new.out
    (sym c.is_known.ensures ∙ c.if-not-is_known.false)
    (λ x same. c.exchange_keys.ensures.exchanged before course x h (there.client_there ∙ ap (λ x. Some x) (sym same)))

pub returns-then-not-is_known-clause-made : goal.returns-then-not-is_known-clause-made
returns-then-not-is_known-clause-made g c before course x h here =
    let core = c.args.core.now in
    none_made g.S.ClientSession.stands before core course c.args.draw.now core.turn.0 c.args.i
    (c.places_tell_of_clients.ensures.there core course.table core.turn.0 c.args.i h.table c.requires.ready.place) c.look_at.result.now c.look_at.ensures x here core c.args.out.now
    (sym c.is_known.ensures ∙ c.if-not-is_known.true) h

pub returns-clause-made : goal.returns-clause-made
returns-clause-made g c before course x h here =
    let core = c.args.core.now in
    one_made g.S.ClientSession.stands before core course c.args.draw.now core.turn.0 c.args.i
    (c.places_tell_of_clients.ensures.there core course.table core.turn.0 c.args.i h.table c.requires.ready.place) c.look_at.result.now c.look_at.ensures x here c.exchange_keys.new.core
    c.exchange_keys.new.out (sym c.is_known.ensures ∙ c.if-not-is_known.false) (c.exchange_keys.ensures.exchanged before course x h here)
