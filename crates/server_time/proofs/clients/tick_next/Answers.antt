use Rattle.std.proofs.Common.{option_map, sym, ap, ◌∙◌}
use Rattle.server_time.proofs.Others.{rest_itself}
use Rattle.server_time.proofs.Skips as skips
use Rattle.server_time.proofs.Walk.{goes_on_behind, is_admitted, is_later, is_next, may_take, sound_before}
use Rattle.server_time.proofs.clients.tick_next.Goals as goal

pub returns-in-None-clause-passes : goal.returns-in-None-clause-passes
returns-in-None-clause-passes g c before course h all =
    let core = c.args.core.now in
    skips.none_ticked core.clients course c.args.from.0 all (λ j absent. c.places_tell_of_clients.ensures.nobody core course.table j h.table absent)
    (ap (λ o. option_map (λ cid. cid.0) o) (sym c.next_from.ensures ∙ c.in-None.is))

pub returns-in-None-clause-rest : goal.returns-in-None-clause-rest
returns-in-None-clause-rest g c = rest_itself c.args.core.now

pub client_ticked-requires-clause-next : goal.client_ticked-requires-clause-next
client_ticked-requires-clause-next g c =
    is_next g.S.ClientSession.is_ready g.S.ClientSession.goes_on g.S.ClientSession.count g.S.ClientSession.since c.args.core.now c.args.out.now c.args.from.0 c.in-Some.cid.0
    c.requires.ready (ap (λ o. option_map (λ cid. cid.0) o) (sym c.next_from.ensures ∙ c.in-Some.is))

pub client_ticked-requires-clause-ready : goal.client_ticked-requires-clause-ready
client_ticked-requires-clause-ready g c =
    may_take g.S.ClientSession.is_ready g.S.ClientSession.goes_on g.S.ClientSession.count g.S.ClientSession.since c.args.core.now c.args.out.now c.args.from.0 c.in-Some.cid.0
    c.requires.ready (ap (λ o. option_map (λ cid. cid.0) o) (sym c.next_from.ensures ∙ c.in-Some.is))

pub client_ticked-requires-clause-sound : goal.client_ticked-requires-clause-sound
client_ticked-requires-clause-sound g c =
    sound_before g.S.ClientSession.is_ready g.S.ClientSession.goes_on g.S.ClientSession.count g.S.ClientSession.since c.args.core.now c.args.out.now c.args.from.0 c.in-Some.cid.0
    c.requires.ready (ap (λ o. option_map (λ cid. cid.0) o) (sym c.next_from.ensures ∙ c.in-Some.is))

pub returns-in-Some-clause-passes : goal.returns-in-Some-clause-passes
returns-in-Some-clause-passes g c before course h all most as_many =
    let core = c.args.core.now in
    let next = ap (λ o. option_map (λ cid. cid.0) o) (sym c.next_from.ensures ∙ c.in-Some.is) in
    skips.next_ticked core.clients course c.args.from.0 c.in-Some.cid.0 all most
    (λ j absent. c.places_tell_of_clients.ensures.nobody core course.table j h.table absent) next
    (is_later g.S.ClientSession.is_ready g.S.ClientSession.goes_on g.S.ClientSession.count g.S.ClientSession.since core c.args.out.now c.args.from.0 c.in-Some.cid.0
    c.requires.ready next)
    as_many

pub returns-in-Some-clause-ready : goal.returns-in-Some-clause-ready
returns-in-Some-clause-ready g c =
    let next = ap (λ o. option_map (λ cid. cid.0) o) (sym c.next_from.ensures ∙ c.in-Some.is) in
    goes_on_behind g.S.ClientSession.is_ready g.S.ClientSession.goes_on g.S.ClientSession.count g.S.ClientSession.since c.args.core.now c.args.out.now c.args.from.0 c.in-Some.cid.0
    c.requires.ready next c.client_ticked.new.core c.client_ticked.new.out c.client_ticked.ensures.sound c.client_ticked.ensures.others
    (ap (λ cid. cid.0) c.client_ticked.ensures.turn) c.client_ticked.ensures.uses

pub returns-in-Some-clause-later : goal.returns-in-Some-clause-later
returns-in-Some-clause-later g c =
    is_later g.S.ClientSession.is_ready g.S.ClientSession.goes_on g.S.ClientSession.count g.S.ClientSession.since c.args.core.now c.args.out.now c.args.from.0 c.in-Some.cid.0
    c.requires.ready (ap (λ o. option_map (λ cid. cid.0) o) (sym c.next_from.ensures ∙ c.in-Some.is))

pub returns-in-Some-clause-admitted : goal.returns-in-Some-clause-admitted
returns-in-Some-clause-admitted g c =
    is_admitted g.S.ClientSession.is_ready g.S.ClientSession.goes_on g.S.ClientSession.count g.S.ClientSession.since c.args.core.now c.args.out.now c.args.from.0 c.in-Some.cid.0
    c.requires.ready (ap (λ o. option_map (λ cid. cid.0) o) (sym c.next_from.ensures ∙ c.in-Some.is))
