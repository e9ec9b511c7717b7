use Rattle.std.proofs.Common.{◌≡◌, Some, sym, subst}
use Rattle.vpn_base.specs.declared.names.Cid.{Cid}
use Rattle.server_table.specs.Exchange as definitions
use Rattle.server_table.specs.Lookups.{client_here}
use Rattle.server_table.specs.Table.{Client}
use Rattle.server_state.specs.Core.{CourseStands}
use Rattle.server_engine.specs.Rests.{HasMade, keys_exchanged}
use Rattle.server_answers.proofs.Going.{IsMadeFor, finished, kept_so, made_so, reads_nothing}
use Rattle.server_answers.proofs.following.make_exchange.Goals as goal

pub finish_exchange-requires-clause-kept : goal.finish_exchange-requires-clause-kept
finish_exchange-requires-clause-kept g c =
    kept_so c.args.core.now c.begin_exchange.new.core c.args.prepared c.begin_exchange.ensures.held_stays c.begin_exchange.ensures.room_stays c.requires.kept

pub returns-then-begin_exchange-clause-made : goal.returns-then-begin_exchange-clause-made
returns-then-begin_exchange-clause-made g c before course x h there of unread =
    let means = g.S.ClientSession.stands in
    let core = c.args.core.now in
    let n = core.turn.0 in
    let draw = c.args.draw.now in
    let mid = c.begin_exchange.new.core in
    let half = c.begin_exchange.new.out in
    let next = c.finish_exchange.new.core in
    let out = c.finish_exchange.new.out in
    let then = keys_exchanged draw n x course in
    let l = c.places_tell_of_clients.ensures.there core course.table n c.args.i h.table c.requires.ready.place in
    let made = subst (λ b. HasMade means before mid half draw n x course b) c.if-begin_exchange.true (c.begin_exchange.ensures.made before course x h there) in
    let nothing = reads_nothing means core course n c.args.i l x there g.S.ClientSession.nothing_read_before in
    let stays = c.begin_exchange.ensures.turn_stays in
    subst (CourseStands means before next out) (sym made.1)
    (subst (λ (who : Cid). CourseStands means before next out (definitions.exchange_made who.0 then)) stays
    (finished means before mid next half out mid.turn.0 then c.args.prepared c.args.left made.0
    (subst (λ (who : Cid). (y : Client) → client_here then.table who.0 ≡ Some y → IsMadeFor then who.0 c.args.prepared c.args.left y) (sym stays)
    (made_so c.what_is_made_stays.ensures c.names_stay.ensures.exchanged c.unread_text_is_read_in_order.ensures.exchange draw n course x c.args.prepared c.args.left there nothing of unread))
    (λ d y hd at of left. c.finish_exchange.ensures.made before d y hd at of left)
    (λ d hd at. c.finish_exchange.ensures.gone before d hd at)))

pub returns-else-begin_exchange-clause-made : goal.returns-else-begin_exchange-clause-made
returns-else-begin_exchange-clause-made g c before course x h there of unread =
    let means = g.S.ClientSession.stands in
    let core = c.args.core.now in
    let made = subst (λ b. HasMade means before c.begin_exchange.new.core c.begin_exchange.new.out c.args.draw.now core.turn.0 x course b) c.if-begin_exchange.false
    (c.begin_exchange.ensures.made before course x h there) in
    subst (CourseStands means before c.begin_exchange.new.core c.begin_exchange.new.out) (sym made.1) made.0
