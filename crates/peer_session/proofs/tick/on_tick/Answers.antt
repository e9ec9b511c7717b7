use Rattle.std.proofs.Common.{ap, sym, subst, ◌∙◌, arith}
use Rattle.std.proofs.lemmas.Bool.{false≢true}
use Rattle.std.proofs.lemmas.List.{append-nil}
use Rattle.peer_table.specs.Outboxes.{Leaves}
use Rattle.peer_table.specs.Time.{ticking}
use Rattle.session_state.specs.Standing.{PeerStands}
use Rattle.peer_session.specs.internal.Ticking.{HasDone}
use Rattle.peer_session.proofs.Ticking.{all_gone, goes_unless, idle_ends, late_ends, tick_taken}
use Rattle.peer_session.proofs.tick.on_tick.Goals as goal

pub returns-then-is_late-clause-left : goal.returns-then-is_late-clause-left
returns-then-is_late-clause-left g c = λ p stands.
    let t = ticking c.args.now.0 c.args.next_conn c.args.established c.args.idle in
    subst (Leaves (PeerStands g.W.Wrap.wrapped) c.args.session.now c.args.out.now c.args.out.now c.args.to)
    (late_ends p t (sym c.if-is_late.true ∙ c.is_late.ensures p c.args.next_conn c.args.idle stands))
    (record { peer = stands; outbox = (sym (append-nil c.args.out.now.effects), sym (append-nil c.args.out.now.staged)) })

pub returns-then-is_late-clause-answer : goal.returns-then-is_late-clause-answer
returns-then-is_late-clause-answer g c = λ p stands.
    let t = ticking c.args.now.0 c.args.next_conn c.args.established c.args.idle in
    ap (λ o. o.answer) (late_ends p t (sym c.if-is_late.true ∙ c.is_late.ensures p c.args.next_conn c.args.idle stands))

pub returns-then-is_late-clause-closed : goal.returns-then-is_late-clause-closed
returns-then-is_late-clause-closed g c = λ p n stands late idle retired.
    absurd (false≢true (sym late ∙ sym (c.is_late.ensures p c.args.next_conn c.args.idle stands) ∙ c.if-is_late.true))

pub returns-then-idle-clause-left : goal.returns-then-idle-clause-left
returns-then-idle-clause-left g c = λ p stands.
    let t = ticking c.args.now.0 c.args.next_conn c.args.established c.args.idle in
    subst (Leaves (PeerStands g.W.Wrap.wrapped) c.args.session.now c.args.out.now c.args.out.now c.args.to)
    (idle_ends p t (sym c.if-is_late.false ∙ c.is_late.ensures p c.args.next_conn c.args.idle stands) (sym c.if-idle.true))
    (record { peer = stands; outbox = (sym (append-nil c.args.out.now.effects), sym (append-nil c.args.out.now.staged)) })

pub returns-then-idle-clause-answer : goal.returns-then-idle-clause-answer
returns-then-idle-clause-answer g c = λ p stands.
    let t = ticking c.args.now.0 c.args.next_conn c.args.established c.args.idle in
    ap (λ o. o.answer) (idle_ends p t (sym c.if-is_late.false ∙ c.is_late.ensures p c.args.next_conn c.args.idle stands) (sym c.if-idle.true))

pub returns-clause-left : goal.returns-clause-left
returns-clause-left g c = λ p stands.
    let t = ticking c.args.now.0 c.args.next_conn c.args.established c.args.idle in
    let done = subst (HasDone g.W.Wrap.wrapped c.go_by.new.session c.go_by.result c.args.out.now c.go_by.new.out c.args.to)
    (all_gone p t c.renews-renews.result (sym c.if-is_late.false ∙ c.is_late.ensures p c.args.next_conn c.args.idle stands) (sym c.if-idle.false)
    (c.renews-renews.ensures.renews p c.args.next_conn c.args.idle stands))
    (c.go_by.ensures.done c.args.out.now p c.args.established c.args.idle (c.reserve_tick.ensures.same p stands) c.reserve_tick.ensures.holds) in
    done.left

pub returns-clause-answer : goal.returns-clause-answer
returns-clause-answer g c = λ p stands.
    let t = ticking c.args.now.0 c.args.next_conn c.args.established c.args.idle in
    let done = subst (HasDone g.W.Wrap.wrapped c.go_by.new.session c.go_by.result c.args.out.now c.go_by.new.out c.args.to)
    (all_gone p t c.renews-renews.result (sym c.if-is_late.false ∙ c.is_late.ensures p c.args.next_conn c.args.idle stands) (sym c.if-idle.false)
    (c.renews-renews.ensures.renews p c.args.next_conn c.args.idle stands))
    (c.go_by.ensures.done c.args.out.now p c.args.established c.args.idle (c.reserve_tick.ensures.same p stands) c.reserve_tick.ensures.holds) in
    done.answer

pub returns-clause-goes_on : goal.returns-clause-goes_on
returns-clause-goes_on g c = goes_unless c.go_by.new.session c.go_by.result c.go_by.ensures.goes_on c.go_by.ensures.over

pub returns-clause-uses : goal.returns-clause-uses
returns-clause-uses g c = λ effects room ready.
    let takes = tick_taken c.args.session.now effects room ready in
    record {
      effects_left = omega (arith, takes.effects_fit, c.reserve_tick.ensures.uses.effects_left, c.go_by.ensures.uses.effects_left);
      bytes_left = omega (arith, takes.bytes_fit, c.reserve_tick.ensures.uses.bytes_left, c.go_by.ensures.uses.bytes_left);
    }
