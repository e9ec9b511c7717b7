use Rattle.std.proofs.Common.{ap, sym, subst, ◌∙◌, arith}
use Rattle.std.specs.Prelude.{not}
use Rattle.std.specs.List.{filter}
use Rattle.vpn_base.specs.declared.names.Timers.{Timers}
use Rattle.peer_table.specs.Exchange.{session_closed}
use Rattle.peer_table.specs.Peer.{answered}
use Rattle.peer_table.specs.Time.{is_number, resent, retired, staying}
use Rattle.peer_table.specs.declared.outcomes.Turn.TheVariants.{Going}
use Rattle.session_state.specs.Standing.{PeerStands, count}
use Rattle.peer_session.specs.internal.Ticking.{AreOpenYet, HasDone}
use Rattle.peer_session.proofs.Ticking.{are_open, done_at, each_goes, may_at, may_go, none_yet, not_over, retired_still}
use Rattle.peer_session.proofs.tick.go_by.Goals as goal

pub tick_each-turn-requires-clause-goes_on : goal.tick_each-turn-requires-clause-goes_on
tick_each-turn-requires-clause-goes_on g c = may_go c.args.session.now c.requires.goes_on

pub tick_each-turn-requires-clause-over : goal.tick_each-turn-requires-clause-over
tick_each-turn-requires-clause-over g c = not_over c.args.session.now c.requires.goes_on

pub begin_if-turn-requires-clause-few : goal.begin_if-turn-requires-clause-few
unfolding count
begin_if-turn-requires-clause-few g c = omega (arith, c.requires.few, c.tick_each-turn.ensures.keeps.number, c.close_retired.ensures.keeps.number)

pub returns-clause-done : goal.returns-clause-done
unfolding PeerStands
returns-clause-done g c = λ before p established idle stands holds.
    let now = c.args.now.0 in
    let start = none_yet g.W.Wrap.wrapped c.args.session.now Going before c.args.out.now c.args.to p stands holds in
    let numbers = c.as_slice.ensures.now ∙ c.of-numbers.ensures p.sessions stands.slots_stand in
    let is_retired = c.retired-retired.ensures p stands.slots_stand (ap (λ (t : Timers). t.tran) (sym stands.timers_are)) in
    let are = subst (λ ns. AreOpenYet 0 ns p.sessions) (sym numbers) (are_open p.sessions (each_goes g.W.Wrap.wrapped c.args.session.now p c.requires.goes_on stands)) in
    let ticked = subst (λ r. HasDone g.W.Wrap.wrapped c.tick_each-turn.new.session c.tick_each-turn.result before c.tick_each-turn.new.out c.args.to (resent now (staying p r) (answered p Going)))
    is_retired
    (subst (λ ns. HasDone g.W.Wrap.wrapped c.tick_each-turn.new.session c.tick_each-turn.result before c.tick_each-turn.new.out c.args.to
    (resent now (filter (λ n. not (is_number c.retired-retired.result n)) ns) (answered p Going))) numbers
    (c.tick_each-turn.ensures.done before (answered p Going) 0 start are)) in
    let so_far = resent now (staying p (retired p now)) (answered p Going) in
    let closed = subst (λ r. HasDone g.W.Wrap.wrapped c.close_retired.new.session c.tick_each-turn.result before c.close_retired.new.out c.args.to (session_closed r so_far))
    (retired_still (staying p (retired p now)) now now (answered p Going))
    (c.close_retired.ensures.done before c.args.to c.tick_each-turn.result so_far ticked) in
    done_at g.W.Wrap.wrapped c.begin_if-turn.new.session c.begin_if-turn.result before c.begin_if-turn.new.out c.args.to _ _
    (c.begin_if-turn.ensures.done before (session_closed (retired p now) so_far) established idle closed)

pub returns-clause-goes_on : goal.returns-clause-goes_on
returns-clause-goes_on g c = may_at c.begin_if-turn.new.session _ c.begin_if-turn.ensures.goes_on

pub returns-clause-count : goal.returns-clause-count
unfolding count
returns-clause-count g c = omega (arith, c.begin_if-turn.ensures.count, c.tick_each-turn.ensures.keeps.number, c.close_retired.ensures.keeps.number)
