use Rattle.std.proofs.Common.{ap, sym, ◌∙◌, refl}
use Rattle.std.specs.Prelude.{is_some}
use Rattle.vpn_base.specs.declared.names.Timers.{Timers}
use Rattle.peer_table.specs.Time.{retired}
use Rattle.session_state.specs.Standing.{PeerStands}
use Rattle.session_state.proofs.Ends.{ok_value}
use Rattle.peer_session.proofs.Ticking.{closed_done, may_whole, may_with, none_done}
use Rattle.peer_session.proofs.tick.close_retired.Goals as goal

pub close_retired-requires : goal.close_retired-requires
close_retired-requires g c = may_whole c.args.session.now c.requires.goes_on

pub returns-in-None-clause-done : goal.returns-in-None-clause-done
unfolding PeerStands
returns-in-None-clause-done g c = λ before to turn o done.
    let tran = ap (λ (t : Timers). t.tran) (sym done.left.peer.timers_are) in
    none_done g.W.Wrap.wrapped c.args.session.now c.close_retired.new.self turn before c.args.out.now to o (retired o.peer c.args.now.0)
    (ap is_some (sym c.in-None.is) ∙ c.close_retired.ensures.some o.peer done.left.peer.slots_stand tran)
    (c.close_retired.ensures.stands o.peer done.left.peer.slots_stand tran) c.close_retired.ensures.whole done

pub returns-in-None-clause-goes_on : goal.returns-in-None-clause-goes_on
returns-in-None-clause-goes_on g c =
    may_with c.args.session.now c.args.session.now.envelope c.close_retired.new.self c.args.session.now.is_over c.requires.goes_on c.close_retired.ensures.whole

pub returns-in-Some-clause-done : goal.returns-in-Some-clause-done
unfolding PeerStands
returns-in-Some-clause-done g c = λ before to turn o done.
    let tran = ap (λ (t : Timers). t.tran) (sym done.left.peer.timers_are) in
    closed_done g.W.Wrap.wrapped c.args.session.now c.close_retired.new.self c.in-Some.text turn before c.args.out.now c.close-closed.new.out to o c.args.now.0 (retired o.peer c.args.now.0) refl
    (ap is_some (sym c.in-Some.is) ∙ c.close_retired.ensures.some o.peer done.left.peer.slots_stand tran)
    (c.close_retired.ensures.stands o.peer done.left.peer.slots_stand tran) c.close_retired.ensures.whole
    (λ s at. c.in-Some.ensures.text o.peer s done.left.peer.slots_stand tran at)
    (λ s text_stands. ok_value c.close-closed.result _ (c.close-closed.ensures.fits c.requires.room) (c.close-closed.ensures.closed s text_stands)) done

pub returns-in-Some-clause-goes_on : goal.returns-in-Some-clause-goes_on
returns-in-Some-clause-goes_on g c =
    may_with c.args.session.now c.args.session.now.envelope c.close_retired.new.self c.args.session.now.is_over c.requires.goes_on c.close_retired.ensures.whole
