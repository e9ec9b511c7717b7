use Rattle.std.proofs.Common.{arith}
use Rattle.peer_table.specs.ControlPackets.{sender}
use Rattle.peer_table.specs.Outboxes.{incoming}
use Rattle.peer_lines.specs.Calls.{packet_taken}
use Rattle.session_state.specs.Ready.{IsReady}
use Rattle.session_state.specs.Standing.{PeerStands}
use Rattle.session_state.proofs.Keeping.{goes_at, goes_of, whole_of}
use Rattle.session_control.proofs.Taking.{goes_on_after, goes_on_turn, is_not_over, kept_stands, over_of, taken_answer, taken_count, taken_left}
use Rattle.session_control.proofs.Wraps.{still_fresh}
use Rattle.session_control.proofs.control.take_in.Goals as goal

pub take_at-taken-requires-clause-whole : goal.take_at-taken-requires-clause-whole
take_at-taken-requires-clause-whole g c = whole_of c.args.session.now c.requires.goes_on

pub returns-in-Ok-clause-left : goal.returns-in-Ok-clause-left
unfolding PeerStands
returns-in-Ok-clause-left g c = λ p s next_conn established stands fresh at is_open.
    let i = incoming c.args.opened.now c.args.view.now next_conn established c.args.now in
    let not_over = is_not_over c.args.session.now c.requires.goes_on in
    let spent = goes_at p.sessions c.args.number s (goes_of c.args.session.now.is_over p.sessions not_over stands.each_goes_on) at in
    let left = c.in-Ok.ensures.taken p.sessions s p.envelope stands.slots_stand at is_open spent stands.envelope_stands in
    let end = c.in-Ok.ensures.end p.sessions s p.envelope stands.slots_stand at is_open spent stands.envelope_stands in
    let o = packet_taken s p.envelope i.form (sender i) c.args.now.0 in
    taken_left g.W.Wrap.wrapped c.args.session.now c.take_at-taken.new.env c.accept_wrap.new.env c.take_at-taken.new.slots c.fixed-session.result c.is_some-session.result c.in-Ok.end
    c.args.out.now c.take_at-taken.new.out c.args.to p i c.args.number s stands not_over at
    (c.links_go_on.ensures.packet s p.envelope i.form (sender i) c.args.now.0) left end c.is_some-session.ensures c.take_at-taken.ensures.whole
    (c.accept_wrap.ensures o.envelope left.envelope (still_fresh s p.envelope i.form (sender i) c.args.now.0 c.args.opened.now c.args.now fresh))
    c.fixed-session.ensures

pub returns-in-Ok-clause-answer : goal.returns-in-Ok-clause-answer
unfolding PeerStands
returns-in-Ok-clause-answer g c = λ p s next_conn established stands at is_open.
    let i = incoming c.args.opened.now c.args.view.now next_conn established c.args.now in
    let not_over = is_not_over c.args.session.now c.requires.goes_on in
    let spent = goes_at p.sessions c.args.number s (goes_of c.args.session.now.is_over p.sessions not_over stands.each_goes_on) at in
    let end = c.in-Ok.ensures.end p.sessions s p.envelope stands.slots_stand at is_open spent stands.envelope_stands in
    taken_answer p i c.args.number s c.in-Ok.end c.turn_of.result end c.turn_of.ensures

pub returns-in-Ok-clause-goes_on : goal.returns-in-Ok-clause-goes_on
returns-in-Ok-clause-goes_on g c = goes_on_turn c.in-Ok.end c.turn_of.result _ c.turn_of.ensures
    (λ none. goes_on_after c.args.session.now c.accept_wrap.new.env c.take_at-taken.new.slots c.fixed-session.result c.is_some-session.result c.requires.goes_on
    (over_of c.is_some-session.result c.in-Ok.end c.is_some-session.ensures none) c.take_at-taken.ensures.whole)

pub returns-in-Ok-clause-count : goal.returns-in-Ok-clause-count
returns-in-Ok-clause-count g c = taken_count c.args.session.now c.accept_wrap.new.env c.take_at-taken.new.slots c.fixed-session.result c.is_some-session.result c.take_at-taken.ensures.number

pub returns-in-Ok-clause-uses : goal.returns-in-Ok-clause-uses
unfolding IsReady
returns-in-Ok-clause-uses g c = λ from bytes effects room ready short.
    let used = c.take_at-taken.ensures.uses _ room ready.own.texts short in
    record { effects_left = omega (arith, used.effects_left, ready.own.effects_fit); bytes_left = used.bytes_left }

pub returns-in-Err-clause-left : goal.returns-in-Err-clause-left
unfolding PeerStands
returns-in-Err-clause-left g c = λ p s next_conn established stands fresh at is_open.
    let not_over = is_not_over c.args.session.now c.requires.goes_on in
    let spent = goes_at p.sessions c.args.number s (goes_of c.args.session.now.is_over p.sessions not_over stands.each_goes_on) at in
    let kept = c.in-Err.ensures.kept p.sessions s p.envelope stands.slots_stand at is_open spent stands.envelope_stands in
    (kept_stands g.W.Wrap.wrapped c.args.session.now c.take_at-taken.new.env c.take_at-taken.new.slots c.args.out.now c.take_at-taken.new.out p stands kept c.take_at-taken.ensures.whole, kept.outbox)

pub returns-in-Err-clause-goes_on : goal.returns-in-Err-clause-goes_on
returns-in-Err-clause-goes_on g c = goes_on_after c.args.session.now c.take_at-taken.new.env c.take_at-taken.new.slots c.args.session.now.remote c.args.session.now.is_over c.requires.goes_on
    (is_not_over c.args.session.now c.requires.goes_on) c.take_at-taken.ensures.whole

pub returns-in-Err-clause-count : goal.returns-in-Err-clause-count
returns-in-Err-clause-count g c = taken_count c.args.session.now c.take_at-taken.new.env c.take_at-taken.new.slots c.args.session.now.remote c.args.session.now.is_over c.take_at-taken.ensures.number

pub returns-in-Err-clause-fits : goal.returns-in-Err-clause-fits
unfolding IsReady
returns-in-Err-clause-fits g c = λ from bytes effects room ready short has.
    c.in-Err.ensures.fits _ room ready.own.texts ready.own.bytes_count short
    (record { effects_fit = omega (arith, has.effects_fit, ready.own.effects_fit); bytes_fit = has.bytes_fit })

pub returns-in-Err-clause-uses : goal.returns-in-Err-clause-uses
unfolding IsReady
returns-in-Err-clause-uses g c = λ from bytes effects room ready short.
    let used = c.take_at-taken.ensures.uses _ room ready.own.texts short in
    record { effects_left = omega (arith, used.effects_left, ready.own.effects_fit); bytes_left = used.bytes_left }
