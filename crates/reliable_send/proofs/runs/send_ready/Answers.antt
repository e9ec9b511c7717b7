use Rattle.std.proofs.Common.{◌<◌, length, arith}
use Rattle.reliable_send.specs.Sending.{ready}
use Rattle.reliable_send.proofs.RunLaws.{first_named, ready_shrinks_so, underway_begins, underway_ends, underway_goes_on, underway_sends}
use Rattle.reliable_send.proofs.runs.send_ready.Goals as goal
use Rattle.reliable_send.proofs.runs.send_ready.Goals.{in-Some+in_ok-push, in_default}

pub loop-i-init : goal.loop-i-init
loop-i-init c = λ h s. underway_begins ready c.args.now h c.args.log.now.items c.args.side.now s

pub loop-i-preserved : goal.loop-i-preserved
loop-i-preserved c = λ h s.
    let u = c.loop-i.invariant h s in
    let more : c.loop-i._i < length (ready h) = omega (arith, c.ready-i-end.ensures.exact h s) in
    elim c.match-next_piece.branch [
      | in-Some+in_ok-push w ↦
          let after = underway_sends ready c.args.now h c.args.log.now.items c.loop-i.log.items w.push.new.self.items c.loop-i.side w.count_sent.new.self c.loop-i._i w.in-Some.piece.id u more
          (λ k p rest t e. ready_shrinks_so c.args.now.0 c.loop-i.side k p rest t e)
          (λ k t. first_named (ready k) w.in-Some.piece.id w.in-Some.piece.bytes.now (w.in-Some.ensures.exact k t)) (λ k t e. w.count_sent.ensures.next k t e) w.in_ok-push.ensures.items in
          rw (w.log-is, w.side-is) after
      | in_default w ↦
          absurd (underway_goes_on ready c.args.now h c.args.log.now.items c.loop-i.log.items c.loop-i.side c.loop-i._i u more (λ k t. w.in_default.ensures.exact k t))
    ]

pub returns-clause-told : goal.returns-clause-told
returns-clause-told c = λ h s.
    (underway_ends ready c.args.now h c.args.log.now.items c.loop-i.log.items c.loop-i.side c.loop-i._i (c.loop-i.invariant h s) (omega (arith, c.ready-i-end.ensures.exact h s))).0

pub returns-clause-stands : goal.returns-clause-stands
returns-clause-stands c = λ h s.
    (underway_ends ready c.args.now h c.args.log.now.items c.loop-i.log.items c.loop-i.side c.loop-i._i (c.loop-i.invariant h s) (omega (arith, c.ready-i-end.ensures.exact h s))).1
