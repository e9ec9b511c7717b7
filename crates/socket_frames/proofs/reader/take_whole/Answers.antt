use Rattle.std.proofs.Common.{Option, Result, Ok, Err, ap, subst, ◌∙◌}
use Rattle.vpn_base.specs.Answers.{Answers}
use Rattle.vpn_base.specs.declared.errors.Or.{Or}
use Rattle.socket_frames.specs.declared.frames.Frame.{Frame}
use Rattle.socket_frames.specs.declared.frames.FrameFault.{FrameFault}
use Rattle.socket_frames.specs.Streams.{Stands, Stream, after_next, next_of}
use Rattle.socket_frames.proofs.Readings.{ended_err, ended_none}
use Rattle.socket_frames.proofs.reader.take_whole.Goals as goal

pub returns-in-Ok-None : goal.returns-in-Ok-None
returns-in-Ok-None c = λ fed stands.
    let s : Stream = record { fed = fed; given = c.loop-frame.frames.items } in
    let before = c.loop-frame.invariant fed stands in
    let is = c.in-Ok-None.is ∙ ap Ok c.in-Ok-None.field-0-is in
    ended_none s c.next_frame.new.self
    (subst (λ (r : Result (Option Frame) (Or FrameFault)). Stands c.next_frame.new.self (after_next r s)) is (c.next_frame.ensures.stands s before))
    (subst (λ (r : Result (Option Frame) (Or FrameFault)). Answers r (next_of s)) is (c.next_frame.ensures.answer s before))

pub returns-in-Err : goal.returns-in-Err
returns-in-Err c = λ fed stands.
    let s : Stream = record { fed = fed; given = c.loop-frame.frames.items } in
    let before = c.loop-frame.invariant fed stands in
    let is = c.in-Err.is ∙ ap Err c.in_ok-fault-in-Err.ensures in
    ended_err s c.next_frame.new.self c.in_ok-fault-in-Err.fault
    (subst (λ (r : Result (Option Frame) (Or FrameFault)). Stands c.next_frame.new.self (after_next r s)) is (c.next_frame.ensures.stands s before))
    (subst (λ (r : Result (Option Frame) (Or FrameFault)). Answers r (next_of s)) is (c.next_frame.ensures.answer s before))
