use Rattle.std.proofs.Common.{◌≡◌, ◌∙◌, arith}
use Rattle.packet_ids.specs.Freshness.{begun}
use Rattle.packet_ids.specs.LongFreshness.{latest, at_time}
use Rattle.packet_ids.proofs.LongStanding.{later_accepted, same_accepted, long_fresh_is, window_of}
use Rattle.packet_ids.proofs.long_windows.LongWindow.accept.Goals as goal

pub returns-then-time-stamp : goal.returns-then-time-stamp
returns-then-time-stamp c = λ h s.
    later_accepted c.args.self.now _ h c.args.time c.args.id c.args.now s (omega (arith, c.stamp.ensures, c.if-time-stamp.true))
    (c.record.ensures.stamp ∙ c.begin.ensures.stamp)
    (c.record.ensures.stands (begun h.width h.seconds) (c.begin.ensures.begins (at_time h (latest h.accepted)) (window_of c.args.self.now h s)))

pub returns-else-time-stamp : goal.returns-else-time-stamp
returns-else-time-stamp c = λ h s.
    let fresh = long_fresh_is c.args.self.now c.args.time c.args.id c.args.now c.requires in
    let same : c.args.self.now.window.stamp ≡ c.args.time = omega (arith, fresh.not_early, c.stamp.ensures, c.if-time-stamp.false) in
    same_accepted c.args.self.now _ h c.args.time c.args.id c.args.now s same (c.record-else-time-stamp.ensures.stamp ∙ same)
    (c.record-else-time-stamp.ensures.stands (at_time h (latest h.accepted)) (window_of c.args.self.now h s))
