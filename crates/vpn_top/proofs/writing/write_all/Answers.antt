use Rattle.std.proofs.Common.{arith, length-drop}
use Rattle.replay_links.proofs.Appending.{more_written, suffix}
use Rattle.vpn_top.proofs.writing.write_all.Goals as goal

pub loop-at-preserved : goal.loop-at-preserved
loop-at-preserved g c =
    let contents = g.S.Sink.contents in
    let text = c.args.text.now in
    let at = c.loop-at.at in
    record {
      within = omega (arith, (rw (suffix at text, length-drop at text) at c.in-Ok.ensures.within));
      wrote = more_written (contents c.args.sink.now) (contents c.loop-at.sink) (contents c.write.new.self) text _ at c.in-Ok.n
          c.loop-at.invariant.wrote c.in-Ok.ensures.written (suffix at text);
      count = omega (arith, c.write.ensures.never_falls);
    }
