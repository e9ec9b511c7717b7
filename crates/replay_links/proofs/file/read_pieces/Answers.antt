use Rattle.std.proofs.Common.{◌≤◌, ◌+◌, ◌^◌, ap, subst, length, arith}
use Rattle.vpn_base.specs.Files.{Holding}
use Rattle.replay_links.specs.Fronts.{IsAll, ReadFrom}
use Rattle.replay_links.proofs.FileFronts.{front_cut, front_whole}
use Rattle.replay_links.proofs.file.read_pieces.Goals as goal

pub returns-in-Ok-eq0-clause-front : goal.returns-in-Ok-eq0-clause-front
returns-in-Ok-eq0-clause-front g c =
    let name = c.args.name.now in
    let same = c.loop-files.invariant.kept name in
    let read = subst (λ (h : Holding). ReadFrom h c.loop-files.text.items → IsAll h c.read_piece.new.text.items) same (c.in-Ok-eq0.ensures.end c.in-Ok-eq0.field-0-test) in
    let size : length c.read_piece.new.text.items ≤ 2 ^ 40 + 1 = omega (arith, c.in-Ok-eq0.ensures.more, c.loop-files-test.true, ap length c.as_slice.ensures.value, c.in-Ok-eq0.field-0-test) in
    front_whole (g.F.Files.holds c.args.files.now name) c.read_piece.new.text.items (read c.loop-files.invariant.front) size

pub returns-clause-front : goal.returns-clause-front
returns-clause-front g c = front_cut (g.F.Files.holds c.args.files.now c.args.name.now) c.loop-files.text.items c.truncate.new.self.items
    c.loop-files.invariant.front (omega (arith, c.loop-files-test.false, ap length c.as_slice.ensures.value)) c.truncate.ensures.items
