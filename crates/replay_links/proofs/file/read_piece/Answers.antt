use Rattle.std.proofs.Common.{ap, subst, ℕ, ◌≤◌, length, arith}
use Rattle.vpn_base.specs.Files.{Copied}
use Rattle.replay_links.proofs.FileFronts.{ended, grown}
use Rattle.replay_links.proofs.file.read_piece.Goals as goal

pub returns-clause-front : goal.returns-clause-front
returns-clause-front g c =
    let holding = g.F.Files.holds c.args.files.now c.args.name.now in
    let at = ap length c.as_slice.ensures.value in
    let copied = subst (λ (at : ℕ). Copied holding at c.in-Ok.n c.take.new.into) at c.in-Ok.ensures.copied in
    let fits : c.in-Ok.n ≤ length c.take.new.into = omega (arith, c.in-Ok.ensures.within, c.take.auto.into) in
    grown holding c.args.text.now.items c.extend_from_slice.new.self.items c.take.new.into c.in-Ok.n c.in-Ok-extend_from_slice.ensures.items fits copied

pub returns-clause-end : goal.returns-clause-end
returns-clause-end g c = λ none.
    let holding = g.F.Files.holds c.args.files.now c.args.name.now in
    let at = ap length c.as_slice.ensures.value in
    let copied = subst (λ (at : ℕ). Copied holding at c.in-Ok.n c.take.new.into) at c.in-Ok.ensures.copied in
    ended holding c.args.text.now.items c.extend_from_slice.new.self.items c.take.new.into c.in-Ok.n c.in-Ok-extend_from_slice.ensures.items none
    (omega (arith, c.requires, c.take.auto.into)) copied
