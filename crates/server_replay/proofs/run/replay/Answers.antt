use Rattle.std.proofs.Common.{◌≤◌, refl, sym, subst}
use Rattle.vpn_links.specs.declared.links.LinkFault.TheVariants as faults
use Rattle.server_table.specs.Table.{table_begun}
use Rattle.vpn_node.specs.Running.{given_in}
use Rattle.replay_links.specs.Replay.{MayFail}
use Rattle.server_replay.specs.internal.Serving.{with_start}
use Rattle.server_replay.proofs.Halts.{takes_all}
use Rattle.server_replay.proofs.Ends.{broke_apart, replayed_apart, uncut_apart}
use Rattle.server_replay.proofs.run.replay.Goals as goal

pub returns-clause-run : goal.returns-clause-run
returns-clause-run g c =
    let p = c.taken_apart.ensures in
    let s = c.serve-links.ensures in
    replayed_apart g.F.Files.holds g.S.Sink.contents g.F.Files.faults g.S.Sink.faults (table_begun c.args.settings c.args.key.0) c.new-links.result c.serve-links.result.0
    c.args.schedule (g.F.Files.holds c.args.files) (g.S.Sink.contents c.args.out) c.serve-links.result.1
    c.taken_apart.result.out c.taken_apart.result.ended c.taken_apart.result.is_cut c.taken_apart.result.ran p.parts.1 p.end.0 p.end.1 p.ran
    c.new-links.ensures.stands c.new-links.ensures.backing s.origin s.run c.a_whole_schedule_ends_the_program.ensures
    (record { told = c.only_the_end_stops.ensures.told; only = c.only_the_end_stops.ensures.only; counted = c.only_the_end_stops.ensures.counted })
    (takes_all (with_start MayFail) (table_begun c.args.settings c.args.key.0) s.run.entries c.serve-links.result.1.outcome (given_in s.run.rounds) s.run.part refl refl s.run.ended)

pub returns-clause-broke : goal.returns-clause-broke
returns-clause-broke g c =
    let p = c.taken_apart.ensures in
    let s = c.serve-links.ensures in
    let n = c.new-links.ensures in
    broke_apart g.F.Files.holds g.S.Sink.contents g.F.Files.faults g.S.Sink.faults (table_begun c.args.settings c.args.key.0) c.new-links.result c.serve-links.result.0 c.serve-links.result.1
    c.args.files c.taken_apart.result.files c.args.out c.taken_apart.result.out c.taken_apart.result.ended c.taken_apart.result.ran
    p.parts.0 p.parts.1 p.end.0 p.ran n.parts.0 n.parts.1 n.none.0 n.none.1 n.stands s.run s.failed

pub returns-clause-cut : goal.returns-clause-cut
returns-clause-cut g c = λ cut.
    let p = c.taken_apart.ensures in
    let n = c.new-links.ensures in
    c.a_cut_is_a_failure.ensures (g.S.Sink.faults c.args.out) (g.S.Sink.faults c.taken_apart.result.out)
    (uncut_apart g.F.Files.holds g.S.Sink.contents g.F.Files.faults g.S.Sink.faults c.new-links.result c.serve-links.result.0
    c.args.out c.taken_apart.result.out c.taken_apart.result.is_cut p.parts.1 p.end.1 n.parts.1 n.stands c.serve-links.ensures.never_falls cut)

pub returns-clause-out : goal.returns-clause-out
returns-clause-out g c =
    let count = g.S.Sink.faults in
    let last = c.serve-links.result.0 in
    subst (λ x. count c.args.out ≤ count x) (sym c.taken_apart.ensures.parts.1)
    (subst (λ x. count x ≤ count last.out) c.new-links.ensures.parts.1 (c.serve-links.ensures.never_falls faults.Output))
