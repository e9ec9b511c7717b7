use Rattle.std.proofs.Common.{◌∙◌, ℕ, List, sym, subst}
use Rattle.std.specs.Prelude.{Some, None}
use Rattle.vpn_base.specs.Files.{Holding}
use Rattle.server_replay.specs.Replays.{IsReplay}
use Rattle.server_table.specs.Table.{table_begun}
use Rattle.vpn_top.specs.Replay.{RanReplay}
use Rattle.vpn_top.specs.Written.{Run}
use Rattle.vpn_top.specs.internal.Replaying.{IsLoaded}
use Rattle.vpn_top.proofs.Replays.{done_end, run_ended}
use Rattle.vpn_top.proofs.replay.replay.Goals as goal

pub returns-in-Some-clause-ran : goal.returns-in-Some-clause-ran
returns-in-Some-clause-ran g c = λ holds config files_before err same since loaded.
    let p = c.replay-files.result in
    let e = c.replay-files.ensures in
    let held = g.F.Files.holds c.args.files in
    let before = g.S.Sink.contents c.args.out in
    let now = g.S.Sink.contents p.out in
    let files : ℕ × ℕ = (files_before, g.F.Files.faults p.files) in
    let out : ℕ × ℕ = (g.S.Sink.faults c.args.out, g.S.Sink.faults p.out) in
    let run : Run = record { before = before; after = now; files = files; out = out; err = err } in
    let r = subst (λ (name : List ℕ). IsReplay (table_begun c.args.loaded.settings c.args.loaded.key.0) (held name) before now p.ended p.is_cut p.ran) c.in-Ok.ensures e.run in
    subst (λ (h : List ℕ → Holding). IsLoaded h config c.args.loaded → RanReplay h config c.args.schedule.now (Some c.in-Some.refusal) c.args.schedule.now run) (sym same)
    (λ is. run_ended c.a_long_file_is_refused_where_it_passes_its_limit.ensures c.runs_keep_the_promise.ensures held config c.args.schedule.now c.args.loaded before now now p.ended p.is_cut p.ran
    files (g.F.Files.faults c.args.files) out err is r (Some c.in-Some.refusal) (sym c.in-Some.is ∙ c.refusal_by.ensures) e.broke e.cut since)
    loaded

pub returns-in-None-clause-ran : goal.returns-in-None-clause-ran
returns-in-None-clause-ran g c = λ holds config files_before err same since loaded.
    let p = c.replay-files.result in
    let e = c.replay-files.ensures in
    let held = g.F.Files.holds c.args.files in
    let before = g.S.Sink.contents c.args.out in
    let now = g.S.Sink.contents p.out in
    let after = g.S.Sink.contents c.write_done-refusal.new.out in
    let files : ℕ × ℕ = (files_before, g.F.Files.faults p.files) in
    let out_mid : ℕ = g.S.Sink.faults p.out in
    let out : ℕ × ℕ = (g.S.Sink.faults c.args.out, g.S.Sink.faults c.write_done-refusal.new.out) in
    let run : Run = record { before = before; after = after; files = files; out = out; err = err } in
    let r = subst (λ (name : List ℕ). IsReplay (table_begun c.args.loaded.settings c.args.loaded.key.0) (held name) before now p.ended p.is_cut p.ran) c.in-Ok.ensures e.run in
    subst (λ (h : List ℕ → Holding). IsLoaded h config c.args.loaded → RanReplay h config c.args.schedule.now c.write_done-refusal.result c.args.schedule.now run) (sym same)
    (λ is.
    let good = run_ended c.a_long_file_is_refused_where_it_passes_its_limit.ensures c.runs_keep_the_promise.ensures held config c.args.schedule.now c.args.loaded before now now p.ended p.is_cut p.ran
    files (g.F.Files.faults c.args.files) (g.S.Sink.faults c.args.out, out_mid) err is r None (sym c.in-None.is ∙ c.refusal_by.ensures) e.broke e.cut since in
    done_end c.a_long_file_is_refused_where_it_passes_its_limit.ensures c.runs_keep_the_promise.ensures held config c.args.schedule.now c.args.loaded before now after p.ended p.is_cut p.ran
    files (g.F.Files.faults c.args.files) out err is r c.only_the_end_stops.ensures.stop c.write_done-refusal.result out_mid good c.write_done-refusal.ensures.done e.out)
    loaded
