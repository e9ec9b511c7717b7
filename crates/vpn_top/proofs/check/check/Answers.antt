use Rattle.std.proofs.Common.{ℕ, List, subst}
use Rattle.vpn_base.specs.Files.{Holding}
use Rattle.vpn_top.specs.Configuration.{HasKey}
use Rattle.vpn_top.specs.internal.Refused.{refusal_in, subject_in}
use Rattle.vpn_top.proofs.Checks.{check_printed, keyed_by}
use Rattle.vpn_top.proofs.check.check.Goals as goal

pub returns-in-Ok-load_key-clause-ran : goal.returns-in-Ok-load_key-clause-ran
returns-in-Ok-load_key-clause-ran g c = λ err.
    check_printed (g.F.Files.holds c.args.files.now) c.args.name.now (subject_in c.print.result) c.in-Ok.settings (refusal_in c.print.result)
    (record { before = g.S.Sink.contents c.args.out.now; after = g.S.Sink.contents c.print.new.out; files = (g.F.Files.faults c.args.files.now, g.F.Files.faults c.load_key.new.files); out = (g.S.Sink.faults c.args.out.now, g.S.Sink.faults c.print.new.out); err = err })
    c.in-Ok.ensures.ok (keyed_by (g.F.Files.holds c.args.files.now) c.in-Ok.settings.key c.in-Ok-load_key.field-0.0 (subst (λ (holds : List ℕ → Holding). HasKey holds c.in-Ok.settings.key c.in-Ok-load_key.field-0.0) (λ i n. c.load_config.ensures.kept n i) c.in-Ok-load_key.ensures.ok)) c.print.ensures.printed
