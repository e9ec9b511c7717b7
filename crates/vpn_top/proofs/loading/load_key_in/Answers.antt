use Rattle.std.proofs.Common.{ℕ, take, subst}
use Rattle.vpn_top.specs.Configuration.{IsFrontOf}
use Rattle.vpn_top.proofs.Checks.{key_file_judged, key_gone}
use Rattle.vpn_top.proofs.loading.load_key_in.Goals as goal

pub returns-in-Err-clause-err : goal.returns-in-Err-clause-err
returns-in-Err-clause-err g c =
    key_gone (g.F.Files.holds c.args.files.now) c.args.name.now (g.F.Files.faults c.args.files.now, g.F.Files.faults c.read_front.new.files) c.in-Err.fault c.gone.result.refusal c.gone.result.subject c.in-Err.ensures.missing c.in-Err.ensures.failed c.gone.ensures

pub returns-in-Err-read_key-clause-err : goal.returns-in-Err-read_key-clause-err
returns-in-Err-read_key-clause-err g c =
    key_file_judged (g.F.Files.holds c.args.files.now) c.args.name.now (g.F.Files.faults c.args.files.now, g.F.Files.faults c.read_front.new.files) _ c.in-Err-read_key.refused.refusal c.in-Err-read_key.refused.subject (subst (λ (n : ℕ). IsFrontOf n (g.F.Files.holds c.args.files.now c.args.name.now) (take c.in-Ok.count c.read_front.new.buffer)) c.requires c.in-Ok.ensures.front) c.in-Err-read_key.ensures.err
