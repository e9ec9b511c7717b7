use Rattle.vpn_top.proofs.Checks.{config_gone, configured_by, misconfigured_by}
use Rattle.vpn_top.proofs.loading.load_config_in.Goals as goal

pub returns-in-Err-clause-err : goal.returns-in-Err-clause-err
returns-in-Err-clause-err g c =
    config_gone (g.F.Files.holds c.args.files.now) c.args.name.now (g.F.Files.faults c.args.files.now, g.F.Files.faults c.read_front.new.files) c.in-Err.fault c.gone.result.refusal c.gone.result.subject c.in-Err.ensures.missing c.in-Err.ensures.failed c.gone.ensures

pub returns-in-Ok-read_config-clause-ok : goal.returns-in-Ok-read_config-clause-ok
returns-in-Ok-read_config-clause-ok g c =
    configured_by _ (g.F.Files.holds c.args.files.now c.args.name.now) _ c.in-Ok-read_config.settings c.settings_are_of_the_front.ensures
    c.requires c.in-Ok.ensures.front c.in-Ok-read_config.ensures.exact

pub returns-in-Err-Why-clause-err : goal.returns-in-Err-Why-clause-err
returns-in-Err-Why-clause-err g c =
    misconfigured_by _ (g.F.Files.holds c.args.files.now c.args.name.now) _ c.in-Err-Why.field-0 c.in-Err-Why.fault c.settings_are_of_the_front.ensures
    c.requires c.in-Ok.ensures.front c.in-Err-Why.field-0-is c.in-Err-Why.ensures.exact
