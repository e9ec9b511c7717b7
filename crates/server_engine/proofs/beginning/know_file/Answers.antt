use Rattle.std.proofs.Common.{refl}
use Rattle.server_table.specs.Table.{Known}
use Rattle.server_engine.proofs.Asked.{set_alone}
use Rattle.server_engine.proofs.beginning.know_file.Goals as goal

pub returns-clause-known : goal.returns-clause-known
returns-clause-known g c before out course h =
    set_alone g.S.ClientSession.stands c.args.core.now before course c.set_file.new.core out c.args.core.now.turn.0 (Known c.args.file) h
    c.set_file.ensures.turn_stays c.set_file.ensures.mark_stays
    (c.set_file.ensures.set course.table c.args.core.now.turn.0 (Known c.args.file) h.table c.requires.place (λ y at. refl))
