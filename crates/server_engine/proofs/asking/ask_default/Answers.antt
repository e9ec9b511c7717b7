use Rattle.std.proofs.Common.{refl}
use Rattle.server_table.specs.Engine.{default_name}
use Rattle.server_table.specs.Table.{Awaited}
use Rattle.server_engine.proofs.Asked.{set_after}
use Rattle.server_engine.proofs.asking.ask_default.Goals as goal

pub returns-clause-asked : goal.returns-clause-asked
returns-clause-asked g c before course h =
    set_after g.S.ClientSession.stands c.args.core.now before course c.set_file.new.core c.args.out.now c.put.new.out c.args.cid.0 default_name h
    c.put.ensures.put c.set_file.ensures.turn_stays c.set_file.ensures.mark_stays
    (c.set_file.ensures.set course.table c.args.cid.0 (Awaited default_name) h.table c.requires.place (λ y at. refl))
