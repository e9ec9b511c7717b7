use Rattle.std.proofs.Common.{None, sym, subst, ap}
use Rattle.server_table.specs.Engine.{file_accepted}
use Rattle.server_engine.specs.internal.Asked.{IsTakenAs}
use Rattle.server_engine.proofs.Judged.{sound_but}
use Rattle.server_engine.proofs.files.accept_file.Goals as goal

pub returns-then-file-clause-accepted : goal.returns-then-file-clause-accepted
returns-then-file-clause-accepted g c before course draw h =
    subst (λ b. IsTakenAs g.S.ClientSession.stands before c.end.new.self c.end.new.out draw c.args.cid.0 course (file_accepted draw c.args.cid.0 course c.args.file b) None)
    (sym c.if-file.true) (c.end.ensures.ended before course h)

pub returns-then-file-clause-sound : goal.returns-then-file-clause-sound
returns-then-file-clause-sound g c =
    c.end.ensures.sound (sound_but g.S.ClientSession.goes_on g.S.ClientSession.count g.S.ClientSession.since c.args.cid.0 c.args.core.now c.requires.sound)

pub returns-clause-accepted : goal.returns-clause-accepted
returns-clause-accepted g c before course draw h = (h, ap (λ b. file_accepted draw c.args.cid.0 course c.args.file b) c.if-file.false)
