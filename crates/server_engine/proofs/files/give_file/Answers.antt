use Rattle.std.proofs.Common.{None, subst}
use Rattle.server_engine.specs.Files.{Tells}
use Rattle.server_engine.proofs.Judged.{sound_but}
use Rattle.server_engine.proofs.Taken.{accepted_given, failed_given, missing_given, refused_given}
use Rattle.server_engine.proofs.files.give_file.Goals as goal

pub returns-in-Accepted-clause-given : goal.returns-in-Accepted-clause-given
returns-in-Accepted-clause-given g c before course draw name told h is tells =
    accepted_given g.S.ClientSession.stands before c.accept_file.new.core c.accept_file.new.out draw c.args.cid.0 course c.accept_file.result name c.in-Accepted.file told
    (subst (λ answer. Tells answer told) c.in-Accepted.is tells) (c.accept_file.ensures.accepted before course draw h)

pub returns-in-Refused-clause-given : goal.returns-in-Refused-clause-given
returns-in-Refused-clause-given g c before course draw name told h is tells =
    refused_given g.S.ClientSession.stands before c.end.new.self c.end.new.out draw c.args.cid.0 course None name c.in-Refused.fault told
    (subst (λ answer. Tells answer told) c.in-Refused.is tells) (c.end.ensures.ended before course h)

pub returns-in-Refused-clause-sound : goal.returns-in-Refused-clause-sound
returns-in-Refused-clause-sound g c =
    c.end.ensures.sound (sound_but g.S.ClientSession.goes_on g.S.ClientSession.count g.S.ClientSession.since c.args.cid.0 c.args.core.now c.requires.sound)

pub returns-in-Missing-clause-given : goal.returns-in-Missing-clause-given
returns-in-Missing-clause-given g c before course draw name told h is tells =
    missing_given g.S.ClientSession.stands before c.lack_file.new.core c.lack_file.new.out draw c.args.cid.0 course c.lack_file.result name told
    (subst (λ answer. Tells answer told) c.in-Missing.is tells) (c.lack_file.ensures.lacking before course draw name h is)

pub returns-in-Failed-clause-given : goal.returns-in-Failed-clause-given
returns-in-Failed-clause-given g c before course draw name told h is tells =
    failed_given g.S.ClientSession.stands before c.end-in-Failed.new.self c.end-in-Failed.new.out draw c.args.cid.0 course None name told
    (subst (λ answer. Tells answer told) c.in-Failed.is tells) (c.end-in-Failed.ensures.ended before course h)

pub returns-in-Failed-clause-sound : goal.returns-in-Failed-clause-sound
returns-in-Failed-clause-sound g c =
    c.end-in-Failed.ensures.sound (sound_but g.S.ClientSession.goes_on g.S.ClientSession.count g.S.ClientSession.since c.args.cid.0 c.args.core.now c.requires.sound)
