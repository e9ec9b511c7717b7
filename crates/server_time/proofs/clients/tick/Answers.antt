use Rattle.std.proofs.Common.{◌∙◌}
use Rattle.server_time.proofs.Ahead.{all_ticked, course_same, may_begin, may_ready, rest_same, still_ahead, still_told}
use Rattle.server_time.proofs.Others.{rest_on}
use Rattle.server_time.proofs.clients.tick.Goals as goal

pub take_memory-requires : goal.take_memory-requires
take_memory-requires g c = record {
  sessions = may_ready g.S.ClientSession.goes_on g.S.ClientSession.count g.S.ClientSession.since c.args.core.now c.requires.sound c.requires.few;
}

pub tick_clients-requires : goal.tick_clients-requires
tick_clients-requires g c = record {
  ready =
      may_begin g.S.ClientSession.goes_on g.S.ClientSession.count g.S.ClientSession.since c.args.core.now c.requires.sound g.S.ClientSession.stands c.take_memory.new.core
      c.take_memory.ensures.stays g.S.ClientSession.is_ready c.take_memory.new.out c.in-Ok.ensures.ready c.requires.counted c.requires.few
      (c.no_more_are_here_than_may_be.ensures c.take_memory.new.core.clients) (c.take_memory.ensures.outbox.1 ∙ c.requires.alone);
}

pub returns-in-Ok-clause-ticked : goal.returns-in-Ok-clause-ticked
returns-in-Ok-clause-ticked g c before course h =
    all_ticked g.S.ClientSession.stands before c.args.core.now c.tick_clients.new.core c.args.out.now c.tick_clients.new.out course h c.requires.sound.no_counts
    (c.tick_clients.ensures.ticked before course
    (course_same g.S.ClientSession.stands g.S.ClientSession.goes_on g.S.ClientSession.count g.S.ClientSession.since c.args.core.now c.take_memory.new.core c.args.out.now
    c.take_memory.new.out c.take_memory.ensures.stays c.take_memory.ensures.outbox before course h))

pub returns-in-Ok-clause-rest : goal.returns-in-Ok-clause-rest
returns-in-Ok-clause-rest g c =
    rest_on c.args.core.now c.take_memory.new.core c.tick_clients.new.core
    (rest_same g.S.ClientSession.stands g.S.ClientSession.goes_on g.S.ClientSession.count g.S.ClientSession.since c.args.core.now c.take_memory.new.core
    c.take_memory.ensures.stays)
    c.tick_clients.ensures.rest

pub returns-in-Err-clause-kept : goal.returns-in-Err-clause-kept
returns-in-Err-clause-kept g c before course h =
    course_same g.S.ClientSession.stands g.S.ClientSession.goes_on g.S.ClientSession.count g.S.ClientSession.since c.args.core.now c.take_memory.new.core c.args.out.now
    c.take_memory.new.out c.take_memory.ensures.stays c.take_memory.ensures.outbox before course h

pub returns-in-Err-clause-sound : goal.returns-in-Err-clause-sound
returns-in-Err-clause-sound g c =
    still_ahead g.S.ClientSession.goes_on g.S.ClientSession.count g.S.ClientSession.since c.args.core.now c.requires.sound g.S.ClientSession.stands c.take_memory.new.core
    c.take_memory.ensures.stays

pub returns-in-Err-clause-rest : goal.returns-in-Err-clause-rest
returns-in-Err-clause-rest g c =
    rest_same g.S.ClientSession.stands g.S.ClientSession.goes_on g.S.ClientSession.count g.S.ClientSession.since c.args.core.now c.take_memory.new.core
    c.take_memory.ensures.stays

pub returns-in-Err-clause-still : goal.returns-in-Err-clause-still
returns-in-Err-clause-still g c =
    still_told g.S.ClientSession.goes_on g.S.ClientSession.count g.S.ClientSession.since c.args.core.now c.requires.sound g.S.ClientSession.stands c.take_memory.new.core
    c.take_memory.ensures.stays
