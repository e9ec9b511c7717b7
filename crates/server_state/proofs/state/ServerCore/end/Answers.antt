use Rattle.std.proofs.Common.{◌+◌, ◌≤◌, refl, sym, subst, ◌∙◌}
use Rattle.std.specs.List.{AllByRecursion}
use Rattle.client_table.specs.Tables.{entries_of}
use Rattle.server_state.specs.Core.{GoesOn}
use Rattle.server_state.proofs.Ended.{nobody_ends, nobody_goes, somebody, somebody_ends, sound_after, value_at}
use Rattle.server_state.proofs.state.ServerCore.end.Goals as goal

pub returns-in_default-clause-ended : goal.returns-in_default-clause-ended
returns-in_default-clause-ended g c before course h =
    nobody_ends g.S.ClientSession.stands before c.args.self.now course c.args.out.now h c.args.cid.0 c.args.cause (sym c.place.ensures.place ∙ c.in_default.is)

pub returns-in_default-clause-sound : goal.returns-in_default-clause-sound
returns-in_default-clause-sound g c h = record {
  sessions = sound_after g.S.ClientSession.goes_on g.S.ClientSession.count g.S.ClientSession.since c.args.cid.0 c.args.self.now _ (sym c.place.ensures.place ∙ c.in_default.is) h;
  most = h.most;
  admitted = h.admitted;
  connections = h.connections;
  timers = h.timers;
  no_counts = h.no_counts;
  late = h.late;
}

pub returns-in_default-clause-gone : goal.returns-in_default-clause-gone
returns-in_default-clause-gone g c =
    let clients = c.args.self.now.clients in
    record { entries_are = nobody_goes c.args.cid.0 (entries_of clients) (sym c.place.ensures.place ∙ c.in_default.is); most_is = refl; admitted_is = refl }

pub unreachable-requires : goal.unreachable-requires
unreachable-requires g c =
    somebody (entries_of c.args.self.now.clients) c.in-Some.field-0 _ c.in-Some.ensures.within c.in-Some.ensures.there
    (sym c.in_default-remove.is ∙ c.remove.ensures.value)

pub returns-clause-ended : goal.returns-clause-ended
returns-clause-ended g c before course h =
    let core = c.args.self.now in
    somebody_ends g.S.ClientSession.stands before core course c.args.out.now h c.args.cid.0 c.args.cause c.in-Some.field-0 c.in-Some-remove.client
    (sym c.place.ensures.place ∙ c.in-Some.is)
    (value_at (entries_of core.clients) c.in-Some.field-0 _ c.in-Some-remove.client c.in-Some.ensures.there (sym c.in-Some-remove.is ∙ c.remove.ensures.value))
    c.remove.new.self c.remove.ensures.removed c.drop_client.new.self c.drop_client.ensures.dropped c.give_back.new.pool c.give_back.ensures
    c.say_ending.new.out c.leave_out.new.out c.say_ending.ensures.said c.leave_out.ensures.left_out c.requires.turn

pub returns-clause-sound : goal.returns-clause-sound
returns-clause-sound g c h = record {
  sessions = subst (λ es. AllByRecursion (GoesOn g.S.ClientSession.goes_on g.S.ClientSession.count g.S.ClientSession.since (c.args.self.now.events + 1) c.args.self.now.moment.0) es)
      (sym c.remove.ensures.removed.entries_are)
      (sound_after g.S.ClientSession.goes_on g.S.ClientSession.count g.S.ClientSession.since c.args.cid.0 c.args.self.now _ refl h);
  most = subst (λ n. n ≤ 4096) (sym c.remove.ensures.removed.most_is) h.most;
  admitted = subst (λ n. n ≤ c.args.self.now.events) (sym c.remove.ensures.removed.admitted_is) h.admitted;
  connections = h.connections;
  timers = h.timers;
  no_counts = h.no_counts;
  late = h.late;
}
