use Rattle.std.proofs.Common.{refl, ◌∙◌, arith}
use Rattle.server_answers.specs.Rooms.{messages_bytes, messages_effects}
use Rattle.server_answers.proofs.Taking.{may_here, may_nobody, spends_more, spends_none, spent_uses, takes_first, takes_in_turn, takes_last, takes_more}
use Rattle.server_answers.proofs.messages.take_messages.Goals as goal

pub loop-left-init : goal.loop-left-init
loop-left-init g c = record {
  kept = c.requires.kept;
  room = c.requires.room;
  first = c.requires.first;
  sound = c.requires.sound;
  taken = λ before course h may.
      takes_first g.S.ClientSession.stands before c.args.core.now c.args.out.now c.args.core.now.turn.0 course c.args.left c.args.prepared h may;
  spends = spends_none c.args.out.now (messages_effects c.args.prepared c.args.left) (messages_bytes c.args.prepared c.args.left);
  turn_stays = refl;
  mark_stays = refl;
}

pub loop-left-preserved : goal.loop-left-preserved
loop-left-preserved g c =
    let means = g.S.ClientSession.stands in
    let l = c.loop-left in
    let next = c.take_next-behind in
    let core = next.new.core in
    let out = next.new.out in
    record {
      kept = next.ensures.kept;
      room = next.ensures.room;
      first = next.ensures.mark_stays ∙ l.invariant.first;
      sound = next.ensures.sound;
      taken = λ before course h may.
          takes_more means before l.core l.out core out c.args.core.now.turn.0 course l.prepared next.result.0 l.left next.result.1 c.loop-left-test.true (l.invariant.taken before course h may)
          (λ d. takes_in_turn means before l.core l.out core out d l.prepared next.result.0 l.left next.result.1 l.core.turn c.args.core.now.turn l.invariant.turn_stays
          (next.ensures.taken before d));
      spends = spends_more c.args.out.now l.out out (messages_effects c.args.prepared c.args.left) (messages_bytes c.args.prepared c.args.left)
          (messages_effects l.prepared l.left) (messages_bytes l.prepared l.left) (messages_effects next.result.0 next.result.1) (messages_bytes next.result.0 next.result.1)
          l.invariant.spends next.ensures.spends;
      turn_stays = next.ensures.turn_stays ∙ l.invariant.turn_stays;
      mark_stays = next.ensures.mark_stays ∙ l.invariant.mark_stays;
    }

pub returns-clause-taken : goal.returns-clause-taken
returns-clause-taken g c before course x h there of fits =
    let l = c.loop-left in
    let n = c.args.core.now.turn.0 in
    takes_last g.S.ClientSession.stands before l.core l.out n course l.prepared l.left (omega (arith, c.loop-left-test.false))
    (l.invariant.taken before course h (may_here c.args.left n course x c.args.prepared there of fits))

pub returns-clause-gone : goal.returns-clause-gone
returns-clause-gone g c before course h none =
    let l = c.loop-left in
    let n = c.args.core.now.turn.0 in
    takes_last g.S.ClientSession.stands before l.core l.out n course l.prepared l.left (omega (arith, c.loop-left-test.false))
    (l.invariant.taken before course h (may_nobody c.args.left n course c.args.prepared none))

pub returns-clause-uses : goal.returns-clause-uses
returns-clause-uses g c =
    let l = c.loop-left in
    spent_uses c.args.out.now l.out (messages_effects c.args.prepared c.args.left) (messages_bytes c.args.prepared c.args.left) (messages_effects l.prepared l.left)
    (messages_bytes l.prepared l.left) l.invariant.spends
