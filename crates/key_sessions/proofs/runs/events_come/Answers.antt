use Rattle.std.proofs.Common.{◌≡◌, ◌+◌, ◌++◌, ◌∷◌, [], List, Some, take, drop, ap, sym, subst, ◌∙◌}
use Rattle.std.specs.Prelude.{slice_get}
use Rattle.peer_table.specs.Peer.{Peer}
use Rattle.key_sessions.specs.Runs.{EventAt, after_event, after_events, answer_of, answers_of}
use Rattle.key_sessions.specs.declared.runs.SlotAnswer.{SlotAnswer}
use Rattle.key_sessions.specs.internal.Courses.{IsAt}
use Rattle.key_sessions.proofs.Each.{got}
use Rattle.key_sessions.proofs.RunLaws.{after_one, told_one}
use Rattle.key_sessions.proofs.runs.events_come.Goals as goal

pub loop-event-preserved : goal.loop-event-preserved
unfolding after_event answer_of
loop-event-preserved c =
    let i = c.loop-event.event-index in
    let setup = c.args.setup.now in
    let events : List EventAt = c.args.events.now in
    let e : EventAt = c.loop-event-item.result in
    let there : slice_get events i ≡ Some e = got events i e c.loop-event-test.true ∙ ap (λ (x : EventAt). Some x) (sym c.loop-event-item.is) in
    record {
      whole = c.event_comes.ensures.whole;
      at = λ p at.
          let q : Peer = after_events setup p (take i events) in
          let comes = c.in-Ok.ensures.comes q (c.loop-event.invariant.at p at) in
          subst (λ (r : Peer). IsAt setup.timers c.event_comes.new.slots c.event_comes.new.known r) (sym (after_one setup p events i e there)) comes.at;
      told = λ p at.
          let q : Peer = after_events setup p (take i events) in
          let comes = c.in-Ok.ensures.comes q (c.loop-event.invariant.at p at) in
          let rest : List SlotAnswer = answers_of setup (after_events setup p (take (i + 1) events)) (drop (i + 1) events) in
          ap (λ (answers : List SlotAnswer). answers ++ rest) (c.in_ok-push.ensures.items ∙ ap (λ (a : SlotAnswer). c.loop-event.answers.items ++ a ∷ []) comes.answer_is) ∙
          told_one setup p events i e c.loop-event.answers.items there ∙ c.loop-event.invariant.told p at;
    }
