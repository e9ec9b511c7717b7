use Rattle.std.proofs.Common.{List, [], ◌∷◌, ◌++◌, take, ap, sym, subst, ◌∙◌}
use Rattle.data_channel.specs.declared.runs.ChannelAnswer.{ChannelAnswer}
use Rattle.data_channel.specs.Channels.{Channel}
use Rattle.data_channel.specs.Runs.{EventAt, after_events, answers_of, channel_begun}
use Rattle.data_channel.specs.Standing.{GcmStands}
use Rattle.data_channel.proofs.RunLaws.{answers_next, channel_next}
use Rattle.data_channel.proofs.runs.run_channel.Goals as goal

pub loop-event-preserved : goal.loop-event-preserved
loop-event-preserved c =
    let i = c.loop-event.event-index in
    let events : List EventAt = c.args.events.now in
    let start : Channel = channel_begun c.args.keys.now.0 c.args.setup.now in
    let e : EventAt = c.loop-event-item.result in
    let before : Channel = after_events start (take i events) in
    record {
      told =
          c.in_ok-push.ensures.items ∙ ap (λ (t : List ChannelAnswer). t ++ c.in-Ok-answer.given ∷ []) c.loop-event.invariant.told
          ∙ ap (λ (a : ChannelAnswer). answers_of start (take i events) ++ a ∷ []) (c.in-Ok-answer.ensures.answer before c.loop-event.invariant.stands)
          ∙ sym (answers_next i start events e c.loop-event-test.true c.loop-event-item.is);
      stands = subst (λ (h : Channel). GcmStands c.answer.new.channel h) (sym (channel_next i start events e c.loop-event-test.true c.loop-event-item.is))
          (c.in-Ok-answer.ensures.stands before c.loop-event.invariant.stands);
    }
