use Rattle.std.proofs.Common.{◌≡◌, ◌+◌, List, [], ◌∷◌, ◌++◌, take, ap, sym, subst, ◌∙◌}
use Rattle.std.proofs.lemmas.List.{take_more, take_all}
use Rattle.reliable_send.specs.declared.runs.SendingEvent.{SendingEvent}
use Rattle.reliable_send.specs.Sending.{Sending, begun}
use Rattle.reliable_send.specs.Sides.{Stands}
use Rattle.reliable_send.specs.Runs.{SentAt, after, after_all, sent_by, sent_in}
use Rattle.reliable_send.proofs.RunLaws.{after_all-push, sent_in-push}
use Rattle.reliable_send.proofs.runs.run_sending.Goals as goal

pub loop-event-preserved : goal.loop-event-preserved
loop-event-preserved c =
    let i = c.loop-event.event-index in
    let events = c.args.events.now in
    let start : Sending = begun c.args.timeout_secs in
    let before : Sending = after_all (take i events) start in
    let e : SendingEvent = c.event-item.result in
    let more : take (i + 1) events ≡ take i events ++ e ∷ [] = take_more events i e c.loop-event-test.true ∙ ap (λ (x : SendingEvent). take i events ++ x ∷ []) (sym c.event-item.is) in
    let told : c.take_event.new.log.items ≡ c.loop-event.log.items ++ sent_by before e = c.in_ok-take_event.ensures.told before c.loop-event.invariant.stands in
    let stands : Stands c.take_event.new.side (after before e) = c.in_ok-take_event.ensures.stands before c.loop-event.invariant.stands in
    record {
      told =
          told ∙ ap (λ (l : List SentAt). l ++ sent_by before e) c.loop-event.invariant.told ∙ sym (sent_in-push (take i events) e start)
          ∙ ap (λ (es : List SendingEvent). sent_in es start) (sym more);
      stands = subst (λ (h : Sending). Stands c.take_event.new.side h) (sym (ap (λ (es : List SendingEvent). after_all es start) more ∙ after_all-push (take i events) e start)) stands;
    }

pub returns : goal.returns
returns c =
    c.loop-event.invariant.told ∙ ap (λ (es : List SendingEvent). sent_in es (begun c.args.timeout_secs)) (take_all c.loop-event.event-index c.args.events.now c.loop-event-test.false)
