use Rattle.std.proofs.Common.{◌≡◌, List, [], ◌∷◌, ◌++◌, get_or, take, ap, sym, subst, ◌∙◌}
use Rattle.std.proofs.lemmas.List.{take_more}
use Rattle.vpn_base.specs.declared.names.Freshness.{Freshness}
use Rattle.packet_ids.specs.LongFreshness.{LongHistory, long_begun, long_freshness}
use Rattle.packet_ids.specs.Runs.{WrapId, long_after, long_after_all, long_answers_to}
use Rattle.control_link.specs.Envelope.{EnvelopeHistory, EnvelopeStands, envelope_begun}
use Rattle.control_link.proofs.WrapLaws.{after_push, answers_push}
use Rattle.control_link.proofs.wraps.judge_wraps.Goals as goal

pub loop-time-preserved : goal.loop-time-preserved
loop-time-preserved g c =
    let i = c.loop-time.time-index in
    let arrivals = c.args.arrivals.now in
    let start : LongHistory = long_begun c.args.win c.args.win_secs in
    let before : LongHistory = long_after_all (take i arrivals) start in
    let with : EnvelopeHistory = envelope_begun (g.W.Wrap.wrapped c.args.wrap) c.args.own 0 c.args.win c.args.win_secs in
    let h : EnvelopeHistory = record with { accepted = before } in
    let e : WrapId = get_or arrivals i (0, 0, record { 0 = 0 }) in
    let more = take_more arrivals i (0, 0, record { 0 = 0 }) c.loop-time-test.true in
    let answer : c.judge_next.result ≡ long_freshness before e.0 e.1 e.2 = c.judge_next.ensures.answer h c.loop-time.invariant.stands in
    let stands : EnvelopeStands g.W.Wrap.wrapped c.judge_next.new.env (record with { accepted = long_after before e }) = c.judge_next.ensures.stands h c.loop-time.invariant.stands in
    record {
      told =
          c.in_ok-push.ensures.items ∙ ap (λ (t : List Freshness). t ++ c.judge_next.result ∷ []) c.loop-time.invariant.told
          ∙ ap (λ (r : Freshness). long_answers_to (take i arrivals) start ++ r ∷ []) answer ∙ sym (answers_push (take i arrivals) e start)
          ∙ ap (λ (wraps : List WrapId). long_answers_to wraps start) (sym more);
      stands =
          subst (λ (accepted : LongHistory). EnvelopeStands g.W.Wrap.wrapped c.judge_next.new.env (record with { accepted = accepted })) (sym (ap (λ (wraps : List WrapId). long_after_all wraps start) more ∙ after_push (take i arrivals) e start)) stands;
    }
