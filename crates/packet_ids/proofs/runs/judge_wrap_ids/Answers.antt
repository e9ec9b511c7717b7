use Rattle.std.proofs.Common.{◌≡◌, List, [], ◌∷◌, ◌++◌, get_or, take, ap, sym, subst, ◌∙◌}
use Rattle.std.proofs.lemmas.List.{take_more}
use Rattle.vpn_base.specs.declared.names.Freshness.{Freshness}
use Rattle.packet_ids.specs.LongFreshness.{LongHistory, long_begun, long_freshness}
use Rattle.packet_ids.specs.LongWindows.{LongStands}
use Rattle.packet_ids.specs.Runs.{WrapId, long_after, long_answers_to, long_after_all}
use Rattle.packet_ids.proofs.RunLaws.{long_answers_to-push, long_after_all-push}
use Rattle.packet_ids.proofs.runs.judge_wrap_ids.Goals as goal

pub loop-time-preserved : goal.loop-time-preserved
loop-time-preserved c =
    let i = c.loop-time.time-index in
    let arrivals = c.args.arrivals.now in
    let start : LongHistory = long_begun c.args.n c.args.t in
    let before : LongHistory = long_after_all (take i arrivals) start in
    let e : WrapId = get_or arrivals i (0, 0, record { 0 = 0 }) in
    let more = take_more arrivals i (0, 0, record { 0 = 0 }) c.loop-time-test.true in
    let answer : c.judge_next_wrap.result ≡ long_freshness before e.0 e.1 e.2 = c.judge_next_wrap.ensures.answer before c.loop-time.invariant.stands in
    let stands : LongStands c.judge_next_wrap.new.window (long_after before e) = c.judge_next_wrap.ensures.stands before c.loop-time.invariant.stands in
    record {
      told =
          c.in_ok-push.ensures.items ∙ ap (λ (t : List Freshness). t ++ c.judge_next_wrap.result ∷ []) c.loop-time.invariant.told
          ∙ ap (λ (r : Freshness). long_answers_to (take i arrivals) start ++ r ∷ []) answer ∙ sym (long_answers_to-push (take i arrivals) e start)
          ∙ ap (λ (es : List WrapId). long_answers_to es start) (sym more);
      stands = subst (λ (h : LongHistory). LongStands c.judge_next_wrap.new.window h) (sym (ap (λ (es : List WrapId). long_after_all es start) more ∙ long_after_all-push (take i arrivals) e start)) stands;
    }
