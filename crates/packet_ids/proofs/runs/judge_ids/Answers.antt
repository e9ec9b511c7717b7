use Rattle.std.proofs.Common.{◌≡◌, List, [], ◌∷◌, ◌++◌, get_or, take, ap, sym, subst, ◌∙◌}
use Rattle.std.proofs.lemmas.List.{take_more}
use Rattle.vpn_base.specs.declared.names.Freshness.{Freshness}
use Rattle.packet_ids.specs.Freshness.{Accepted, History, begun, freshness}
use Rattle.packet_ids.specs.Window.{Stands}
use Rattle.packet_ids.specs.Runs.{after, answers_to, after_all}
use Rattle.packet_ids.proofs.RunLaws.{answers_to-push, after_all-push}
use Rattle.packet_ids.proofs.runs.judge_ids.Goals as goal

pub loop-id-preserved : goal.loop-id-preserved
loop-id-preserved c =
    let i = c.loop-id.id-index in
    let arrivals = c.args.arrivals.now in
    let start : History = begun c.args.n c.args.t in
    let before : History = after_all (take i arrivals) start in
    let e : Accepted = get_or arrivals i (0, record { 0 = 0 }) in
    let more = take_more arrivals i (0, record { 0 = 0 }) c.loop-id-test.true in
    let answer : c.judge_next.result ≡ freshness before e.0 e.1 = c.judge_next.ensures.answer before c.loop-id.invariant.stands in
    let stands : Stands c.judge_next.new.window (after before e) = c.judge_next.ensures.stands before c.loop-id.invariant.stands in
    record {
      told =
          c.in_ok-push.ensures.items ∙ ap (λ (t : List Freshness). t ++ c.judge_next.result ∷ []) c.loop-id.invariant.told
          ∙ ap (λ (r : Freshness). answers_to (take i arrivals) start ++ r ∷ []) answer ∙ sym (answers_to-push (take i arrivals) e start)
          ∙ ap (λ (es : List Accepted). answers_to es start) (sym more);
      stands = subst (λ (h : History). Stands c.judge_next.new.window h) (sym (ap (λ (es : List Accepted). after_all es start) more ∙ after_all-push (take i arrivals) e start)) stands;
    }
