use Rattle.std.proofs.Common.{ℕ, List, length, nat_lt, subst, sym}
use Rattle.session_runs.specs.Runs.{event_comes, unseal_if}
use Rattle.session_runs.specs.declared.runs.SessionEvent.{SessionEvent}
use Rattle.session_runs.specs.internal.Courses.{HasCome}
use Rattle.session_runs.proofs.Courses.{ok_so}
use Rattle.session_runs.proofs.runs.event_comes.Goals as goal

pub returns-in-Message-clause-comes : goal.returns-in-Message-clause-comes
returns-in-Message-clause-comes g c = ok_so c.message_comes.result (λ answer comes p stands.
    subst (λ (e : SessionEvent). HasCome g.S.ClientSession.stands c.message_comes.new.session c.args.out.now c.args.out.now answer
    (event_comes (g.W.Wrap.unwrapped c.args.wrap.now) c.args.to p c.args.now e)) (sym c.in-Message.is) (comes p c.args.out.now stands)) c.message_comes.ensures.comes

pub returns-in-Unseal-clause-comes : goal.returns-in-Unseal-clause-comes
returns-in-Unseal-clause-comes g c = ok_so c.unseal_comes.result (λ answer comes p stands.
    subst (λ (e : SessionEvent). HasCome g.S.ClientSession.stands c.unseal_comes.new.session c.args.out.now c.args.out.now answer
    (event_comes (g.W.Wrap.unwrapped c.args.wrap.now) c.args.to p c.args.now e)) (sym c.in-Unseal.is)
    (subst (λ (bytes : List ℕ). HasCome g.S.ClientSession.stands c.unseal_comes.new.session c.args.out.now c.args.out.now answer
    (unseal_if (nat_lt 65536 (length bytes)) bytes c.args.now p)) c.as_slice-in-Unseal.ensures (comes p c.args.out.now stands))) c.unseal_comes.ensures.comes
