use Rattle.std.proofs.Common.{◌≡◌, ap, sym, ◌∙◌}
use Rattle.vpn_base.specs.declared.names.Timers.{Timers}
use Rattle.peer_table.specs.KeySessions.{session_at}
use Rattle.peer_table.specs.Time.{retired}
use Rattle.key_sessions.proofs.Coming.{closing_so, retired_there, some_so}
use Rattle.key_sessions.proofs.runs.retire_comes.Goals as goal

pub returns-clause-comes : goal.returns-clause-comes
returns-clause-comes c = λ known p at.
    let tran : p.timers.tran ≡ c.args.setup.now.timers.tran = ap (λ (t : Timers). t.tran) at.timers in
    record {
      at = record {
        stands = c.close_retired.ensures.stands p at.stands tran;
        whole = c.close_retired.ensures.whole;
        name = at.name;
        timers = at.timers;
      };
      answer_is = c.closing.ensures ∙ closing_so c.close_retired.result (session_at p.sessions (retired p c.args.now.0))
          (c.close_retired.ensures.some p at.stands tran ∙ sym (retired_there p c.args.now.0))
          (some_so c.close_retired.result (λ text each s there. each p s at.stands tran there) c.close_retired.ensures.text);
    }
