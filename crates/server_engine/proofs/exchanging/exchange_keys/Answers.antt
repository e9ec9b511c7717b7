use Rattle.std.proofs.Common.{subst}
use Rattle.vpn_base.specs.declared.names.Cid.{Cid}
use Rattle.peer_table.specs.Exchange.{cipher_of, exchanged}
use Rattle.server_table.specs.Courses.{acted}
use Rattle.server_table.specs.Endings.{turned}
use Rattle.server_table.specs.Exchange.{policy_with}
use Rattle.server_state.specs.Core.{CourseStands}
use Rattle.server_engine.proofs.exchanging.exchange_keys.Goals as goal

pub returns-clause-exchanged : goal.returns-clause-exchanged
returns-clause-exchanged g c before course x h here =
    let means = g.S.ClientSession.stands in
    let core = c.args.core.now in
    let o = exchanged (policy_with course.table.settings.ciphers (cipher_of x.session)) x.peer_id c.args.draw.now x.session in
    let after = acted core.turn.0 x.address o course in
    subst (λ turn. CourseStands means before c.end_if_over.new.core c.end_if_over.new.out (turned core.turn.0 turn after)) (c.call_exchange-turn.ensures.answer course.table x h.table here)
    (subst (λ (who : Cid). CourseStands means before c.end_if_over.new.core c.end_if_over.new.out (turned who.0 c.call_exchange-turn.result after)) c.call_exchange-turn.ensures.turn_stays
    (c.end_if_over.ensures.turned before after (c.call_exchange-turn.ensures.acted before course x h here)))
