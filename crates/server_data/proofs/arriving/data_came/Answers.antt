use Rattle.std.proofs.Common.{ℕ, Option, false, option_map, subst, sym, ap, ◌∙◌}
use Rattle.vpn_base.specs.declared.names.Cid.{Cid}
use Rattle.server_table.specs.DataDatagrams as server
use Rattle.server_table.specs.Lookups.{by_peer_id}
use Rattle.server_state.specs.Core.{CourseStands}
use Rattle.server_data.proofs.arriving.data_came.Goals as goal

pub returns-in-None-clause-came : goal.returns-in-None-clause-came
unfolding server.data_came
returns-in-None-clause-came g c before course f same h =
    let means = g.S.ClientSession.stands in
    let d : server.FromWire = record { from = c.args.from; bytes = c.args.bytes.now; lacks = false } in
    subst (λ (p : ℕ). CourseStands means before c.args.core.now c.report.new.out (server.data_at d p course (by_peer_id course.table p))) (sym same)
    (subst (λ o. CourseStands means before c.args.core.now c.report.new.out (server.data_at d c.args.peer_id course o))
    (sym (ap (λ (o : Option Cid). option_map (λ cid. cid.0) o) c.in-None.is) ∙ c.by_peer_id.ensures course.table h.table)
    (c.report.ensures.reported before course h))

pub returns-in-Some-clause-came : goal.returns-in-Some-clause-came
unfolding server.data_came
returns-in-Some-clause-came g c before course f same h =
    let means = g.S.ClientSession.stands in
    let d : server.FromWire = record { from = c.args.from; bytes = c.args.bytes.now; lacks = c.open_for.result } in
    subst (λ (p : ℕ). CourseStands means before c.open_for.new.core c.open_for.new.out (server.data_at d p course (by_peer_id course.table p))) (sym same)
    (subst (λ o. CourseStands means before c.open_for.new.core c.open_for.new.out (server.data_at d c.args.peer_id course o))
    (sym (ap (λ (o : Option Cid). option_map (λ cid. cid.0) o) c.in-Some.is) ∙ c.by_peer_id.ensures course.table h.table)
    (c.open_for.ensures.came before course h))
