use Rattle.std.proofs.Common.{subst, sym}
use Rattle.server_table.specs.DataDatagrams as server
use Rattle.server_state.specs.Core.{CourseStands}
use Rattle.server_data.proofs.Opened.{stale_is}
use Rattle.server_data.proofs.opening.refuse.Goals as goal

pub returns-in-Stale-clause-refused : goal.returns-in-Stale-clause-refused
returns-in-Stale-clause-refused g c before course d x same h =
    let means = g.S.ClientSession.stands in
    subst (λ fault. CourseStands means before (record c.args.core.now { last_taken = c.args.went }) c.report-in-Stale.new.out (server.refused d c.args.cid.0 x course fault)) (sym c.in-Stale.is)
    (c.report-in-Stale.ensures.reported before (record course { table = server.went_to (server.data_place course.table.moment d.bytes x.session) course.table })
    (stale_is means before c.args.core.now c.args.out.now course c.args.went (server.data_place course.table.moment d.bytes x.session) h same))
