use Rattle.std.proofs.Common.{false, List, ap, refl, ◌++◌, ◌∙◌}
use Rattle.session_runs.specs.Runs.{Course, EventAt, course_begun}
use Rattle.session_runs.proofs.Courses.{at_begun, run_so}
use Rattle.session_runs.proofs.runs.run_any.Goals as goal

pub returns-clause-answers : goal.returns-clause-answers
returns-clause-answers g c =
    let setup = c.args.setup.now in
    let key = c.args.key.now.0 in
    let before = c.args.out.now in
    let events : List EventAt = c.args.events.now in
    let at = c.in-Ok-run_all.ensures before.effects before.staged (course_begun setup key)
    (at_begun g.S.ClientSession.stands (record { session = c.in-Ok.session; latest = setup.began; is_over = false; answers = c.new.result }) before c.begin.new.out setup key c.in-Ok.ensures.made refl refl c.new.ensures.items) in
    at.answers ∙ ap (λ (course : Course). course.answers) (run_so setup key events c.new-wrap.result c.new-wrap.ensures)

pub returns-clause-outbox : goal.returns-clause-outbox
returns-clause-outbox g c =
    let setup = c.args.setup.now in
    let key = c.args.key.now.0 in
    let before = c.args.out.now in
    let events : List EventAt = c.args.events.now in
    let same = run_so setup key events c.new-wrap.result c.new-wrap.ensures in
    let at = c.in-Ok-run_all.ensures before.effects before.staged (course_begun setup key)
    (at_begun g.S.ClientSession.stands (record { session = c.in-Ok.session; latest = setup.began; is_over = false; answers = c.new.result }) before c.begin.new.out setup key c.in-Ok.ensures.made refl refl c.new.ensures.items) in
    (at.outbox.0 ∙ ap (λ (course : Course). before.effects ++ course.effects) same, at.outbox.1 ∙ ap (λ (course : Course). before.staged ++ course.staged) same)
