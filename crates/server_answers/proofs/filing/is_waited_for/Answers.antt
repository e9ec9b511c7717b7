use Rattle.std.proofs.Common.{sym, ap, ◌∙◌}
use Rattle.server_answers.specs.internal.Filing.{is_waited_for}
use Rattle.server_answers.proofs.Looked.{file_stands}
use Rattle.server_answers.proofs.filing.is_waited_for.Goals as goal

pub returns-in-Some : goal.returns-in-Some
returns-in-Some g c t h =
    let core = c.args.core.now in
    let l = c.places_tell_of_clients.ensures.there core t c.args.cid.0 c.in-Some.i h (sym c.place.ensures.place ∙ c.in-Some.is) in
    c.awaits.ensures l.client.session.name l.client.file
    (file_stands g.S.ClientSession.stands core t c.args.cid.0 c.in-Some.i l c.look_at.result.now c.look_at.ensures l.client l.client_there)
    ∙ sym (ap is_waited_for l.client_there)
