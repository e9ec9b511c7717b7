use Rattle.std.proofs.Common.{◌≡◌, ℕ, List, Option, Some, sym}
use Rattle.server_table.specs.Establishing.{ccd_in}
use Rattle.server_table.specs.Lookups.{client_here}
use Rattle.server_table.specs.Table.{Client, FileState, Table}
use Rattle.server_state.specs.Core.{CoreStands, FileStands}
use Rattle.server_answers.proofs.Looked.{file_stands}
use Rattle.server_answers.proofs.Readied.{if_ok}
use Rattle.server_answers.proofs.ahead.file_at.Goals as goal

pub returns : goal.returns
returns g c =
    let means = g.S.ClientSession.stands in
    let core = c.args.core.now in
    let n = core.turn.0 in
    if_ok (λ file. (name : Option (List ℕ)) (s : FileState) → FileStands name c.look_at.result.now.file s → file ≡ ccd_in s)
    (λ file. (t : Table) (x : Client) → CoreStands means core t → client_here t n ≡ Some x → ccd_in x.file ≡ file)
    c.copy_known.result c.copy_known.ensures
    (λ file of t x h there.
    sym (of x.session.name x.file
    (file_stands means core t n c.args.i (c.places_tell_of_clients.ensures.there core t n c.args.i h c.requires.at.place) c.look_at.result.now c.look_at.ensures x there)))
