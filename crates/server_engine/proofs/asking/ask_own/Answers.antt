use Rattle.std.proofs.Common.{ℕ, List, [], subst, ap, ◌∙◌}
use Rattle.std.specs.Prelude.{unwrap_or}
use Rattle.server_table.specs.Table.{Awaited, Client}
use Rattle.server_engine.proofs.Asked.{known_name, same_client, set_after}
use Rattle.server_engine.proofs.Judged.{state_at}
use Rattle.server_engine.proofs.asking.ask_own.Goals as goal

pub returns-clause-asked : goal.returns-clause-asked
returns-clause-asked g c before course x h here fits =
    let means = g.S.ClientSession.stands in
    let core = c.args.core.now in
    let there = c.places_tell_of_clients.ensures.there core course.table c.args.cid.0 c.args.i h.table c.requires.place in
    let same = same_client _ there.client x there.client_there here in
    let name : List ℕ = unwrap_or x.session.name [] in
    set_after means core before course c.set_file.new.core c.args.out.now c.put_ask_own.new.out c.args.cid.0 name h
    (c.put_ask_own.ensures.put x.session
    (subst (λ (x : Client). means c.look_at.result.now.session x.session) same (state_at means core course.table c.args.cid.0 c.args.i c.look_at.result.now there c.look_at.ensures).session)
    fits)
    c.set_file.ensures.turn_stays c.set_file.ensures.mark_stays
    (c.set_file.ensures.set course.table c.args.cid.0 (Awaited name) h.table c.requires.place
    (λ y at. ap (λ (x : Client). x.session.name) (same_client _ y x at here) ∙ known_name c.args.longest x.session.name fits))
