use Rattle.std.proofs.Common.{slice_get, option_map, sym, ap, ◌∙◌}
use Rattle.std.specs.Option.{option_copied}
use Rattle.client_table.specs.Changes.{item_at}
use Rattle.client_table.specs.Tables.{entries_of}
use Rattle.server_engine.proofs.Exchanged.{nowhere, peer_id_of}
use Rattle.server_engine.proofs.exchanging.peer_id_at.Goals as goal

pub unreachable-requires : goal.unreachable-requires
unreachable-requires g c =
    let es = entries_of c.args.core.now.clients in
    nowhere es c.args.i c.requires.within
    (ap option_copied (sym c.in_default.is) ∙ c.key.ensures.key
    ∙ ap (option_map (λ e. e.key)) (sym c.place-place.ensures.there ∙ ap (item_at es) (c.place-place.ensures.place ∙ c.requires.place)))

pub returns-clause-peer_id : goal.returns-clause-peer_id
returns-clause-peer_id g c =
    let es = entries_of c.args.core.now.clients in
    peer_id_of (slice_get es c.args.i) c.in-Some.key.now
    (ap option_copied (sym c.in-Some.is) ∙ c.key.ensures.key
    ∙ ap (option_map (λ e. e.key)) (sym c.place-place.ensures.there ∙ ap (item_at es) (c.place-place.ensures.place ∙ c.requires.place)))
