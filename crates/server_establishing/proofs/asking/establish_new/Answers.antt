use Rattle.std.proofs.Common.{◌≤◌, ◌+◌, sym, ap, subst, ◌∙◌}
use Rattle.server_table.specs.Establishing.{client_established}
use Rattle.server_establishing.specs.declared.asking.Prepared.{Prepared}
use Rattle.server_establishing.specs.Ahead.{bytes_with, effects_with, replies_in}
use Rattle.server_establishing.specs.internal.Asking.{prepared_after}
use Rattle.server_establishing.specs.Prepared.{IsPrepared, prepared_bytes, prepared_effects}
use Rattle.server_establishing.proofs.Asked.{prepared_is, room_after}
use Rattle.server_establishing.proofs.Kept.{again_then}
use Rattle.server_establishing.proofs.asking.establish_new.Goals as goal

pub returns-clause-established : goal.returns-clause-established
returns-clause-established g c before course x h there of = c.establish.ensures.established before course x h there of.not_yet of.name of.file of.made

pub returns-clause-prepared : goal.returns-clause-prepared
returns-clause-prepared g c course x y there of is =
    let then = client_established c.args.cid.0 c.args.conn course in
    subst (IsPrepared then c.args.cid.0 y) (sym (c.prepared_after.ensures ∙ ap prepared_after c.establish.ensures.replies))
    (prepared_is then c.args.cid.0 y (replies_in c.args.ahead.lease)
    (again_then course c.args.cid.0 c.args.conn c.args.ahead x y there of.not_yet of.name of.file of.made is))

pub returns-clause-less : goal.returns-clause-less
returns-clause-less g c =
    let ahead = c.args.ahead in
    subst (λ (p : Prepared). (prepared_effects p ≤ 5 + effects_with ahead.file ahead.lease) × (prepared_bytes p ≤ 39 + bytes_with ahead.file ahead.lease))
    (sym (c.prepared_after.ensures ∙ ap prepared_after c.establish.ensures.replies)) (room_after ahead.file ahead.lease)
