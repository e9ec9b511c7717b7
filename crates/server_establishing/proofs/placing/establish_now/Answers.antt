use Rattle.std.proofs.Common.{option_map, sym, ap, subst, ◌∙◌}
use Rattle.server_table.specs.Establishing.{ccd_in, established_for, established_with}
use Rattle.server_state.specs.Core.{CourseStands}
use Rattle.server_establishing.specs.Ahead.{RepliesStand, lease_of}
use Rattle.server_establishing.proofs.Placed.{sound_but}
use Rattle.server_establishing.proofs.placing.establish_now.Goals as goal

pub returns-in-None-clause-sound : goal.returns-in-None-clause-sound
returns-in-None-clause-sound g c h =
    c.end.ensures.sound (sound_but g.S.ClientSession.goes_on g.S.ClientSession.count g.S.ClientSession.since c.args.cid.0 c.args.core.now h)

pub returns-in-Some-clause-established : goal.returns-in-Some-clause-established
returns-in-Some-clause-established g c before course x h there of =
    let stands = CourseStands g.S.ClientSession.stands before c.establish_at.new.core c.establish_at.new.out in
    subst (λ o. stands (established_for c.args.cid.0 c.args.conn course o)) (sym there)
    (subst (λ o. stands (established_with c.args.cid.0 c.args.conn x course o)) (sym (ap (option_map lease_of) c.in-Some.is) ∙ of.lease)
    (c.establish_at.ensures.established before course x h there of.not_yet of.name of.file
    (subst (RepliesStand course.table.settings (ccd_in x.file) x.peer_id) c.in-Some.is of.replies)))
