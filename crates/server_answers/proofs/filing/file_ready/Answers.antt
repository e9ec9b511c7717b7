use Rattle.std.proofs.Common.{sym, subst, ◌∙◌}
use Rattle.vpn_base.specs.declared.names.Cid.{Cid}
use Rattle.server_table.specs.Engine.{file_is}
use Rattle.server_table.specs.Table.{Known}
use Rattle.server_state.specs.Core.{CourseStands}
use Rattle.server_answers.proofs.Filed.{no_more, prepared_with}
use Rattle.server_answers.proofs.Going.{file_here, follow_in_turn, kept_only, ready_still, with_file}
use Rattle.server_answers.proofs.Looked.{none_of}
use Rattle.server_answers.proofs.Readied.{exchange_beside, outbox_same}
use Rattle.server_answers.proofs.filing.file_ready.Goals as goal

pub know_file-requires-clause-place : goal.know_file-requires-clause-place
know_file-requires-clause-place g c =
    let mid = c.prepare_new.new.core in
    (exchange_beside c.args.core.now mid mid.routes mid.pool mid.held c.args.i c.prepare_new.ensures.only g.S.ClientSession.may_exchange c.requires.ready).place

pub know_file-requires-clause-within : goal.know_file-requires-clause-within
know_file-requires-clause-within g c =
    let mid = c.prepare_new.new.core in
    (exchange_beside c.args.core.now mid mid.routes mid.pool mid.held c.args.i c.prepare_new.ensures.only g.S.ClientSession.may_exchange c.requires.ready).within

pub follow_exchange-requires-clause-ready : goal.follow_exchange-requires-clause-ready
follow_exchange-requires-clause-ready g c =
    let mid = c.prepare_new.new.core in
    ready_still g.S.ClientSession.may_exchange mid c.know_file.new.core c.args.i c.know_file.ensures.ready c.know_file.ensures.turn_stays
    (exchange_beside c.args.core.now mid mid.routes mid.pool mid.held c.args.i c.prepare_new.ensures.only g.S.ClientSession.may_exchange c.requires.ready)

pub follow_exchange-requires-clause-kept : goal.follow_exchange-requires-clause-kept
follow_exchange-requires-clause-kept g c =
    kept_only c.prepare_new.new.core c.know_file.new.core c.in-Ok-prepare_new.prepared c.know_file.ensures.only c.in-Ok-prepare_new.ensures.kept

pub follow_exchange-requires-clause-first : goal.follow_exchange-requires-clause-first
follow_exchange-requires-clause-first g c = c.know_file.ensures.mark_stays ∙ c.prepare_new.ensures.stays.mark ∙ c.requires.mark

pub follow_exchange-requires-clause-sound : goal.follow_exchange-requires-clause-sound
follow_exchange-requires-clause-sound g c =
    c.know_file.ensures.sound (c.a_core_ahead_is_sound.ensures c.prepare_new.new.core (c.prepare_new.ensures.stays.ahead c.requires.sound))

pub returns-clause-known : goal.returns-clause-known
returns-clause-known g c before course x h there =
    let means = g.S.ClientSession.stands in
    let core = c.args.core.now in
    let n = core.turn.0 in
    let mid = c.prepare_new.new.core in
    let file = c.args.file in
    let stays = c.prepare_new.ensures.stays in
    let p = c.in-Ok-prepare_new.prepared in
    let ready = outbox_same means before mid c.args.out.now c.reserve_exchange.new.out course (stays.same before c.args.out.now course h) c.reserve_exchange.ensures.same in
    let known = subst (λ (who : Cid). CourseStands means before c.know_file.new.core c.reserve_exchange.new.out (file_is who.0 (Known file) course)) stays.turn
    (c.know_file.ensures.known before c.reserve_exchange.new.out course ready) in
    follow_in_turn means before c.know_file.new.core c.follow_exchange.new.core c.reserve_exchange.new.out c.follow_exchange.new.out c.args.draw.now core.turn (file_is n (Known file) course) p c.in-Ok.left
    (c.know_file.ensures.turn_stays ∙ stays.turn) (λ d y hd at of less. c.follow_exchange.ensures.followed before d y hd at of less) known (with_file (Known file) x)
    (file_here n (Known file) course x there)
    (prepared_with c.what_is_made_stays.ensures n course x c.in-Ok-own_name_at.name c.as_slice.result.now file p there
    (none_of x.established (sym (c.is_established.ensures course.table x h.table there) ∙ c.if-is_established.false)) c.as_slice.ensures
    (c.in-Ok-own_name_at.ensures course.table x h.table there) (c.in-Ok-prepare_new.ensures.made course h.table))
    (no_more x.session c.in-Ok.left (c.in-Ok.ensures course.table x h.table there))
