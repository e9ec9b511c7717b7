use Rattle.std.proofs.Common.{rules, ◌≡◌, None, Option, Result, IfOk, OnErr, OnOk, sym, subst}
use Rattle.vpn_base.specs.declared.errors.NoMemory.{NoMemory}
use Rattle.opcode_codec.specs.ControlText.{control_form}
use Rattle.control_link.specs.declared.link.LinkEnd.{LinkEnd}
use Rattle.control_link.specs.Calls.{Left, Outcome, got_by, received, unchanged}
use Rattle.control_link.specs.Links.{LinkStands}
use Rattle.peer_lines.proofs.Taking.{end_of, kept_of, taken_of}
use Rattle.peer_lines.proofs.reading.take_packet.Goals as goal

pub returns-clause-taken : goal.returns-clause-taken
returns-clause-taken g c = λ is_open l h stands wraps.
    let here : LinkStands c.link.inside.link l = search rules in
    let P : Outcome → Type 0 = λ o. Left g.W.Wrap.wrapped c.on_packet-answer.new.self c.on_packet-answer.new.env c.args.out.now c.on_packet-answer.new.out c.args.to o in
    let o : Outcome = received l h (control_form c.args.view.now) c.args.remote c.args.now.0 in
    subst (λ (r : Result (Option LinkEnd) NoMemory). OnOk r (P o)) (sym c.end_of.ensures)
    (taken_of c.on_packet-answer.result P o (unchanged l h None) (c.on_packet-answer.ensures.left l h here wraps))

pub returns-clause-kept : goal.returns-clause-kept
returns-clause-kept g c = λ is_open l h stands wraps.
    let here : LinkStands c.link.inside.link l = search rules in
    let P : Outcome → Type 0 = λ o. Left g.W.Wrap.wrapped c.on_packet-answer.new.self c.on_packet-answer.new.env c.args.out.now c.on_packet-answer.new.out c.args.to o in
    let o : Outcome = received l h (control_form c.args.view.now) c.args.remote c.args.now.0 in
    subst (λ (r : Result (Option LinkEnd) NoMemory). OnErr r (P (unchanged l h None))) (sym c.end_of.ensures)
    (kept_of c.on_packet-answer.result P o (unchanged l h None) (c.on_packet-answer.ensures.left l h here wraps))

pub returns-clause-end : goal.returns-clause-end
returns-clause-end g c = λ is_open l h stands wraps.
    let here : LinkStands c.link.inside.link l = search rules in
    let o : Outcome = received l h (control_form c.args.view.now) c.args.remote c.args.now.0 in
    subst (λ (r : Result (Option LinkEnd) NoMemory). IfOk r (λ told. o.end ≡ told)) (sym c.end_of.ensures)
    (end_of c.on_packet-answer.result (got_by l.receiving c.args.view.now.id) o.end (c.on_packet-answer.ensures.answer l h here wraps))
