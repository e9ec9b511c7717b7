use Rattle.std.proofs.Common.{◌++◌, ◌∷◌, [], ap, sym, subst, ◌∙◌, refl, arith}
use Rattle.std.specs.Prelude.{replicate}
use Rattle.vpn_base.specs.declared.names.Role.TheVariants.{Client}
use Rattle.vpn_base.specs.declared.names.Sid.{Sid}
use Rattle.vpn_links.specs.Actions.{EngineOpen, Holds}
use Rattle.control_link.specs.Calls.{datagrams_to, with_ready}
use Rattle.control_link.specs.Envelope.{EnvelopeStands, envelope_begun}
use Rattle.peer_table.specs.KeySessions.{session_begun}
use Rattle.peer_table.specs.Peer.{began, first_reset, wrap_time}
use Rattle.peer_lines.specs.Calls.{begun_sent}
use Rattle.session_state.proofs.Ends.{ok_value}
use Rattle.session_state.proofs.Lines.{ready_keeps}
use Rattle.peer_session.proofs.Resets.{settled_only}
use Rattle.peer_session.proofs.begin.begin_client.Goals as goal

pub returns-clause-made : goal.returns-clause-made
unfolding began begun_sent
returns-clause-made g c =
    let h = envelope_begun (g.W.Wrap.wrapped c.args.wrap) c.args.own (wrap_time c.args.now.0) c.args.timers.win c.args.timers.win_secs in
    let s = session_begun c.args.timers c.args.conn 0 (first_reset Client) c.args.now.0 in
    let envelope = subst (λ time. EnvelopeStands g.W.Wrap.wrapped c.in_ok-envelope.envelope
    (envelope_begun (g.W.Wrap.wrapped c.args.wrap) c.args.own time c.args.timers.win c.args.timers.win_secs)) c.wrap_time.ensures c.in_ok-envelope.ensures in
    let left = c.in-Ok.ensures.left s h (c.in_ok-text.ensures c.args.now.0) refl envelope in
    let remote : Sid = record { 0 = replicate 8 0 } in
    let o = with_ready s.link h [] remote c.args.now.0 in
    let keeps = ready_keeps s.link h [] remote c.args.now.0 in
    let end = c.in-Ok.ensures.answer s h (c.in_ok-text.ensures c.args.now.0) refl envelope in
    let resets = settled_only (datagrams_to c.args.to o.datagrams) c.in_ok-resets.resets c.send_ready.new.out c.settle.new.self c.in_ok-resets.ensures.empty (left.outbox Client) c.settle.ensures.settled in
    let staged = c.in-Ok-stage_only.ensures.staged o.datagrams resets in
    let added : Holds c.add-added.new.self (c.stage_only.new.out.effects ++ EngineOpen c.args.conn Client ∷ []) c.stage_only.new.out.staged =
    ok_value c.add-added.result _ (c.add-added.ensures.fits (omega (arith, c.in-Ok-reserve.ensures.ok.0, c.in-Ok-stage_only.ensures.uses.effects_left)) (omega arith)) c.add-added.ensures.ok in
    record {
      peer = c.session_of.ensures.stands o.envelope (record s { link = o.link }) left.envelope (sym keeps.own) left.session
          (record { began = refl; is_open = refl; stage = refl; kid = keeps.kid; spent = keeps.goes_on refl end });
      outbox = (
        added.0 ∙ ap (λ es. es ++ EngineOpen c.args.conn Client ∷ []) (staged.0 ∙ c.reserve.ensures.same.0),
        added.1 ∙ staged.1 ∙ ap (λ ds. ds ++ datagrams_to c.args.to o.datagrams) c.reserve.ensures.same.1,
      );
    }
