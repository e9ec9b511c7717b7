use Rattle.std.proofs.Common.{sym, subst, ◌∙◌, refl}
use Rattle.std.proofs.lemmas.List.{append-nil}
use Rattle.vpn_base.specs.declared.names.Role.TheVariants.{Server}
use Rattle.control_link.specs.Envelope.{EnvelopeStands, envelope_begun}
use Rattle.peer_table.specs.KeySessions.{session_begun}
use Rattle.peer_table.specs.Peer.{began, first_reset, wrap_time}
use Rattle.peer_session.proofs.begin.begin_server.Goals as goal

pub returns-clause-made : goal.returns-clause-made
unfolding began
returns-clause-made g c = λ to.
    let envelope = subst (λ time. EnvelopeStands g.W.Wrap.wrapped c.in_ok-envelope.envelope
    (envelope_begun (g.W.Wrap.wrapped c.args.wrap) c.args.own time c.args.timers.win c.args.timers.win_secs)) c.wrap_time.ensures c.in_ok-envelope.ensures in
    record {
      peer = c.session_of.ensures.stands (envelope_begun (g.W.Wrap.wrapped c.args.wrap) c.args.own (wrap_time c.args.now.0) c.args.timers.win c.args.timers.win_secs)
          (session_begun c.args.timers c.args.conn 0 (first_reset Server) c.args.now.0) envelope refl (c.in_ok-text.ensures c.args.now.0)
          (record { began = refl; is_open = refl; stage = refl; kid = refl; spent = refl });
      outbox = (c.in-Ok.ensures.ok.0, c.in-Ok.ensures.ok.1 ∙ sym (append-nil c.args.out.now.staged));
    }
