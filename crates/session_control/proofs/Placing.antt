-- To which key session a control packet goes.
use Rattle.std.proofs.Common.{◌≡◌, ℕ, false, Some, None, Err, refl, ap, sym, ◌∙◌}
use Rattle.std.specs.Prelude.{slice_get}
use Rattle.std.proofs.lemmas.Bool.{false≢true}
use Rattle.vpn_base.specs.declared.address.Addr.{Addr}
use Rattle.vpn_base.specs.declared.names.Freshness.{Freshness}
use Rattle.vpn_base.specs.declared.names.Freshness.TheVariants.{Fresh, Zero, Old, Seen, Late}
use Rattle.vpn_links.specs.Actions.{Contents}
use Rattle.packet_ids.specs.LongFreshness.{long_freshness}
use Rattle.tls_crypt.specs.Packets.{Wrapping}
use Rattle.control_link.specs.declared.envelope.Envelope.{Envelope}
use Rattle.control_link.specs.Envelope.{EnvelopeStands}
use Rattle.peer_table.specs.declared.outcomes.Refused.TheVariants.{BadKey, Replayed}
use Rattle.peer_table.specs.ControlPackets.{Incoming, begins_next, begun_by, control_came, judged, kid_in, placed, taken_by, wrap_accepted}
use Rattle.peer_table.specs.KeySessions.{Session, live_with}
use Rattle.peer_table.specs.Outboxes.{Leaves}
use Rattle.peer_table.specs.Peer.{Peer, answered}
use Rattle.session_state.specs.declared.session.SessionState.{SessionState}
use Rattle.session_state.specs.Standing.{IsPeerOf, PeerStands}
use Rattle.session_control.specs.internal.Taking.{is_fresh}
use Rattle.session_control.proofs.Taking.{all_stand, nothing_left}

stale_by : (p : Peer) (i : Incoming) (kind : Freshness) → is_fresh kind ≡ false → answered p (Err (Replayed i.packet.time i.packet.id)) ≡ judged p i kind
stale_by p i Fresh is = absurd (false≢true (sym is))
stale_by p i Zero is = refl
stale_by p i Old is = refl
stale_by p i Seen is = refl
stale_by p i Late is = refl

pub came_stale : (p : Peer) (i : Incoming) → is_fresh (long_freshness p.envelope.accepted i.packet.time i.packet.id i.moment) ≡ false →
    answered p (Err (Replayed i.packet.time i.packet.id)) ≡ control_came p i
unfolding control_came
came_stale p i is = stale_by p i (long_freshness p.envelope.accepted i.packet.time i.packet.id i.moment) is

pub came_fresh : (p : Peer) (i : Incoming) → long_freshness p.envelope.accepted i.packet.time i.packet.id i.moment ≡ Fresh →
    placed p i (live_with p.timers i.moment.0 p.sessions (kid_in i)) ≡ control_came p i
unfolding control_came
came_fresh p i fresh = ap (judged p i) (sym fresh)

pub placed_at : (p : Peer) (i : Incoming) (n : ℕ) (s : Session) → Some n ≡ live_with p.timers i.moment.0 p.sessions (kid_in i) → slice_get p.sessions n ≡ Some s →
    taken_by p i n (Some s) ≡ placed p i (live_with p.timers i.moment.0 p.sessions (kid_in i))
placed_at p i n s live at = ap (taken_by p i n) (sym at) ∙ ap (placed p i) live

pub placed_nowhere : (p : Peer) (i : Incoming) → None ≡ live_with p.timers i.moment.0 p.sessions (kid_in i) →
    begun_by p i (begins_next p i) ≡ placed p i (live_with p.timers i.moment.0 p.sessions (kid_in i))
placed_nowhere p i live = ap (placed p i) live

-- what is left where it goes to none: its wrap is accepted
pub refused_left : {W : Type 0} (wrapped : W → Wrapping) (before : SessionState W) (env : Envelope W) (c : Contents) (to : Addr) (p : Peer) (i : Incoming) → IsPeerOf wrapped before p →
    EnvelopeStands wrapped env (wrap_accepted i p.envelope) → Leaves (PeerStands wrapped) (record before { envelope = env }) c c to (begun_by p i false)
refused_left wrapped before env c to p i is envelope =
    nothing_left (PeerStands wrapped) (record before { envelope = env }) c to (record p { envelope = wrap_accepted i p.envelope }) (Err (BadKey (kid_in i)))
    (all_stand wrapped before env before.slots before.remote p.remote before.is_over p (wrap_accepted i p.envelope) p.sessions is envelope refl is.remote_is is.slots_stand is.whole is.sound is.each_goes_on)
