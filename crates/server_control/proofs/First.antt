-- The first control packet of a client.
use Rattle.std.proofs.Common.{◌≡◌, ℕ, ◌==◌, true, false, [], ◌∷◌, Some, None, Result, refl, ap, ◌∙◌, arith}
use Rattle.std.proofs.lemmas.Grind.{common_steps}
use Rattle.vpn_base.specs.declared.names.Conn.{Conn}
use Rattle.vpn_base.specs.declared.names.Freshness.TheVariants.{Fresh}
use Rattle.vpn_base.specs.declared.names.Moment.{Moment}
use Rattle.vpn_base.specs.declared.names.Role.TheVariants.{Server}
use Rattle.vpn_base.specs.declared.names.Sid.{Sid}
use Rattle.vpn_base.specs.declared.names.Timers.{Timers}
use Rattle.packet_ids.specs.LongFreshness.{long_freshness}
use Rattle.tls_crypt.specs.Packets.{Wrapping}
use Rattle.opcode_codec.specs.declared.opcodes.Opcode.TheVariants.{ServerReset}
use Rattle.peer_table.specs.declared.outcomes.Refused.{Refused}
use Rattle.peer_table.specs.declared.outcomes.Turn.{Turn}
use Rattle.peer_table.specs.ControlPackets.{Incoming, control_came, judged, kid_in, placed, sender, taken_by}
use Rattle.peer_table.specs.KeySessions.{Session, live_with, session_begun}
use Rattle.peer_table.specs.Peer.{Outcome, Peer, began, peer_begun}
use Rattle.server_table.specs.Courses.{opened_by}
use Rattle.server_control.proofs.Came.{taken_quiet}

-- a packet with a wrap id above 0 is fresh where nothing was accepted
fresh_first : (time id : ℕ) (now : Moment) (width seconds : ℕ) → (id == 0) ≡ false
    → long_freshness (record { width = width; seconds = seconds; accepted = [] }) time id now ≡ Fresh
unfolding long_freshness
fresh_first time id now width seconds used = rw (used) refl

-- key id 0 is that of the newest session, where session 0 is
live_first : (timers : Timers) (now : ℕ) (s : Session) (kid : ℕ) → (kid == 0) ≡ true → live_with timers now (s ∷ []) kid ≡ Some 0
unfolding live_with
live_first timers now s kid zero =
    let is : (0 == kid) ≡ true = grind (arith, common_steps) in
    rw (is) refl

module _ (wraps : Wrapping) (own : Sid) (timers : Timers) (conn : Conn) (now : ℕ) (i : Incoming) (used : (i.packet.id == 0) ≡ false) (first : (kid_in i == 0) ≡ true) where
  abbrev pub p : Peer
  p = peer_begun Server wraps own timers conn now

  abbrev pub s : Session
  s = session_begun timers conn 0 ServerReset now

  came_first : control_came p i ≡ taken_by p i 0 (Some s)
  unfolding control_came
  came_first =
      ap (judged p i) (fresh_first i.packet.time i.packet.id i.moment timers.win timers.win_secs used)
      ∙ ap (placed p i) (live_first timers i.moment.0 s (kid_in i) first)

  -- its session id is fixed, its name is not known, and no connection is opened by it
  pub first_remote : (control_came p i).peer.remote ≡ Some (sender i)
  first_remote = ap (λ (o : Outcome (Result Turn Refused)). o.peer.remote) came_first

  pub first_name : (control_came p i).peer.name ≡ None
  first_name = ap (λ (o : Outcome (Result Turn Refused)). o.peer.name) came_first

  pub first_opens : opened_by (control_came p i).doings ≡ 0
  first_opens = ap (λ (o : Outcome (Result Turn Refused)). opened_by o.doings) came_first ∙ taken_quiet p i 0 s

  pub began_opens : opened_by (began Server wraps own timers conn now).doings ≡ 1
  unfolding began
  began_opens = refl

  pub began_remote : (control_came (began Server wraps own timers conn now).peer i).peer.remote ≡ Some (sender i)
  unfolding began
  began_remote = first_remote

  pub first_quiet : opened_by (control_came (began Server wraps own timers conn now).peer i).doings ≡ 0
  unfolding began
  first_quiet = first_opens
