-- What a control packet comes to at a client's session.
use Rattle.std.proofs.Common.{◌≡◌, ℕ, Bool, true, false, [], Option, Some, None, refl, Result}
use Rattle.std.specs.Prelude.{slice_get}
use Rattle.vpn_base.specs.declared.names.Freshness.{Freshness}
use Rattle.vpn_base.specs.declared.names.Freshness.TheVariants.{Fresh, Zero, Old, Seen, Late}
use Rattle.packet_ids.specs.LongFreshness.{long_freshness}
use Rattle.control_link.specs.Calls as link
use Rattle.peer_table.specs.declared.outcomes.Refused.{Refused}
use Rattle.peer_table.specs.declared.outcomes.Turn.{Turn}
use Rattle.peer_table.specs.ControlPackets.{Incoming, begins_next, begun_by, control_came, judged, kid_in, placed, sender, taken_as, taken_by}
use Rattle.peer_table.specs.KeySessions.{Session, live_with}
use Rattle.peer_table.specs.Peer.{Outcome, Peer}
use Rattle.control_laws.proofs.Lines.{lines_in}

abbrev pub how_fresh : Peer → Incoming → Freshness
how_fresh p i = long_freshness p.envelope.accepted i.packet.time i.packet.id i.moment

abbrev pub live_in : Peer → Incoming → Option ℕ
live_in p i = live_with p.timers i.moment.0 p.sessions (kid_in i)

-- no session took it; the live one with its key id did; or it began the next one
pub data ControlCame (p : Peer) (i : Incoming) (o : Outcome (Result Turn Refused)) : Type 0 where
  NotTaken : lines_in o.peer ≡ lines_in p → o.doings ≡ [] → ControlCame p i o
  Took : (k : ℕ) (s : Session) → how_fresh p i ≡ Fresh → slice_get p.sessions k ≡ Some s → live_in p i ≡ Some k →
      o ≡ taken_as p i k (link.received s.link p.envelope i.form (sender i) i.moment.0) → ControlCame p i o
  Began : how_fresh p i ≡ Fresh → live_in p i ≡ None → begins_next p i ≡ true → o ≡ begun_by p i true → ControlCame p i o

taken_came : (p : Peer) (i : Incoming) (k : ℕ) (s : Option Session) → how_fresh p i ≡ Fresh → slice_get p.sessions k ≡ s → live_in p i ≡ Some k → ControlCame p i (taken_by p i k s)
taken_came p i k None fresh there live = NotTaken refl refl
taken_came p i k (Some s) fresh there live = Took k s fresh there live refl

begun_came : (p : Peer) (i : Incoming) (b : Bool) → how_fresh p i ≡ Fresh → live_in p i ≡ None → begins_next p i ≡ b → ControlCame p i (begun_by p i b)
begun_came p i true fresh live begins = Began fresh live begins refl
begun_came p i false fresh live begins = NotTaken refl refl

placed_came : (p : Peer) (i : Incoming) (n : Option ℕ) → how_fresh p i ≡ Fresh → live_in p i ≡ n → ControlCame p i (placed p i n)
placed_came p i (Some k) fresh live = taken_came p i k (slice_get p.sessions k) fresh refl live
placed_came p i None fresh live = begun_came p i (begins_next p i) fresh live refl

judged_came : (p : Peer) (i : Incoming) (f : Freshness) → how_fresh p i ≡ f → ControlCame p i (judged p i f)
judged_came p i Fresh fresh = placed_came p i (live_in p i) fresh refl
judged_came p i Zero fresh = NotTaken refl refl
judged_came p i Old fresh = NotTaken refl refl
judged_came p i Seen fresh = NotTaken refl refl
judged_came p i Late fresh = NotTaken refl refl

pub what_came : (p : Peer) (i : Incoming) → ControlCame p i (control_came p i)
unfolding control_came
what_came p i = judged_came p i (how_fresh p i) refl
