-- What a client's session takes has a place.
use Rattle.std.proofs.Common.{◌≡◌, ℕ, Bool, true, false, length, List, Option, Some, None, Result, Ok, Err, refl, ap, sym, ◌∙◌, is_ok}
use Rattle.std.specs.Prelude.{slice_get, is_some}
use Rattle.std.proofs.lemmas.Bool.{false≢true}
use Rattle.vpn_base.specs.declared.names.Freshness.{Freshness}
use Rattle.vpn_base.specs.declared.names.Freshness.TheVariants.{Fresh, Zero, Old, Seen, Late}
use Rattle.vpn_base.specs.declared.names.Moment.{Moment}
use Rattle.packet_ids.specs.LongFreshness.{long_freshness}
use Rattle.control_link.specs.Calls as link
use Rattle.control_link.specs.Reading.{read_here}
use Rattle.peer_table.specs.declared.outcomes.SessionFault.TheVariants.{BadKey}
use Rattle.peer_table.specs.declared.outcomes.Turn.{Turn}
use Rattle.peer_table.specs.ControlPackets.{Incoming, begins_next, begun_by, control_came, judged, kid_in, most_in_order, next_session, placed, sender, taken_by, with_next}
use Rattle.peer_table.specs.DataPackets.{data_came, data_kid, opened_in}
use Rattle.peer_table.specs.KeySessions.{Session, live_with, session_at, usable_with}
use Rattle.peer_table.specs.Naming.{number_of, place_at, place_numbered}
use Rattle.peer_table.specs.Peer.{Peer}
use Rattle.server_table.specs.ControlDatagrams.{control_place}
use Rattle.server_table.specs.DataDatagrams.{data_place, place_found}
use Rattle.server_table.proofs.Places.{get_changed, get_last}

err_ok : {X Y : Type 0} {e : Y} {x : X} → Err e ≡ Ok x → ⊥
err_ok {X = X} {Y = Y} same = false≢true (ap (λ (r : Result X Y). is_ok r) same)

-- a key session that is there has a place
has_place : (p : Peer) (k : ℕ) (s : Session) → slice_get p.sessions k ≡ Some s → is_some (place_numbered k p) ≡ true
unfolding place_numbered
has_place p k s there = ap (λ (o : Option Session). is_some (place_at p (Some k) o)) there

-- ---- control packets

taken_has : (p : Peer) (i : Incoming) (k : ℕ) (s : Option Session) (turn : Turn) → slice_get p.sessions k ≡ s → (taken_by p i k s).answer ≡ Ok turn →
    is_some (place_numbered k (taken_by p i k s).peer) ≡ true
taken_has p i k None turn there e = absurd (err_ok e)
taken_has p i k (Some s) turn there e =
    let l = read_here most_in_order (link.received s.link p.envelope i.form (sender i) i.moment.0).link in
    has_place (taken_by p i k (Some s)).peer k (record s { link = l }) (get_changed k (λ (s : Session). record s { link = l }) p.sessions s there)

begun_has : (p : Peer) (i : Incoming) (b : Bool) (turn : Turn) → (begun_by p i b).answer ≡ Ok turn → is_some (place_numbered (length p.sessions) (begun_by p i b).peer) ≡ true
begun_has p i true turn e =
    let s = next_session i.next_conn i.moment.0 p in
    taken_has (with_next i.next_conn i.moment.0 p) i (length p.sessions) (Some s) turn (get_last p.sessions s) e
begun_has p i false turn e = absurd (err_ok e)

placed_has : (p : Peer) (i : Incoming) (n : Option ℕ) (turn : Turn) → (placed p i n).answer ≡ Ok turn → is_some (place_numbered (number_of p n) (placed p i n).peer) ≡ true
placed_has p i (Some k) turn e = taken_has p i k (slice_get p.sessions k) turn refl e
placed_has p i None turn e = begun_has p i (begins_next p i) turn e

judged_has : (p : Peer) (i : Incoming) (f : Freshness) (turn : Turn) → (judged p i f).answer ≡ Ok turn → is_some (control_place i p (judged p i f).peer) ≡ true
judged_has p i Fresh turn e = placed_has p i (live_with p.timers i.moment.0 p.sessions (kid_in i)) turn e
judged_has p i Zero turn e = absurd (err_ok e)
judged_has p i Old turn e = absurd (err_ok e)
judged_has p i Seen turn e = absurd (err_ok e)
judged_has p i Late turn e = absurd (err_ok e)

-- one that was taken has a place
pub control_has : (p : Peer) (i : Incoming) (turn : Turn) → (control_came p i).answer ≡ Ok turn → is_some (control_place i p (control_came p i).peer) ≡ true
unfolding control_came
control_has p i turn e = judged_has p i (long_freshness p.envelope.accepted i.packet.time i.packet.id i.moment) turn e

-- ---- data packets

found_by : (p : Peer) (datagram : List ℕ) (now : Moment) (n : Option ℕ) (s : Option Session) → session_at p.sessions n ≡ s → is_some (place_found n p) ≡ false →
    (opened_in p datagram now n s).answer ≡ Err (BadKey (data_kid datagram))
found_by p datagram now None s there e = refl
found_by p datagram now (Some k) None there e = refl
found_by p datagram now (Some k) (Some s) there e = absurd (false≢true (sym e ∙ has_place p k s there))

-- one that has no place is refused for its key id
pub data_has : (p : Peer) (datagram : List ℕ) (now : Moment) → is_some (data_place now.0 datagram p) ≡ false → (data_came datagram now p).answer ≡ Err (BadKey (data_kid datagram))
unfolding data_came
data_has p datagram now e =
    let n = usable_with p.timers now.0 p.sessions (data_kid datagram) in
    found_by p datagram now n (session_at p.sessions n) refl e
