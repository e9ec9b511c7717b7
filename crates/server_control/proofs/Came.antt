-- What a control packet leaves of a client's session.
use Rattle.std.proofs.Common.{◌≡◌, ℕ, suc, ◌≤◌, Bool, true, false, List, [], ◌∷◌, length, slice_get, Option, Some, None, Result, refl, ap, arith}
use Rattle.std.specs.Option.{option_or}
use Rattle.vpn_base.specs.declared.names.Conn.{Conn}
use Rattle.vpn_base.specs.declared.names.Freshness.{Freshness}
use Rattle.vpn_base.specs.declared.names.Freshness.TheVariants.{Fresh, Zero, Old, Seen, Late}
use Rattle.vpn_base.specs.declared.names.Sid.{Sid}
use Rattle.packet_ids.specs.LongFreshness.{long_freshness}
use Rattle.control_link.specs.Calls as link
use Rattle.control_link.specs.Reading.{texts_here}
use Rattle.peer_table.specs.declared.outcomes.Refused.{Refused}
use Rattle.peer_table.specs.declared.outcomes.Turn.{Turn}
use Rattle.peer_table.specs.ControlPackets.{Incoming, begins_next, begun_by, control_came, judged, kid_in, next_session, placed, puts, sender, taken_by, with_next}
use Rattle.peer_table.specs.KeySessions.{Session, live_with}
use Rattle.peer_table.specs.Peer.{Outcome, Peer}
use Rattle.server_table.specs.Courses.{opened_by}

-- a session id that is fixed stays, and so does the name; at most one connection is opened
pub record Keeps (most : ℕ) (p : Peer) (o : Outcome (Result Turn Refused)) : Type 0 where
  pub remote : (sid : Sid) → p.remote ≡ Some sid → o.peer.remote ≡ Some sid
  pub name : o.peer.name ≡ p.name
  pub opens : opened_by o.doings ≤ most

puts_open : (conn : Conn) (texts : List (List ℕ)) → opened_by (puts conn texts) ≡ 0
puts_open conn [] = refl
puts_open conn ([] ∷ texts) = puts_open conn texts
puts_open conn ((b ∷ bytes) ∷ texts) = puts_open conn texts

no_more : (n most : ℕ) → n ≡ 0 → n ≤ most
no_more n most is = omega (arith, is)

by_session : (most : ℕ) (p : Peer) (i : Incoming) (n : ℕ) (s : Option Session) → Keeps most p (taken_by p i n s)
by_session most p i n None = record { remote = λ sid is. is; name = refl; opens = omega arith }
by_session most p i n (Some s) =
    let o = link.received s.link p.envelope i.form (sender i) i.moment.0 in
    record {
      remote = λ sid is. ap (λ r. option_or r (Some (sender i))) is;
      name = refl;
      opens = no_more _ most (puts_open o.link.conn (texts_here 12 o.link));
    }

one_more : (n : ℕ) → n ≤ 0 → suc n ≤ 1
one_more n few = omega (arith, few)

by_beginning : (p : Peer) (i : Incoming) (b : Bool) → Keeps 1 p (begun_by p i b)
by_beginning p i false = record { remote = λ sid is. is; name = refl; opens = omega arith }
by_beginning p i true =
    let q = with_next i.next_conn i.moment.0 p in
    let k = by_session 0 q i (length p.sessions) (Some (next_session i.next_conn i.moment.0 p)) in
    record { remote = k.remote; name = k.name; opens = one_more _ k.opens }

by_place : (p : Peer) (i : Incoming) (n : Option ℕ) → Keeps 1 p (placed p i n)
by_place p i (Some n) = by_session 1 p i n (slice_get p.sessions n)
by_place p i None = by_beginning p i (begins_next p i)

by_freshness : (p : Peer) (i : Incoming) (f : Freshness) → Keeps 1 p (judged p i f)
by_freshness p i Fresh = by_place p i (live_with p.timers i.moment.0 p.sessions (kid_in i))
by_freshness p i Zero = record { remote = λ sid is. is; name = refl; opens = omega arith }
by_freshness p i Old = record { remote = λ sid is. is; name = refl; opens = omega arith }
by_freshness p i Seen = record { remote = λ sid is. is; name = refl; opens = omega arith }
by_freshness p i Late = record { remote = λ sid is. is; name = refl; opens = omega arith }

pub keeps : (p : Peer) (i : Incoming) → Keeps 1 p (control_came p i)
unfolding control_came
keeps p i = by_freshness p i (long_freshness p.envelope.accepted i.packet.time i.packet.id i.moment)

-- a session that takes it opens no connection
pub taken_quiet : (p : Peer) (i : Incoming) (n : ℕ) (s : Session) → opened_by (taken_by p i n (Some s)).doings ≡ 0
taken_quiet p i n s =
    let o = link.received s.link p.envelope i.form (sender i) i.moment.0 in
    puts_open o.link.conn (texts_here 12 o.link)
