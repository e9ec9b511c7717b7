-- What is seen of a session, and where a session is.
use Rattle.std.proofs.Common.{◌≡◌, ℕ, suc, ◌+◌, ◌-◌, List, [], ◌∷◌, length, Option, Some, None, refl, sym, ap, ◌∙◌, arith}
use Rattle.std.specs.Prelude.{option_map, slice_get, unwrap_or}
use Rattle.std.proofs.lemmas.Option.{none-some}
use Rattle.vpn_base.specs.declared.names.Conn.{Conn}
use Rattle.vpn_base.specs.declared.names.Place.{Place}
use Rattle.vpn_base.specs.declared.names.Sid.{Sid}
use Rattle.vpn_base.specs.declared.names.Timers.{Timers}
use Rattle.tls_crypt.specs.Packets.{Wrapping}
use Rattle.peer_table.specs.KeySessions.{Session, live_with, newest, newest_session, open_numbers, session_at, with_kid}
use Rattle.peer_table.specs.Exchange.{conn_of, first_conn}
use Rattle.peer_table.specs.Naming.{number_of, place, place_at, place_numbered}
use Rattle.peer_table.specs.Peer.{Peer}
use Rattle.key_sessions.specs.declared.slot.SessionSeen.{SessionSeen}
use Rattle.key_sessions.specs.declared.slot.Newest.{Newest}
use Rattle.key_sessions.specs.Looks.{newest_as, newest_seen, seen_as, seen_at}
use Rattle.key_sessions.specs.Slots.{SlotsStand}
use Rattle.peer_lines.specs.Standing.{StandsFor}
use Rattle.session_state.specs.declared.session.SessionState.{SessionState}
use Rattle.session_state.specs.Standing.{PeerStands}

-- its connection
abbrev pub conn_seen : Option SessionSeen → Option Conn
conn_seen None = None
conn_seen (Some seen) = Some seen.conn

first_by : (n : ℕ) (o : Option Session) → conn_seen (option_map (seen_as n) o) ≡ conn_of o
first_by n None = refl
first_by n (Some s) = refl

-- the connection of session 0 as it is seen
pub first_is : (p : Peer) (seen : Option SessionSeen) → seen ≡ seen_at p.sessions 0 → conn_seen seen ≡ first_conn p
unfolding first_conn seen_at
first_is p seen is = ap conn_seen is ∙ first_by 0 (slice_get p.sessions 0)

-- the place of a session by what is seen of it
abbrev pub place_seen : Sid → Option Sid → ℕ → Option SessionSeen → Option Place
place_seen own remote n None = None
place_seen own remote n (Some seen) = Some (record { conn = seen.conn; own = own; peer = remote; number = n })

place_by : (p : Peer) (n : ℕ) (o : Option Session) → place_seen p.envelope.own p.remote n (option_map (seen_as n) o) ≡ place_at p (Some n) o
place_by p n None = refl
place_by p n (Some s) = refl

pub place_is : (p : Peer) (n : ℕ) (seen : Option SessionSeen) → seen ≡ seen_at p.sessions n → place_seen p.envelope.own p.remote n seen ≡ place_numbered n p
unfolding place_numbered seen_at
place_is p n seen is = ap (place_seen p.envelope.own p.remote n) is ∙ place_by p n (slice_get p.sessions n)

-- the place of the open session with a key id
pub placed : (p : Peer) (kid : ℕ) (n : ℕ) → Some n ≡ with_kid kid (open_numbers p.sessions) → place_numbered n p ≡ place kid p
unfolding place_numbered place
placed p kid n is = ap (λ (o : Option ℕ). place_at p o (session_at p.sessions o)) is

pub placed_none : (p : Peer) (kid : ℕ) → None ≡ with_kid kid (open_numbers p.sessions) → None ≡ place kid p
unfolding place
placed_none p kid is = ap (λ (o : Option ℕ). place_at p o (session_at p.sessions o)) is

-- the number behind that of the newest session is how many there are
pub next_number : (ss : List Session) (r : Newest) → newest_seen ss ≡ Some r → r.number + 1 ≡ length ss
unfolding newest_seen
next_number [] r is = absurd (none-some r is)
next_number (s ∷ ss) r is = by_session (newest_session (s ∷ ss)) is
  where
    number_is : (n : ℕ) → n ≡ r.number → n ≡ suc (length ss) - 1 → r.number + 1 ≡ suc (length ss)
    number_is n is at = omega (arith, is, at)

    by_session : (o : Option Session) → option_map (newest_as (newest (s ∷ ss))) o ≡ Some r → r.number + 1 ≡ suc (length ss)
    by_session None none = absurd (none-some r none)
    by_session (Some x) some = number_is (newest_as (newest (s ∷ ss)) x).number (ap (λ (o : Option Newest). (unwrap_or o r).number) some) refl

-- where no live session has the key id, a control packet that is taken goes to the next one
pub next_is : {W : Type 0} (wrapped : W → Wrapping) (s : SessionState W) (p : Peer) (r : Newest) (kid : ℕ) (now : ℕ) →
    ((ss : List Session) → SlotsStand StandsFor s.slots ss → newest_seen ss ≡ Some r) →
    ((timers : Timers) (ss : List Session) → SlotsStand StandsFor s.slots ss → timers.tran ≡ s.timers.tran → None ≡ live_with timers now ss kid) →
    PeerStands wrapped s p → r.number + 1 ≡ number_of p (live_with p.timers now p.sessions kid)
unfolding PeerStands
next_is wrapped s p r kid now seen none is =
    next_number p.sessions r (seen p.sessions is.slots_stand) ∙ ap (number_of p) (none p.timers p.sessions is.slots_stand (ap (λ (t : Timers). t.tran) (sym is.timers_are)))
