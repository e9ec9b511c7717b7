-- An id that was accepted in a session stays so.
use Rattle.std.proofs.Common.{◌≡◌, ℕ, ◌==◌, true, false, List, [], ◌∷◌, ◌++◌, Option, Some, is_some, refl, sym, ap, ◌∙◌, subst, inl, inr}
use Rattle.std.specs.Prelude.{◌⊎◌, slice_get}
use Rattle.std.proofs.lemmas.Bool.{eq-eqb, or_left, or_right}
use Rattle.vpn_base.specs.declared.names.Moment.{Moment}
use Rattle.packet_ids.specs.Freshness.{Accepted, was_accepted}
use Rattle.peer_table.specs.Places.{changed_at}
use Rattle.peer_table.specs.KeySessions.{Session}
use Rattle.server_table.specs.Table.{Client, Established}
use Rattle.server_table.specs.Courses.{Course}
use Rattle.server_table.specs.ControlDatagrams.{client_begun, session_begun}
use Rattle.server_table.specs.Endings.{gone}
use Rattle.server_table.specs.Establishing.{with_address}
use Rattle.server_table.proofs.Places.{get_appended, some_same, went_changed}
use Rattle.server_laws.specs.Wraps.{WrapsStay}
use Rattle.server_laws.proofs.Peers.{AreKept, KeysFrom, from_same, from_then, kept_same, kept_then}
use Rattle.server_laws.proofs.CallsKeep.{close_call}
use Rattle.server_table.proofs.Keeps.{here_at}
use Rattle.server_laws.proofs.Closed.{DealsWith, IsClosed, at_place}
use Rattle.server_laws.proofs.Everything.{seals_all}

-- a client is there still, with all ids of its sessions
pub record IsKeptClient (later : List Client) (n : ℕ) (x : Client) : Type 0 where
  pub client : Client
  pub there : slice_get later n ≡ Some client
  pub kept : AreKept x.session.sessions client.session.sessions
  pub stay : KeysFrom client.session.sessions x.session.sessions
  pub wraps : WrapsStay x.session client.session
  pub established : is_some x.established ≡ true → is_some client.established ≡ true

abbrev pub AllKept : List Client → List Client → Type 0
AllKept clients later = (n : ℕ) (x : Client) → slice_get clients n ≡ Some x → IsKeptClient later n x

pub all_same : (clients : List Client) → AllKept clients clients
all_same clients n x there = record { client = x; there = there; kept = kept_same x.session.sessions; stay = from_same x.session.sessions; wraps = λ time id e. e; established = λ e. e }

changed_ids : (n : ℕ) (f : Client → Client) (clients later : List Client) → ((y : Client) → slice_get later n ≡ Some y → AreKept y.session.sessions (f y).session.sessions × KeysFrom (f y).session.sessions y.session.sessions × WrapsStay y.session (f y).session × (is_some y.established ≡ true → is_some (f y).established ≡ true)) →
    AllKept clients later → AllKept clients (changed_at n f later)
changed_ids n f clients later keeps kept i x there = let w = kept i x there in go w (went_changed n i f later w.client w.there)
  where
    go : (w : IsKeptClient later i x) → ((i ≡ n) × (slice_get (changed_at n f later) i ≡ Some (f w.client))) ⊎ (slice_get (changed_at n f later) i ≡ Some w.client) →
        IsKeptClient (changed_at n f later) i x
    go w (inl e) =
        let at : slice_get later n ≡ Some w.client = subst (λ (k : ℕ). slice_get later k ≡ Some w.client) e.0 w.there in
        record {
          client = f w.client;
          there = e.1;
          kept = kept_then x.session.sessions w.client.session.sessions (f w.client).session.sessions w.kept (keeps w.client at).0;
          stay = from_then (f w.client).session.sessions w.client.session.sessions x.session.sessions (keeps w.client at).1 w.stay;
          wraps = λ time id e. (keeps w.client at).2 time id (w.wraps time id e);
          established = λ e. (keeps w.client at).3 (w.established e);
        }
    go w (inr e) = record { client = w.client; there = e; kept = w.kept; stay = w.stay; wraps = w.wraps; established = w.established }

appended_ids : (clients later : List Client) (x : Client) → AllKept clients later → AllKept clients (later ++ x ∷ [])
appended_ids clients later x kept i y there =
    let w = kept i y there in record { client = w.client; there = get_appended later x i w.client w.there; kept = w.kept; stay = w.stay; wraps = w.wraps; established = w.established }

pub all_then : (clients between later : List Client) → AllKept clients between → AllKept between later → AllKept clients later
all_then clients between later first second n x there =
    let a = first n x there in
    let b = second n a.client a.there in
    record {
      client = b.client;
      there = b.there;
      kept = kept_then x.session.sessions a.client.session.sessions b.client.session.sessions a.kept b.kept;
      stay = from_then b.client.session.sessions a.client.session.sessions x.session.sessions b.stay a.stay;
      wraps = λ time id e. b.wraps time id (a.wraps time id e);
      established = λ e. b.established (a.established e);
    }

-- since these clients, in a course
abbrev pub KeptSince : List Client → Course → Type 0
KeptSince clients c = AllKept clients c.table.clients

pub since_closed : (clients : List Client) → IsClosed (KeptSince clients)
since_closed clients = record {
  quiet = λ actions c none is. is;
  other = λ counted into outof stopped c is. is;
  acts = λ n x o c here peer is.
      changed_ids n (λ y. record y { session = o.peer }) clients c.table.clients
      (at_place (λ y. AreKept y.session.sessions o.peer.sessions × KeysFrom o.peer.sessions y.session.sessions × WrapsStay y.session o.peer × (is_some y.established ≡ true → is_some y.established ≡ true)) c.table.clients n x (here_at c.table n x here).there (peer.kept.ids, peer.kept.stay, peer.wraps, λ e. e)) is;
  exchanges = λ n x ccd o c here known ex is.
      changed_ids n (λ y. record y { session = o.peer }) clients c.table.clients
      (at_place (λ y. AreKept y.session.sessions o.peer.sessions × KeysFrom o.peer.sessions y.session.sessions × WrapsStay y.session o.peer × (is_some y.established ≡ true → is_some y.established ≡ true)) c.table.clients n x (here_at c.table n x here).there (ex.kept.ids, ex.kept.stay, ex.wraps, λ e. e)) is;
  alters = λ n f c keeps is. changed_ids n f clients c.table.clients (λ y there. ((keeps y there).session.kept.ids, (keeps y there).session.kept.stay, (keeps y there).session.wraps, λ e. ap (λ (o : Option Established). is_some o) (keeps y there).established ∙ e)) is;
  ends = λ n cause x c here is. changed_ids n gone clients c.table.clients (λ y there. let p = close_call y.session in (p.kept.ids, p.kept.stay, p.wraps, λ e. e)) is;
  establishes = λ n conn x l c here ready is.
      changed_ids n (with_address l.0 c.table.moment) clients c.table.clients (λ y there. (kept_same y.session.sessions, from_same y.session.sessions, λ time id e. e, λ e. refl)) is;
  admits = λ from draw c is. appended_ids clients c.table.clients (client_begun c.table from (session_begun c.table draw).peer) is;
}

pub since_deals : (clients : List Client) → DealsWith (KeptSince clients)
since_deals clients = record {
  seals = λ inner. seals_all (since_closed clients) (λ to bytes c is. is) inner;
  learns = λ n host c owned is. is;
  queues = λ inner c few is. is;
  dequeues = λ packet rest c same is. is;
}

-- ---- an id of a session of a client

-- it was accepted
pub record HasAccepted (clients : List Client) (n k id : ℕ) : Type 0 where
  pub client : Client
  pub there : slice_get clients n ≡ Some client
  pub session : Session
  pub session_there : slice_get client.session.sessions k ≡ Some session
  pub accepted : was_accepted session.received.accepted id ≡ true

pub has_still : (clients later : List Client) (n k id : ℕ) → AllKept clients later → HasAccepted clients n k id → HasAccepted later n k id
has_still clients later n k id kept has =
    let x = kept n has.client has.there in
    let s = x.kept k has.session has.session_there in
    record { client = x.client; there = x.there; session = s.session; session_there = s.there; accepted = s.ids id has.accepted }

-- one that was recorded was accepted
pub now_accepted : (accepted : List Accepted) (id : ℕ) (m : Moment) → was_accepted (accepted ++ (id, m) ∷ []) id ≡ true
now_accepted [] id m = or_left (id == id) false (eq-eqb id id refl)
now_accepted (e ∷ accepted) id m = or_right (e.0 == id) (was_accepted (accepted ++ (id, m) ∷ []) id) (now_accepted accepted id m)

-- no id is accepted that was not
pub has_one : (clients : List Client) (n k id : ℕ) (x : Client) (s : Session) → HasAccepted clients n k id → slice_get clients n ≡ Some x →
    slice_get x.session.sessions k ≡ Some s → was_accepted s.received.accepted id ≡ true
has_one clients n k id x s has there at =
    let same : has.client ≡ x = some_same (sym has.there ∙ there) in
    let session : has.session ≡ s = some_same (sym has.session_there ∙ subst (λ (y : Client). slice_get y.session.sessions k ≡ Some s) (sym same) at) in
    subst (λ (s : Session). was_accepted s.received.accepted id ≡ true) session has.accepted
