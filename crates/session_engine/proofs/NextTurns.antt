-- What the owner of a client is to do, and whether its session goes on.
use Rattle.std.proofs.Common.{◌≡◌, ℕ, List, ◌++◌, Option, Some, None, Result, Ok, Err, refl, ap, sym, ◌∙◌}
use Rattle.std.specs.Prelude.{option_map, slice_get, OnOk, OnErr}
use Rattle.std.proofs.lemmas.List.{append-nil}
use Rattle.std.proofs.lemmas.Option.{none-some}
use Rattle.vpn_base.specs.declared.address.Addr.{Addr}
use Rattle.vpn_base.specs.declared.errors.NoMemory.{NoMemory}
use Rattle.vpn_links.specs.Actions.{Contents}
use Rattle.control_link.specs.Calls.{datagrams_to}
use Rattle.key_method2.specs.Reading.{reading}
use Rattle.peer_table.specs.declared.outcomes.Turn.{Turn}
use Rattle.peer_table.specs.declared.outcomes.Turn.TheVariants.{Going, Ignored, Named, Exchange, Over}
use Rattle.peer_table.specs.EngineAnswers.{bad_at, bad_in, bad_of}
use Rattle.peer_table.specs.KeySessions.{Session, Stage}
use Rattle.peer_table.specs.KeySessions as sessions
use Rattle.peer_table.specs.Outboxes.{GoesOnUnlessOver, Leaves, LeavesUnless, actions_of}
use Rattle.peer_table.specs.Peer.{Doing, Outcome, Peer, first_over, other}
use Rattle.key_sessions.specs.Looks.{seen_as, seen_at, stage_of}
use Rattle.key_sessions.specs.declared.slot.SessionSeen.{SessionSeen}
use Rattle.key_sessions.specs.declared.slot.Stage.TheVariants as stages
use Rattle.session_engine.specs.internal.Turns.{LeavesQuietly}
use Rattle.session_state.proofs.Waits.{named_stage}

-- a session that goes on goes on after any turn
pub goes_unless : (G : Type 0) (turn : Turn) → G → GoesOnUnlessOver G turn
goes_unless G Going g = g
goes_unless G Ignored g = g
goes_unless G Named g = g
goes_unless G Exchange g = g
goes_unless G (Over cause) g = tt

-- and after one behind it
pub goes_behind : (G : Type 0) (so_far later : Turn) → GoesOnUnlessOver G so_far → GoesOnUnlessOver G (first_over so_far later)
goes_behind G Going later g = goes_unless G later g
goes_behind G Ignored later g = goes_unless G later g
goes_behind G Named later g = goes_unless G later g
goes_behind G Exchange later g = goes_unless G later g
goes_behind G (Over cause) later g = tt

-- ---- a session as it is seen

-- one that is seen is there
pub record SeenAt (ss : List Session) (n : ℕ) (seen : SessionSeen) : Type 0 where
  pub session : Session
  pub here : slice_get ss n ≡ Some session
  pub seen_so : seen_as n session ≡ seen

seen_by : (ss : List Session) (n : ℕ) (o : Option Session) (seen : SessionSeen) → slice_get ss n ≡ o → Some seen ≡ option_map (seen_as n) o → SeenAt ss n seen
seen_by ss n None seen at is = absurd (none-some seen (sym is))
seen_by ss n (Some s) seen at is = let same : seen_as n s ≡ seen = cc is in record { session = s; here = at; seen_so = same }

pub seen_there : (ss : List Session) (n : ℕ) (seen : SessionSeen) → Some seen ≡ seen_at ss n → SeenAt ss n seen
unfolding seen_at
seen_there ss n seen is = seen_by ss n (slice_get ss n) seen refl is

none_by : (p : Peer) (n : ℕ) (o : Option Session) → None ≡ option_map (seen_as n) o → Going ≡ bad_at p o
none_by p n None is = refl
none_by p n (Some s) is = absurd (none-some (seen_as n s) is)

-- ---- a message that is bad

pub none_bad : (p : Peer) (n : ℕ) → None ≡ seen_at p.sessions n → Going ≡ bad_at p (slice_get p.sessions n)
unfolding seen_at
none_bad p n is = none_by p n (slice_get p.sessions n) is

opening_by : (p : Peer) (s : Session) (stage : Stage) → stage_of stage ≡ stages.Opening → Going ≡ bad_in p s stage
opening_by p s sessions.Opening is = refl
opening_by p s sessions.Named is = cc is
opening_by p s (sessions.Keyed keys) is = refl

keyed_by : (p : Peer) (s : Session) (stage : Stage) → stage_of stage ≡ stages.Keyed → Going ≡ bad_in p s stage
keyed_by p s sessions.Opening is = refl
keyed_by p s sessions.Named is = cc is
keyed_by p s (sessions.Keyed keys) is = refl

pub opening_bad : (p : Peer) (n : ℕ) (seen : SessionSeen) → Some seen ≡ seen_at p.sessions n → seen.stage ≡ stages.Opening → Going ≡ bad_at p (slice_get p.sessions n)
opening_bad p n seen told is =
    let at = seen_there p.sessions n seen told in
    opening_by p at.session at.session.stage (ap (λ (r : SessionSeen). r.stage) at.seen_so ∙ is) ∙ ap (bad_at p) (sym at.here)

pub keyed_bad : (p : Peer) (n : ℕ) (seen : SessionSeen) → Some seen ≡ seen_at p.sessions n → seen.stage ≡ stages.Keyed → Going ≡ bad_at p (slice_get p.sessions n)
keyed_bad p n seen told is =
    let at = seen_there p.sessions n seen told in
    keyed_by p at.session at.session.stage (ap (λ (r : SessionSeen). r.stage) at.seen_so ∙ is) ∙ ap (bad_at p) (sym at.here)

pub named_seen : (p : Peer) (n : ℕ) (seen : SessionSeen) → (at : SeenAt p.sessions n seen) → seen.stage ≡ stages.Named → at.session.stage ≡ sessions.Named
named_seen p n seen at is = named_stage at.session.stage (ap (λ (r : SessionSeen). r.stage) at.seen_so ∙ is)

pub named_bad : (p : Peer) (n : ℕ) (s : Session) → slice_get p.sessions n ≡ Some s → s.stage ≡ sessions.Named →
    bad_of (reading (other p.role) s.plain) ≡ bad_at p (slice_get p.sessions n)
named_bad p n s at named = ap (bad_in p s) (sym named) ∙ ap (bad_at p) (sym at)

-- ---- an outcome by which nothing was done

pub quiet_leaves : {S A : Type 0} (means : S → Peer → Type 0) (session : S) (c : Contents) (to : Addr) (o : Outcome A) → LeavesQuietly means session o → Leaves means session c c to o
quiet_leaves means session c to o quiet = record {
  peer = quiet.peer;
  outbox = (
    sym (ap (λ (ds : List Doing). c.effects ++ actions_of o.peer.role ds) quiet.doings ∙ append-nil c.effects),
    sym (ap (λ (ds : List (List ℕ)). c.staged ++ datagrams_to to ds) quiet.datagrams ∙ append-nil c.staged),
  );
}

-- the same, where at want of memory nothing has changed
pub quiet_unless : {S A B : Type 0} (r : Result B NoMemory) (means : S → Peer → Type 0) (session : S) (c : Contents) (to : Addr) (p : Peer) (o : Outcome A) →
    OnOk r (LeavesQuietly means session o) → OnErr r (means session p) → LeavesUnless r means session c c to p o
quiet_unless (Ok b) means session c to p o quiet same = quiet_leaves means session c to o quiet
quiet_unless (Err e) means session c to p o quiet same = (same, (refl, refl))
