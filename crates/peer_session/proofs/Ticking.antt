-- Time passes for a client's session, one thing after the other.
use Rattle.std.proofs.Common.{◌≡◌, ◌≤◌, ◌<◌, ℕ, zero, suc, ◌+◌, ◌-◌, Bool, true, false, cond, List, [], ◌∷◌, ◌++◌, drop, get_or, length, take, Option, Some, None, Result, Ok, Err, refl, ap, sym, subst, ◌∙◌, arith}
use Rattle.std.specs.Prelude.{is_some, not, slice_get}
use Rattle.std.proofs.lemmas.Bool.{false≢true}
use Rattle.std.proofs.lemmas.List.{append-nil, append_assoc, map-append, take_all}
use Rattle.std.proofs.lemmas.Option.{none-some}
use Rattle.vpn_base.specs.declared.address.Addr.{Addr}
use Rattle.vpn_base.specs.declared.errors.Or.{Or}
use Rattle.vpn_base.specs.declared.errors.Or.TheVariants.{Memory, Why}
use Rattle.vpn_base.specs.declared.names.Cause.TheVariants.{HandWindow, PingRestart}
use Rattle.vpn_base.specs.declared.names.Conn.{Conn}
use Rattle.vpn_base.specs.declared.names.Moment.{Moment}
use Rattle.vpn_base.specs.declared.names.Role.{Role}
use Rattle.vpn_base.specs.declared.names.Timers.{Timers}
use Rattle.vpn_links.specs.declared.events.Kind.TheVariants.{Tick}
use Rattle.vpn_links.specs.Actions.{Action, Contents, Datagram, EngineOpen, Holds}
use Rattle.reliable_send.specs.Sides.{IsNotMemory}
use Rattle.tls_crypt.specs.Packets.{Wrapping}
use Rattle.control_link.specs.declared.envelope.Envelope.{Envelope}
use Rattle.control_link.specs.declared.link.LinkEnd.{LinkEnd}
use Rattle.control_link.specs.Calls as link
use Rattle.control_link.specs.Calls.{datagrams_to}
use Rattle.control_link.specs.Envelope.{EnvelopeStands}
use Rattle.key_sessions.specs.declared.slots.Slots.{Slots}
use Rattle.key_sessions.specs.declared.slot.Newest.{Newest}
use Rattle.key_sessions.specs.Changes.{closed_in}
use Rattle.key_sessions.specs.Looks.{newest_seen}
use Rattle.key_sessions.specs.Slots.{IsWhole, SlotsStand}
use Rattle.peer_table.specs.ControlPackets.{next_session, with_next}
use Rattle.peer_table.specs.Exchange.{closed_at, closing, session_closed}
use Rattle.peer_table.specs.KeySessions.{Opening, Session, began_before, closed, has_keys, has_passed, in_transition, is_keyed, is_open, keyed_before, kid_of, newest, newest_usable, open_numbers, retiring, session_at}
use Rattle.peer_table.specs.Outboxes.{GoesOnUnlessOver, actions_of}
use Rattle.peer_table.specs.Peer.{Closes, Doing, Opens, Outcome, Peer, answered, first_over, gone_on, ready_sent_in, remote_of, turn_of}
use Rattle.peer_table.specs.Places.{before_if, changed_at, last_place, later, places_from}
use Rattle.peer_table.specs.Time.{Ticking, is_late, is_open_session, renewed, renews, resent, resent_in, retired, retired_if, ticked, ticked_idle, ticked_late}
use Rattle.peer_table.specs.declared.outcomes.Turn.{Turn}
use Rattle.peer_table.specs.declared.outcomes.Turn.TheVariants.{Going, Ignored, Named, Exchange, Over}
use Rattle.peer_lines.specs.declared.blank.SessionBlank.{SessionBlank}
use Rattle.peer_lines.specs.declared.channels.SessionChannels.{SessionChannels}
use Rattle.peer_lines.specs.Calls as lines
use Rattle.peer_lines.specs.Calls.{LineOutcome, linked, unless_wanting}
use Rattle.peer_lines.specs.Standing.{StandsFor}
use Rattle.session_state.specs.declared.session.SessionState.{SessionState}
use Rattle.session_state.specs.Standing.{BlankIsFor, EachGoesOn, EachGoesOnUnless, EachIsSound, GoesOn, IsPeerOf, PeerStands}
use Rattle.session_state.specs.Ready.{IsReady, TakesTick}
use Rattle.peer_session.specs.internal.Ticking.{AreOpenYet, HasDone, IsOpenYet, MayGoOn, gone_with, is_end, resent_unless}
use Rattle.session_state.proofs.Keeping.{PutBack, alike, goes_at, goes_changed, goes_if, goes_more, goes_of, slots_put, slots_same, sound_at, sound_changed, sound_more, still_sound}
use Rattle.session_state.proofs.Ends.{then_done}
use Rattle.session_state.proofs.Lines.{Keeps, ready_keeps}
use Rattle.session_state.proofs.OpenPlaces.{StandFrom, head_of, tail_of}
use Rattle.session_state.proofs.Waits.{newest_at, open_there}

-- ---- the sessions of the open numbers

elsewhere : (ss : List Session) (n m : ℕ) (f : Session → Session) → n < m → slice_get (changed_at n f ss) m ≡ slice_get ss m
elsewhere [] n m f before = refl
elsewhere (x ∷ ss) zero zero f before = absurd (omega (arith, before))
elsewhere (x ∷ ss) zero (suc m) f before = refl
elsewhere (x ∷ ss) (suc n) zero f before = absurd (omega (arith, before))
elsewhere (x ∷ ss) (suc n) (suc m) f before = elsewhere ss n m f (omega (arith, before))

still_open : (k least : ℕ) (f : Session → Session) (numbers : List ℕ) (ss : List Session) → k < least → AreOpenYet least numbers ss → AreOpenYet least numbers (changed_at k f ss)
still_open k least f [] ss before are = tt
still_open k least f (n ∷ numbers) ss before are =
    let here : k < n = omega (arith, before, are.0) in
    (are.0, subst IsOpenYet (sym (elsewhere ss k n f here)) are.1, still_open k (suc n) f numbers ss (omega (arith, here)) are.2)

resent_open : (n at : ℕ) (numbers : List ℕ) (o : Outcome Turn) (s : Option Session) → AreOpenYet (suc n) numbers o.peer.sessions →
    AreOpenYet (suc n) numbers (resent_in n at o s).peer.sessions
resent_open n at numbers o None are = are
resent_open n at numbers o (Some s) are = still_open n (suc n) _ numbers o.peer.sessions (omega arith) are

-- those behind one in which what is due was sent again are as they were
pub others_open : (is_retired : Bool) (n at : ℕ) (numbers : List ℕ) (o : Outcome Turn) → AreOpenYet (suc n) numbers o.peer.sessions →
    AreOpenYet (suc n) numbers (resent_unless is_retired n at o).peer.sessions
others_open true n at numbers o are = are
others_open false n at numbers o are = resent_open n at numbers o (slice_get o.peer.sessions n) are

later_open : (k : ℕ) (numbers : List ℕ) (ss : List Session) → AreOpenYet (suc k) numbers ss → AreOpenYet k numbers ss
later_open k [] ss are = tt
later_open k (n ∷ numbers) ss are = (omega (arith, are.0), are.1, are.2)

open_by : (all : List Session) (k : ℕ) (s : Session) (b : Bool) (rest : List ℕ) → slice_get all k ≡ Some s → s.is_open ≡ b → s.link.spent ≡ false →
    AreOpenYet (suc k) rest all → AreOpenYet k (before_if b k rest) all
open_by all k s true rest here is spent are = (omega arith, subst IsOpenYet (sym here) (is, spent), are)
open_by all k s false rest here is spent are = later_open k rest all are

open_from : (all : List Session) (k : ℕ) (ss : List Session) → StandFrom (slice_get all) k ss → EachGoesOn ss → AreOpenYet k (places_from is_open k ss) all
open_from all k [] stand goes = tt
open_from all k (s ∷ ss) stand goes =
    open_by all k s s.is_open (places_from is_open (suc k) ss) (head_of (slice_get all) k s ss stand) refl goes.0
    (open_from all (suc k) ss (tail_of (slice_get all) k s ss stand) goes.1)

-- where no link has ended, what is due may be sent again in each open session
pub are_open : (ss : List Session) → EachGoesOn ss → AreOpenYet 0 (open_numbers ss) ss
are_open ss goes = open_from ss 0 ss (λ i. ap (slice_get ss) (omega arith)) goes

-- an open session that is there
pub record OpenYetAt (o : Option Session) : Type 0 where
  pub session : Session
  pub here : o ≡ Some session
  pub is_open : session.is_open ≡ true
  pub goes : session.link.spent ≡ false

pub open_at : (o : Option Session) → IsOpenYet o → OpenYetAt o
open_at None is = absurd is
open_at (Some s) is = record { session = s; here = refl; is_open = is.0; goes = is.1 }

step_by : (is_retired : Bool) (n at : ℕ) (rest : List ℕ) (o : Outcome Turn) →
    resent at rest (resent_unless is_retired n at o) ≡ resent at (cond (not is_retired) (n ∷ rest) rest) o
step_by true n at rest o = refl
step_by false n at rest o = refl

-- one number of those that stay, and the rest
pub one_step : (is_retired : ℕ → Bool) (n at : ℕ) (rest : List ℕ) (o : Outcome Turn) →
    resent at rest (resent_unless (is_retired n) n at o) ≡ resent at (cond (not (is_retired n)) (n ∷ rest) rest) o
one_step is_retired n at rest o = step_by (is_retired n) n at rest o

-- a list by its first number and the rest
pub first_and_rest : (ns : List ℕ) → 1 ≤ length ns → ns ≡ get_or ns 0 0 ∷ take (length ns - 1) (drop 1 ns)
first_and_rest [] some = absurd (omega (arith, some))
first_and_rest (n ∷ ns) some = ap (λ (xs : List ℕ). n ∷ xs) (sym (take_all (length (n ∷ ns) - 1) ns (omega arith)))

-- ---- endings

pub not_wanting : {A : Type 0} (answer : Result A (Or LinkEnd)) (o before : LineOutcome) → IsNotMemory answer → unless_wanting answer o before ≡ o
not_wanting (Ok a) o before is = refl
not_wanting (Err Memory) o before is = absurd is
not_wanting (Err (Why e)) o before is = refl

ended_by : (end : Option LinkEnd) (ss after : List Session) → EachGoesOn ss → (end ≡ None → EachGoesOn ss → EachGoesOn after) → EachGoesOnUnless (is_end (turn_of end)) after
ended_by None ss after each still = still refl each
ended_by (Some e) ss after each still = ended_over e ss after
  where
    ended_over : (e : LinkEnd) (ss after : List Session) → EachGoesOnUnless (is_end (turn_of (Some e))) after
    ended_over e ss after = tt

-- where a call has told no end, and none has ended the client before, each link goes on
pub ended_goes : (turn : Turn) (end : Option LinkEnd) (ss after : List Session) → EachGoesOnUnless (is_end turn) ss →
    (end ≡ None → EachGoesOn ss → EachGoesOn after) → EachGoesOnUnless (is_end (first_over turn (turn_of end))) after
ended_goes Going end ss after each still = ended_by end ss after each still
ended_goes Ignored end ss after each still = ended_by end ss after each still
ended_goes Named end ss after each still = ended_by end ss after each still
ended_goes Exchange end ss after each still = ended_by end ss after each still
ended_goes (Over cause) end ss after each still = tt

-- ---- what is staged, one datagram after the other

datagrams_append : (to : Addr) (a b : List (List ℕ)) → datagrams_to to (a ++ b) ≡ datagrams_to to a ++ datagrams_to to b
datagrams_append to a b = map-append (λ (bytes : List ℕ). record { to = to; bytes = bytes }) a b

pub staged_more : (to : Addr) (staged : List Datagram) (a b : List (List ℕ)) (middle after : Contents) (effects : List Action) →
    Holds middle effects (staged ++ datagrams_to to a) → Holds after (middle.effects ++ []) (middle.staged ++ datagrams_to to b) →
    Holds after effects (staged ++ datagrams_to to (a ++ b))
staged_more to staged a b middle after effects first second = (
  second.0 ∙ append-nil middle.effects ∙ first.0,
  second.1 ∙ ap (λ (ds : List Datagram). ds ++ datagrams_to to b) first.1 ∙ append_assoc staged (datagrams_to to a) (datagrams_to to b)
      ∙ ap (λ (ds : List Datagram). staged ++ ds) (sym (datagrams_append to a b)),
)

-- ---- what is due is sent again in a session

same_over : {W : Type 0} (wrapped : W → Wrapping) (session : SessionState W) (turn : Turn) (p : Peer) → session.is_over ≡ is_end turn → IsPeerOf wrapped session p →
    EachGoesOnUnless (is_end turn) p.sessions
same_over wrapped session turn p over is = subst (λ (b : Bool). EachGoesOnUnless b p.sessions) over is.each_goes_on

line_stands : {W : Type 0} (wrapped : W → Wrapping) (session : SessionState W) (env : Envelope W) (taken slots : Slots SessionChannels) (text : SessionChannels)
    (over : Bool) (p : Peer) (n : ℕ) (s : Session) (l : link.Outcome) →
    IsPeerOf wrapped session p → SlotsStand StandsFor taken p.sessions → slice_get p.sessions n ≡ Some s → PutBack taken slots n text →
    Keeps s.link p.envelope l → StandsFor text (record s { link = l.link }) → EnvelopeStands wrapped env l.envelope →
    EachGoesOnUnless over (changed_at n (λ _. record s { link = l.link }) p.sessions) →
    PeerStands wrapped (record session { envelope = env; slots = slots; is_over = over }) (record p { envelope = l.envelope; sessions = changed_at n (λ _. record s { link = l.link }) p.sessions })
unfolding PeerStands
line_stands wrapped session env taken slots text over p n s l is stands at put keeps text_stands envelope goes =
    let after : Session = record s { link = l.link } in
    record {
      role_is = is.role_is;
      timers_are = is.timers_are;
      own_is = is.own_is ∙ sym keeps.own;
      envelope_stands = envelope;
      remote_is = is.remote_is;
      name_is = is.name_is;
      asks_is = is.asks_is;
      slots_stand = slots_put taken slots p.sessions n s after text stands at put text_stands refl refl refl;
      whole = put.whole;
      sound = sound_changed p.sessions n after is.sound (still_sound n s after (sound_at p.sessions n s is.sound at) keeps.kid refl (λ keyed read. read));
      each_goes_on = goes;
    }

-- a call of its link has gone on with what was done so far
pub line_done : {W : Type 0} (wrapped : W → Wrapping) (session : SessionState W) (env : Envelope W) (taken slots : Slots SessionChannels) (text : SessionChannels)
    (turn : Turn) (before middle after : Contents) (to : Addr) (n : ℕ) (s : Session) (l : link.Outcome) (o : Outcome Turn) →
    session.is_over ≡ is_end turn → HasDone wrapped session turn before middle to o → SlotsStand StandsFor taken o.peer.sessions → slice_get o.peer.sessions n ≡ Some s →
    PutBack taken slots n text → Keeps s.link o.peer.envelope l → s.link.spent ≡ false → lines.Leaves wrapped text env middle after to (linked s l) →
    HasDone wrapped (record session { envelope = env; slots = slots; is_over = is_end (first_over turn (turn_of l.end)) }) (first_over turn (turn_of l.end)) before after to (gone_on n l o)
unfolding PeerStands
line_done wrapped session env taken slots text turn before middle after to n s l o over done stands at put keeps spent left =
    let ss = o.peer.sessions in
    let next : Session = record s { link = l.link } in
    let turned = first_over turn (turn_of l.end) in
    let goes : EachGoesOnUnless (is_end turned) (changed_at n (λ _. next) ss) =
    ended_goes turn l.end ss (changed_at n (λ _. next) ss) (same_over wrapped session turn o.peer over done.left.peer)
    (λ none each. goes_changed ss n next each (keeps.goes_on spent none)) in
    record {
      left = record {
        peer = subst (λ (all : List Session). PeerStands wrapped (record session { envelope = env; slots = slots; is_over = is_end turned }) (record o.peer { envelope = l.envelope; sessions = all }))
            (alike ss n s (λ _. next) (λ t. record t { link = l.link }) at refl)
            (line_stands wrapped session env taken slots text (is_end turned) o.peer n s l done.left.peer stands at put keeps left.session left.envelope goes);
        outbox = staged_more to before.staged o.datagrams l.datagrams middle after (before.effects ++ actions_of o.peer.role o.doings) done.left.outbox (left.outbox o.peer.role);
      };
      answer = ap (λ (t : Turn). first_over t (turn_of l.end)) done.answer;
    }

turned_so : {W : Type 0} (wrapped : W → Wrapping) (session : SessionState W) (turn later turned : Turn) (over : Bool) (end : Option LinkEnd) (before after : Contents) (to : Addr)
    (o : Outcome Turn) → later ≡ turn_of end → turned ≡ first_over turn later → over ≡ is_end turned →
    HasDone wrapped (record session { is_over = is_end (first_over turn (turn_of end)) }) (first_over turn (turn_of end)) before after to o →
    HasDone wrapped (record session { is_over = over }) turned before after to o
turned_so wrapped session turn later turned over end before after to o later_is turned_is over_is done =
    subst (λ (b : Bool). HasDone wrapped (record session { is_over = b }) turned before after to o) (sym over_is)
    (subst (λ (t : Turn). HasDone wrapped (record session { is_over = is_end t }) t before after to o) (sym (turned_is ∙ ap (first_over turn) later_is)) done)

-- the same by what the call answered
pub line_came : {W : Type 0} (wrapped : W → Wrapping) (session : SessionState W) (env : Envelope W) (taken slots : Slots SessionChannels) (text : SessionChannels)
    (turn later turned : Turn) (over : Bool) (before middle after : Contents) (to : Addr) (n : ℕ) (s : Session) (l : link.Outcome) (o : Outcome Turn) →
    session.is_over ≡ is_end turn → HasDone wrapped session turn before middle to o → SlotsStand StandsFor taken o.peer.sessions → slice_get o.peer.sessions n ≡ Some s →
    PutBack taken slots n text → Keeps s.link o.peer.envelope l → s.link.spent ≡ false → lines.Leaves wrapped text env middle after to (linked s l) →
    later ≡ turn_of l.end → turned ≡ first_over turn later → over ≡ is_end turned →
    HasDone wrapped (record session { envelope = env; slots = slots; is_over = over }) turned before after to (gone_on n l o)
line_came wrapped session env taken slots text turn later turned over before middle after to n s l o was done stands at put keeps spent left later_is turned_is over_is =
    turned_so wrapped (record session { envelope = env; slots = slots }) turn later turned over l.end before after to (gone_on n l o) later_is turned_is over_is
    (line_done wrapped session env taken slots text turn before middle after to n s l o was done stands at put keeps spent left)

-- ---- the retired session is that of before

last_changed : (n : ℕ) (f : Session → Session) (ss : List Session) → ((s : Session) → has_keys (f s) ≡ has_keys s) → last_place has_keys (changed_at n f ss) ≡ last_place has_keys ss
last_changed n f [] same = refl
last_changed zero f (x ∷ ss) same = ap (λ (b : Bool). later b (last_place has_keys ss)) (same x)
last_changed (suc n) f (x ∷ ss) same = ap (later (has_keys x)) (last_changed n f ss same)

front_changed : (m n : ℕ) (f : Session → Session) (ss : List Session) → take m (changed_at n f ss) ≡ changed_at n f (take m ss)
front_changed zero n f ss = refl
front_changed (suc m) n f [] = refl
front_changed (suc m) zero f (x ∷ ss) = refl
front_changed (suc m) (suc n) f (x ∷ ss) = ap (λ (ys : List Session). x ∷ ys) (front_changed m n f ss)

at_changed : {X : Type 0} (seen : Option Session → X) (n m : ℕ) (f : Session → Session) (ss : List Session) → ((s : Session) → seen (Some (f s)) ≡ seen (Some s)) →
    seen (slice_get (changed_at n f ss) m) ≡ seen (slice_get ss m)
at_changed seen n m f [] same = refl
at_changed seen zero zero f (x ∷ ss) same = same x
at_changed seen zero (suc m) f (x ∷ ss) same = refl
at_changed seen (suc n) zero f (x ∷ ss) same = refl
at_changed seen (suc n) (suc m) f (x ∷ ss) same = at_changed seen n m f ss same

some_changed : {X : Type 0} (seen : Option Session → X) (n : ℕ) (f : Session → Session) (ss : List Session) (o : Option ℕ) → ((s : Session) → seen (Some (f s)) ≡ seen (Some s)) →
    seen (session_at (changed_at n f ss) o) ≡ seen (session_at ss o)
some_changed seen n f ss None same = refl
some_changed seen n f ss (Some m) same = at_changed seen n m f ss same

newest_changed : (n : ℕ) (f : Session → Session) (ss : List Session) → ((s : Session) → has_keys (f s) ≡ has_keys s) → newest_usable (changed_at n f ss) ≡ newest_usable ss
unfolding newest_usable
newest_changed n f ss same = last_changed n f ss same

before_changed : (n : ℕ) (f : Session → Session) (ss : List Session) (o : Option ℕ) → ((s : Session) → has_keys (f s) ≡ has_keys s) → keyed_before (changed_at n f ss) o ≡ keyed_before ss o
before_changed n f ss None same = refl
before_changed n f ss (Some m) same = ap (last_place has_keys) (front_changed m n f ss) ∙ last_changed n f (take m ss) same

retiring_changed : (n : ℕ) (f : Session → Session) (ss : List Session) → ((s : Session) → has_keys (f s) ≡ has_keys s) → retiring (changed_at n f ss) ≡ retiring ss
unfolding retiring
retiring_changed n f ss same = ap (keyed_before (changed_at n f ss)) (newest_changed n f ss same) ∙ before_changed n f ss (newest_usable ss) same

transition_changed : (timers : Timers) (at n : ℕ) (f : Session → Session) (ss : List Session) → ((s : Session) → has_keys (f s) ≡ has_keys s) → ((s : Session) → (f s).began ≡ s.began) →
    in_transition timers at (changed_at n f ss) ≡ in_transition timers at ss
unfolding in_transition
transition_changed timers at n f ss same began =
    ap (λ (o : Option ℕ). not (began_before timers.tran at (session_at (changed_at n f ss) o))) (newest_changed n f ss same)
    ∙ some_changed (λ (s : Option Session). not (began_before timers.tran at s)) n f ss (newest_usable ss) (λ s. ap (λ (m : ℕ). not (has_passed timers.tran m at)) (began s))

retired_linked : (n at : ℕ) (l : link.Outcome) (o : Outcome Turn) → retired (gone_on n l o).peer at ≡ retired o.peer at
unfolding retired
retired_linked n at l o =
    let ss = o.peer.sessions in
    let f : Session → Session = λ s. record s { link = l.link } in
    ap (λ (r : Option ℕ). retired_if r (is_open_session (session_at (changed_at n f ss) r)) (in_transition o.peer.timers at (changed_at n f ss))) (retiring_changed n f ss (λ s. refl))
    ∙ ap (λ (b : Bool). retired_if (retiring ss) b (in_transition o.peer.timers at (changed_at n f ss))) (some_changed is_open_session n f ss (retiring ss) (λ s. refl))
    ∙ ap (retired_if (retiring ss) (is_open_session (session_at ss (retiring ss)))) (transition_changed o.peer.timers at n f ss (λ s. refl) (λ s. refl))

retired_in : (n now at : ℕ) (o : Outcome Turn) (s : Option Session) → retired (resent_in n now o s).peer at ≡ retired o.peer at
retired_in n now at o None = refl
retired_in n now at o (Some s) = retired_linked n at (link.ticked s.link o.peer.envelope (remote_of o.peer) now) o

-- what is due was sent again
pub retired_still : (numbers : List ℕ) (now at : ℕ) (o : Outcome Turn) → retired (resent now numbers o).peer at ≡ retired o.peer at
retired_still [] now at o = refl
retired_still (n ∷ numbers) now at o =
    retired_still numbers now at (resent_in n now o (slice_get o.peer.sessions n)) ∙ retired_in n now at o (slice_get o.peer.sessions n)

-- ---- the retired session is closed

retired_by : (o : Option ℕ) (is_open usable : Bool) (n : ℕ) → retired_if o is_open usable ≡ Some n → (o ≡ Some n) × (is_open ≡ true)
retired_by None is_open usable n is = absurd (none-some n is)
retired_by (Some m) false usable n is = absurd (none-some n is)
retired_by (Some m) true true n is = absurd (none-some n is)
retired_by (Some m) true false n is = (is, refl)

-- it is there
pub retired_there : (p : Peer) (at n : ℕ) → retired p at ≡ Some n → true ≡ is_open_session (slice_get p.sessions n)
unfolding retired
retired_there p at n is =
    let by = retired_by (retiring p.sessions) (is_open_session (session_at p.sessions (retiring p.sessions))) (in_transition p.timers at p.sessions) n is in
    sym by.1 ∙ ap (λ (o : Option ℕ). is_open_session (session_at p.sessions o)) by.0

closed_stands : {W : Type 0} (wrapped : W → Wrapping) (session : SessionState W) (slots : Slots SessionChannels) (p : Peer) (n : ℕ) (s : Session) →
    IsPeerOf wrapped session p → slice_get p.sessions n ≡ Some s → SlotsStand StandsFor slots (changed_at n closed p.sessions) → IsWhole slots →
    PeerStands wrapped (record session { slots = slots }) (closed_at n p)
unfolding PeerStands
closed_stands wrapped session slots p n s is at stands whole =
    let ss = p.sessions in
    let same : changed_at n (λ _. closed s) ss ≡ changed_at n closed ss = alike ss n s (λ _. closed s) closed at refl in
    let was = sound_at ss n s is.sound at in
    record {
      role_is = is.role_is;
      timers_are = is.timers_are;
      own_is = is.own_is;
      envelope_stands = is.envelope_stands;
      remote_is = is.remote_is;
      name_is = is.name_is;
      asks_is = is.asks_is;
      slots_stand = stands;
      whole = whole;
      sound = subst (EachIsSound 0) same (sound_changed ss n (closed s) is.sound (record { kid = was.kid; read = was.read }));
      each_goes_on = subst (EachGoesOnUnless session.is_over) same (goes_if session.is_over (changed_at n (λ _. closed s) ss)
          (λ going. let each = goes_of session.is_over ss going is.each_goes_on in goes_changed ss n (closed s) each (goes_at ss n s each at)));
    }

-- there is none to close
pub none_done : {W : Type 0} (wrapped : W → Wrapping) (session : SessionState W) (slots : Slots SessionChannels) (turn : Turn) (before middle : Contents) (to : Addr)
    (o : Outcome Turn) (r : Option ℕ) → false ≡ is_some r → SlotsStand StandsFor slots (closed_in r o.peer.sessions) → IsWhole slots →
    HasDone wrapped session turn before middle to o → HasDone wrapped (record session { slots = slots }) turn before middle to (session_closed r o)
none_done wrapped session slots turn before middle to o None none stands whole done = record {
  left = record { peer = slots_same wrapped session slots o.peer done.left.peer (λ _. stands) (λ _. whole); outbox = done.left.outbox };
  answer = done.answer;
}
none_done wrapped session slots turn before middle to o (Some n) none stands whole done = absurd (false≢true none)

one_done : {W : Type 0} (wrapped : W → Wrapping) (session : SessionState W) (slots : Slots SessionChannels) (turn : Turn) (before middle after : Contents) (to : Addr)
    (o : Outcome Turn) (n : ℕ) (s : Session) → slice_get o.peer.sessions n ≡ Some s → SlotsStand StandsFor slots (changed_at n closed o.peer.sessions) → IsWhole slots →
    Holds after (middle.effects ++ actions_of o.peer.role (Closes s.link.conn ∷ [])) middle.staged →
    HasDone wrapped session turn before middle to o → HasDone wrapped (record session { slots = slots }) turn before after to (session_closed (Some n) o)
unfolding PeerStands
one_done wrapped session slots turn before middle after to o n s at stands whole holds done = record {
  left = record {
    peer = closed_stands wrapped session slots o.peer n s done.left.peer at stands whole;
    outbox = subst (λ (ds : List Doing). Holds after (before.effects ++ actions_of o.peer.role (o.doings ++ ds)) (before.staged ++ datagrams_to to o.datagrams)) (ap closing (sym at))
        (then_done o.peer.role before.effects o.doings (Closes s.link.conn ∷ []) middle after (before.staged ++ datagrams_to to o.datagrams) done.left.outbox holds);
  };
  answer = done.answer;
}

-- the text that was given tells the connection that is closed
pub closed_done : {W : Type 0} (wrapped : W → Wrapping) (session : SessionState W) (slots : Slots SessionChannels) (text : SessionChannels) (turn : Turn)
    (before middle after : Contents) (to : Addr) (o : Outcome Turn) (at : ℕ) (r : Option ℕ) → retired o.peer at ≡ r → true ≡ is_some r →
    SlotsStand StandsFor slots (closed_in r o.peer.sessions) → IsWhole slots → ((s : Session) → session_at o.peer.sessions r ≡ Some s → StandsFor text s) →
    ((s : Session) → StandsFor text s → (end : Role) → Holds after (middle.effects ++ actions_of end (Closes s.link.conn ∷ [])) middle.staged) →
    HasDone wrapped session turn before middle to o → HasDone wrapped (record session { slots = slots }) turn before after to (session_closed r o)
closed_done wrapped session slots text turn before middle after to o at None is some stands whole text_stands holds done = absurd (false≢true (sym some))
closed_done wrapped session slots text turn before middle after to o at (Some n) is some stands whole text_stands holds done =
    let there = open_there (slice_get o.peer.sessions n) (retired_there o.peer at n is) in
    one_done wrapped session slots turn before middle after to o n there.session there.here stands whole
    (holds there.session (text_stands there.session there.here) o.peer.role) done

-- ---- the next session begins

end_at : (ss : List Session) (s : Session) → slice_get (ss ++ s ∷ []) (length ss) ≡ Some s
end_at [] s = refl
end_at (x ∷ ss) s = end_at ss s

end_changed : (ss : List Session) (s : Session) (f : Session → Session) → changed_at (length ss) f (ss ++ s ∷ []) ≡ ss ++ f s ∷ []
end_changed [] s f = refl
end_changed (x ∷ ss) s f = ap (λ (ys : List Session). x ∷ ys) (end_changed ss s f)

-- its link, once its reset was sent
abbrev pub reset_sent : Conn → ℕ → Peer → link.Outcome
reset_sent conn now p = link.with_ready (next_session conn now p).link p.envelope [] (remote_of p) now

abbrev pub with_begun : Conn → Outcome Turn → Session → link.Outcome → Outcome Turn
with_begun conn o s l = record {
  peer = record o.peer { envelope = l.envelope; sessions = o.peer.sessions ++ s ∷ [] };
  doings = o.doings ++ Opens conn ∷ [];
  datagrams = o.datagrams ++ l.datagrams;
  answer = first_over o.answer (turn_of l.end);
}

pub renewed_is : (t : Ticking) (o : Outcome Turn) →
    with_begun t.next_conn o (record (next_session t.next_conn t.at o.peer) { link = (reset_sent t.next_conn t.at o.peer).link }) (reset_sent t.next_conn t.at o.peer) ≡ renewed t true o
renewed_is t o =
    let ss = o.peer.sessions in
    let s = next_session t.next_conn t.at o.peer in
    let l = reset_sent t.next_conn t.at o.peer in
    let so_far : Outcome Turn = record o { peer = with_next t.next_conn t.at o.peer; doings = o.doings ++ Opens t.next_conn ∷ [] } in
    ap (λ (all : List Session). record (gone_on (length ss) l so_far) { peer = record so_far.peer { envelope = l.envelope; sessions = all } }) (sym (end_changed ss s (λ x. record x { link = l.link })))
    ∙ ap (ready_sent_in (length ss) t.at so_far) (sym (end_at ss s))

begun_stands : {W : Type 0} (wrapped : W → Wrapping) (session : SessionState W) (env : Envelope W) (slots : Slots SessionChannels) (blank : Option SessionBlank) (over : Bool) (p : Peer) (s : Session) (l : link.Outcome) →
    IsPeerOf wrapped session p → Keeps s.link p.envelope l → s.link.kid ≡ kid_of (length p.sessions) → s.stage ≡ Opening → EnvelopeStands wrapped env l.envelope →
    SlotsStand StandsFor slots (p.sessions ++ record s { link = l.link } ∷ []) → IsWhole slots → EachGoesOnUnless over (p.sessions ++ record s { link = l.link } ∷ []) →
    PeerStands wrapped (record session { envelope = env; slots = slots; blank = blank; is_over = over }) (record p { envelope = l.envelope; sessions = p.sessions ++ record s { link = l.link } ∷ [] })
unfolding PeerStands
begun_stands wrapped session env slots blank over p s l is keeps kid stage envelope stands whole goes = record {
  role_is = is.role_is;
  timers_are = is.timers_are;
  own_is = is.own_is ∙ sym keeps.own;
  envelope_stands = envelope;
  remote_is = is.remote_is;
  name_is = is.name_is;
  asks_is = is.asks_is;
  slots_stand = stands;
  whole = whole;
  sound = sound_more p.sessions (record s { link = l.link }) is.sound
      (record { kid = keeps.kid ∙ kid; read = λ keyed. absurd (false≢true (sym (ap is_keyed stage) ∙ keyed)) });
  each_goes_on = goes;
}

-- its connection was opened, and what may be sent of it was sent
pub begun_done : {W : Type 0} (wrapped : W → Wrapping) (session : SessionState W) (env : Envelope W) (slots : Slots SessionChannels) (blank : Option SessionBlank) (text : SessionChannels)
    (turn : Turn) (before middle opened after : Contents) (to : Addr) (t : Ticking) (o : Outcome Turn) →
    session.is_over ≡ is_end turn → HasDone wrapped session turn before middle to o →
    Holds opened (middle.effects ++ EngineOpen t.next_conn session.role ∷ []) middle.staged →
    lines.Leaves wrapped text env opened after to (linked (next_session t.next_conn t.at o.peer) (reset_sent t.next_conn t.at o.peer)) →
    SlotsStand StandsFor slots (o.peer.sessions ++ record (next_session t.next_conn t.at o.peer) { link = (reset_sent t.next_conn t.at o.peer).link } ∷ []) → IsWhole slots →
    HasDone wrapped (record session { envelope = env; slots = slots; blank = blank; is_over = is_end (first_over turn (turn_of (reset_sent t.next_conn t.at o.peer).end)) })
    (first_over turn (turn_of (reset_sent t.next_conn t.at o.peer).end)) before after to (renewed t true o)
unfolding PeerStands
begun_done wrapped session env slots blank text turn before middle opened after to t o over done opens left stands whole =
    let ss = o.peer.sessions in
    let s = next_session t.next_conn t.at o.peer in
    let l = reset_sent t.next_conn t.at o.peer in
    let turned = first_over turn (turn_of l.end) in
    let keeps = ready_keeps s.link o.peer.envelope [] (remote_of o.peer) t.at in
    let goes : EachGoesOnUnless (is_end turned) (ss ++ record s { link = l.link } ∷ []) =
    ended_goes turn l.end ss (ss ++ record s { link = l.link } ∷ []) (same_over wrapped session turn o.peer over done.left.peer)
    (λ none each. goes_more ss (record s { link = l.link }) each (keeps.goes_on refl none)) in
    let first = then_done o.peer.role before.effects o.doings (Opens t.next_conn ∷ []) middle opened (before.staged ++ datagrams_to to o.datagrams) done.left.outbox
    (subst (λ (role : Role). Holds opened (middle.effects ++ EngineOpen t.next_conn role ∷ []) middle.staged) done.left.peer.role_is opens) in
    subst (HasDone wrapped (record session { envelope = env; slots = slots; blank = blank; is_over = is_end turned }) turned before after to) (renewed_is t o)
    (record {
      left = record {
        peer = begun_stands wrapped session env slots blank (is_end turned) o.peer s l done.left.peer keeps refl refl left.envelope stands whole goes;
        outbox = staged_more to before.staged o.datagrams l.datagrams opened after (before.effects ++ actions_of o.peer.role (o.doings ++ Opens t.next_conn ∷ [])) first (left.outbox o.peer.role);
      };
      answer = ap (λ (r : Turn). first_over r (turn_of l.end)) done.answer;
    })

-- the same by what the call answered
pub begun_came : {W : Type 0} (wrapped : W → Wrapping) (session : SessionState W) (env : Envelope W) (slots : Slots SessionChannels) (blank : Option SessionBlank) (text : SessionChannels)
    (turn later turned : Turn) (over : Bool) (before middle opened after : Contents) (to : Addr) (t : Ticking) (o : Outcome Turn) →
    session.is_over ≡ is_end turn → HasDone wrapped session turn before middle to o →
    Holds opened (middle.effects ++ EngineOpen t.next_conn session.role ∷ []) middle.staged →
    lines.Leaves wrapped text env opened after to (linked (next_session t.next_conn t.at o.peer) (reset_sent t.next_conn t.at o.peer)) →
    SlotsStand StandsFor slots (o.peer.sessions ++ record (next_session t.next_conn t.at o.peer) { link = (reset_sent t.next_conn t.at o.peer).link } ∷ []) → IsWhole slots →
    later ≡ turn_of (reset_sent t.next_conn t.at o.peer).end → turned ≡ first_over turn later → over ≡ is_end turned →
    HasDone wrapped (record session { envelope = env; slots = slots; blank = blank; is_over = over }) turned before after to (renewed t true o)
begun_came wrapped session env slots blank text turn later turned over before middle opened after to t o was done opens left stands whole later_is turned_is over_is =
    turned_so wrapped (record session { envelope = env; slots = slots; blank = blank }) turn later turned over (reset_sent t.next_conn t.at o.peer).end before after to (renewed t true o)
    later_is turned_is over_is
    (begun_done wrapped session env slots blank text turn before middle opened after to t o was done opens left stands whole)

-- it has the next number
pub next_number : (ss : List Session) (seen : Newest) → newest_seen ss ≡ Some seen → seen.number + 1 ≡ length ss
next_number ss seen is =
    let at = newest_at ss seen is in
    let here : newest ss ≡ seen.number = ap (λ (r : Newest). r.number) at.seen_so in
    let some = begun_there ss (newest ss) at.session at.here in
    omega (arith, here, some)
  where
    begun_there : (ss : List Session) (n : ℕ) (s : Session) → slice_get ss n ≡ Some s → 1 ≤ length ss
    begun_there [] n s at = absurd (none-some s at)
    begun_there (x ∷ ss) n s at = omega arith

-- ---- going on

pub may_go : {W : Type 0} (session : SessionState W) → GoesOn session → MayGoOn session
unfolding GoesOn MayGoOn
may_go session goes = record {
  not_over = refl;
  whole = goes.whole;
  some_ids = goes.some_ids;
  some_timeout = goes.some_timeout;
  short_timeout = goes.short_timeout;
  blank_for = goes.blank_for;
}

pub may_whole : {W : Type 0} (session : SessionState W) → MayGoOn session → IsWhole session.slots
unfolding GoesOn MayGoOn
may_whole session may = may.whole

pub may_blank : {W : Type 0} (session : SessionState W) → MayGoOn session → BlankIsFor session.blank session.timers
unfolding GoesOn MayGoOn
may_blank session may = may.blank_for

pub may_with : {W : Type 0} (session : SessionState W) (env : Envelope W) (slots : Slots SessionChannels) (over : Bool) → MayGoOn session → IsWhole slots →
    MayGoOn (record session { envelope = env; slots = slots; is_over = over })
unfolding GoesOn MayGoOn
may_with session env slots over may whole = record {
  not_over = refl;
  whole = whole;
  some_ids = may.some_ids;
  some_timeout = may.some_timeout;
  short_timeout = may.short_timeout;
  blank_for = may.blank_for;
}

pub may_begun : {W : Type 0} (session : SessionState W) (env : Envelope W) (slots : Slots SessionChannels) (blank : Option SessionBlank) (over : Bool) → MayGoOn session → IsWhole slots →
    blank ≡ None → MayGoOn (record session { envelope = env; slots = slots; blank = blank; is_over = over })
unfolding GoesOn MayGoOn
may_begun session env slots blank over may whole none = record {
  not_over = refl;
  whole = whole;
  some_ids = may.some_ids;
  some_timeout = may.some_timeout;
  short_timeout = may.short_timeout;
  blank_for = subst (λ (b : Option SessionBlank). BlankIsFor b session.timers) (sym none) tt;
}

goes_now : {W : Type 0} (session : SessionState W) → MayGoOn session → session.is_over ≡ false → GoesOn session
unfolding GoesOn MayGoOn
goes_now session may is = record {
  not_over = is;
  whole = may.whole;
  some_ids = may.some_ids;
  some_timeout = may.some_timeout;
  short_timeout = may.short_timeout;
  blank_for = may.blank_for;
}

-- unless its turn is over
pub goes_unless : {W : Type 0} (session : SessionState W) (turn : Turn) → MayGoOn session → session.is_over ≡ is_end turn → GoesOnUnlessOver (GoesOn session) turn
goes_unless session Going may is = goes_now session may is
goes_unless session Ignored may is = goes_now session may is
goes_unless session Named may is = goes_now session may is
goes_unless session Exchange may is = goes_now session may is
goes_unless session (Over cause) may is = tt

pub not_over : {W : Type 0} (session : SessionState W) → GoesOn session → session.is_over ≡ false
unfolding GoesOn
not_over session goes = goes.not_over

-- no link has ended before
pub each_goes : {W : Type 0} (wrapped : W → Wrapping) (session : SessionState W) (p : Peer) → GoesOn session → PeerStands wrapped session p → EachGoesOn p.sessions
unfolding GoesOn PeerStands
each_goes wrapped session p goes is = goes_of session.is_over p.sessions goes.not_over is.each_goes_on

pub tick_taken : {W : Type 0} (session : SessionState W) (effects bytes : ℕ) → IsReady session Tick effects bytes → TakesTick session effects bytes
unfolding IsReady
tick_taken session effects bytes ready = ready.own

-- the moment at which it last closed one changes nothing of the rest
pub done_at : {W : Type 0} (wrapped : W → Wrapping) (session : SessionState W) (turn : Turn) (before after : Contents) (to : Addr) (o : Outcome Turn) (moment : Moment) →
    HasDone wrapped session turn before after to o → HasDone wrapped (record session { since = moment }) turn before after to o
unfolding PeerStands
done_at wrapped session turn before after to o moment done = record {
  left = record {
    peer = let is = done.left.peer in record {
      role_is = is.role_is;
      timers_are = is.timers_are;
      own_is = is.own_is;
      envelope_stands = is.envelope_stands;
      remote_is = is.remote_is;
      name_is = is.name_is;
      asks_is = is.asks_is;
      slots_stand = is.slots_stand;
      whole = is.whole;
      sound = is.sound;
      each_goes_on = is.each_goes_on;
    };
    outbox = done.left.outbox;
  };
  answer = done.answer;
}

pub may_at : {W : Type 0} (session : SessionState W) (moment : Moment) → MayGoOn session → MayGoOn (record session { since = moment })
unfolding GoesOn MayGoOn
may_at session moment may = record {
  not_over = refl;
  whole = may.whole;
  some_ids = may.some_ids;
  some_timeout = may.some_timeout;
  short_timeout = may.short_timeout;
  blank_for = may.blank_for;
}

-- ---- the whole

-- nothing was done yet
pub none_yet : {W : Type 0} (wrapped : W → Wrapping) (session : SessionState W) (turn : Turn) (before middle : Contents) (to : Addr) (p : Peer) → PeerStands wrapped session p →
    Holds middle before.effects before.staged → HasDone wrapped session turn before middle to (answered p turn)
none_yet wrapped session turn before middle to p stands holds = record {
  left = record { peer = stands; outbox = (holds.0 ∙ sym (append-nil before.effects), holds.1 ∙ sym (append-nil before.staged)) };
  answer = refl;
}

pub late_ends : (p : Peer) (t : Ticking) → true ≡ is_late p t → answered p (Over HandWindow) ≡ ticked t p
unfolding ticked
late_ends p t late = ap (ticked_late p t) late

pub idle_ends : (p : Peer) (t : Ticking) → false ≡ is_late p t → true ≡ t.idle → answered p (Over PingRestart) ≡ ticked t p
unfolding ticked
idle_ends p t late idle = ap (ticked_idle p t) idle ∙ ap (ticked_late p t) late

pub all_gone : (p : Peer) (t : Ticking) (next : Bool) → false ≡ is_late p t → false ≡ t.idle → next ≡ renews p t → gone_with p t next ≡ ticked t p
unfolding ticked
all_gone p t next late idle is = ap (gone_with p t) is ∙ ap (ticked_idle p t) idle ∙ ap (ticked_late p t) late
