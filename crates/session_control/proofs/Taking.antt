-- A control packet is taken by one key session: what the client's session stands for then, and what is answered.
use Rattle.std.proofs.Common.{◌≡◌, ◌++◌, ◌+◌, ℕ, Bool, false, List, Option, Some, None, Result, Ok, Err, OnOk, OnErr, IfOk, IsOk, refl, ap, sym, subst, ◌∙◌}
use Rattle.std.specs.Prelude.{is_some, slice_get}
use Rattle.std.specs.Option.{option_or}
use Rattle.std.proofs.lemmas.Bool.{false≢true}
use Rattle.std.proofs.lemmas.List.{append-nil}
use Rattle.vpn_base.specs.declared.address.Addr.{Addr}
use Rattle.vpn_base.specs.declared.errors.Or.{Or}
use Rattle.vpn_base.specs.declared.errors.Or.TheVariants.{Memory, Why}
use Rattle.vpn_base.specs.declared.names.Role.TheVariants.{Server}
use Rattle.vpn_base.specs.declared.names.Sid.{Sid}
use Rattle.vpn_links.specs.Actions.{Action, Contents, Datagram, Holds}
use Rattle.reliable_send.specs.Sides.{IsNotMemory}
use Rattle.tls_crypt.specs.Packets.{Wrapping}
use Rattle.control_link.specs.declared.envelope.Envelope.{Envelope}
use Rattle.control_link.specs.declared.link.LinkEnd.{LinkEnd}
use Rattle.control_link.specs.Calls.{Told, datagrams_to}
use Rattle.control_link.specs.Envelope.{EnvelopeHistory, EnvelopeStands}
use Rattle.key_sessions.specs.declared.slots.Slots.{Slots}
use Rattle.key_sessions.specs.Slots.{IsWhole, SlotsStand, newest_number}
use Rattle.peer_lines.specs.declared.channels.SessionChannels.{SessionChannels}
use Rattle.peer_lines.specs.Calls.{GoesOn as LinkGoesOn, Leaves as LineLeaves, LineOutcome, packet_taken, still, unless_wanting}
use Rattle.peer_lines.specs.Standing.{StandsFor}
use Rattle.peer_table.specs.declared.outcomes.Turn.{Turn}
use Rattle.peer_table.specs.ControlPackets.{Incoming, sender, taken_by, wrap_accepted}
use Rattle.peer_table.specs.KeySessions.{Session}
use Rattle.peer_table.specs.Outboxes.{GoesOnUnlessOver, Leaves, actions_of}
use Rattle.peer_table.specs.Peer.{Outcome, Peer, answered, turn_of}
use Rattle.peer_table.specs.Places.{changed_at}
use Rattle.session_state.specs.declared.session.SessionState.{SessionState}
use Rattle.session_state.specs.Standing.{EachGoesOnUnless, EachIsSound, GoesOn, IsPeerOf, PeerStands, count}
use Rattle.session_control.specs.internal.Taking.{LineKept, LineLeft, end_only, end_told}
use Rattle.session_state.proofs.Keeping.{PutBack, alike, goes_changed, goes_if, goes_of, no_change, slots_put, sound_at, sound_changed, still_sound}
use Rattle.session_control.proofs.Wraps.{packet_own}

-- ---- in the slots

pub line_left : {W : Type 0} (wrapped : W → Wrapping) (taken slots : Slots SessionChannels) (text : SessionChannels) (env : Envelope W) (before after : Contents) (to : Addr)
    (ss : List Session) (n : ℕ) (s : Session) (h : EnvelopeHistory) (o : LineOutcome) (told : Result (Unit {0}) (Or LinkEnd)) →
    SlotsStand StandsFor taken ss → slice_get ss n ≡ Some s → PutBack taken slots n text →
    o.session.began ≡ s.began → o.session.is_open ≡ s.is_open → o.session.stage ≡ s.stage →
    LineLeaves wrapped text env before after to (unless_wanting told o (still s h)) →
    OnOk (end_told told) (LineLeft wrapped slots env before after to ss n o)
line_left wrapped taken slots text env before after to ss n s h o (Ok done) stands at put began is_open stage left = record {
  slots_stand = slots_put taken slots ss n s o.session text stands at put left.session began is_open stage;
  envelope = left.envelope;
  outbox = left.outbox;
}
line_left wrapped taken slots text env before after to ss n s h o (Err (Why end)) stands at put began is_open stage left = record {
  slots_stand = slots_put taken slots ss n s o.session text stands at put left.session began is_open stage;
  envelope = left.envelope;
  outbox = left.outbox;
}
line_left wrapped taken slots text env before after to ss n s h o (Err Memory) stands at put began is_open stage left = tt

pub line_kept : {W : Type 0} (wrapped : W → Wrapping) (taken slots : Slots SessionChannels) (text : SessionChannels) (env : Envelope W) (before after : Contents) (to : Addr)
    (ss : List Session) (n : ℕ) (s : Session) (h : EnvelopeHistory) (o : LineOutcome) (told : Result (Unit {0}) (Or LinkEnd)) →
    SlotsStand StandsFor taken ss → slice_get ss n ≡ Some s → PutBack taken slots n text →
    LineLeaves wrapped text env before after to (unless_wanting told o (still s h)) →
    OnErr (end_told told) (LineKept wrapped slots env before after ss h)
line_kept wrapped taken slots text env before after to ss n s h o (Ok done) stands at put left = tt
line_kept wrapped taken slots text env before after to ss n s h o (Err (Why end)) stands at put left = tt
line_kept wrapped taken slots text env before after to ss n s h o (Err Memory) stands at put left = record {
  slots_stand = subst (λ (xs : List Session). SlotsStand StandsFor slots xs) (no_change ss n s at) (slots_put taken slots ss n s s text stands at put left.session refl refl refl);
  envelope = left.envelope;
  outbox = ((left.outbox Server).0 ∙ append-nil before.effects, (left.outbox Server).1 ∙ append-nil before.staged);
}

pub told_ok : (told : Result (Unit {0}) (Or LinkEnd)) → IsNotMemory told → IsOk (end_told told)
told_ok (Ok done) is = refl
told_ok (Err (Why end)) is = refl
told_ok (Err Memory) is = elim is [ ]

-- the end that is told
pub told_end : (told : Result (Unit {0}) (Or LinkEnd)) (end : Option LinkEnd) → Told told end → IfOk (end_told told) (λ (e : Option LinkEnd). e ≡ end)
told_end (Ok done) end tells = sym tells
told_end (Err (Why e)) end tells = sym tells
told_end (Err Memory) end tells = tt

pub only_end : (told : Result (Unit {0}) (Or LinkEnd)) (end : Option LinkEnd) → IsNotMemory told → Told told end → end_only told ≡ end
only_end (Ok done) end is tells = sym tells
only_end (Err (Why e)) end is tells = sym tells
only_end (Err Memory) end is tells = elim is [ ]

pub not_wanting : (told : Result (Unit {0}) (Or LinkEnd)) (outcome before : LineOutcome) → IsNotMemory told → unless_wanting told outcome before ≡ outcome
not_wanting (Ok done) outcome before is = refl
not_wanting (Err (Why e)) outcome before is = refl
not_wanting (Err Memory) outcome before is = elim is [ ]

-- ---- the client

-- once the packet was taken in these sessions
pub all_stand : {W : Type 0} (wrapped : W → Wrapping) (before : SessionState W) (env : Envelope W) (slots : Slots SessionChannels) (remote fixed : Option Sid) (over : Bool)
    (p : Peer) (h : EnvelopeHistory) (ss : List Session) → IsPeerOf wrapped before p → EnvelopeStands wrapped env h → h.own ≡ p.envelope.own → remote ≡ fixed →
    SlotsStand StandsFor slots ss → IsWhole slots → EachIsSound 0 ss → EachGoesOnUnless over ss →
    PeerStands wrapped (record before { envelope = env; slots = slots; remote = remote; is_over = over }) (record p { envelope = h; remote = fixed; sessions = ss })
unfolding PeerStands
all_stand wrapped before env slots remote fixed over p h ss is envelope own same stands whole sound goes = record {
  role_is = is.role_is;
  timers_are = is.timers_are;
  own_is = is.own_is ∙ sym own;
  envelope_stands = envelope;
  remote_is = same;
  name_is = is.name_is;
  asks_is = is.asks_is;
  slots_stand = stands;
  whole = whole;
  sound = sound;
  each_goes_on = goes;
}

-- where nothing has changed for want of memory
pub kept_stands : {W : Type 0} (wrapped : W → Wrapping) (before : SessionState W) (env : Envelope W) (slots : Slots SessionChannels) (was is_now : Contents) (p : Peer) →
    IsPeerOf wrapped before p → LineKept wrapped slots env was is_now p.sessions p.envelope → IsWhole slots → PeerStands wrapped (record before { envelope = env; slots = slots }) p
kept_stands wrapped before env slots was is_now p is kept whole =
    all_stand wrapped before env slots before.remote p.remote before.is_over p p.envelope p.sessions is kept.envelope refl is.remote_is kept.slots_stand whole is.sound is.each_goes_on

none_told : {X : Type 0} (o : Option X) → false ≡ is_some o → o ≡ None
none_told None is = refl
none_told (Some x) is = absurd (false≢true is)

-- no end was told
pub not_told : {X : Type 0} (over : Bool) (end other : Option X) → over ≡ is_some end → end ≡ other → over ≡ false → other ≡ None
not_told over end other is same none = sym same ∙ none_told end (sym none ∙ is)

-- what a packet leaves that a session took
pub taken_left : {W : Type 0} (wrapped : W → Wrapping) (before : SessionState W) (middle env : Envelope W) (slots : Slots SessionChannels) (remote : Option Sid) (over : Bool) (end : Option LinkEnd)
    (was is_now : Contents) (to : Addr) (p : Peer) (i : Incoming) (n : ℕ) (s : Session) →
    IsPeerOf wrapped before p → before.is_over ≡ false → slice_get p.sessions n ≡ Some s →
    LinkGoesOn s (packet_taken s p.envelope i.form (sender i) i.moment.0) →
    LineLeft wrapped slots middle was is_now to p.sessions n (packet_taken s p.envelope i.form (sender i) i.moment.0) →
    end ≡ (packet_taken s p.envelope i.form (sender i) i.moment.0).end → over ≡ is_some end → IsWhole slots →
    EnvelopeStands wrapped env (wrap_accepted i (packet_taken s p.envelope i.form (sender i) i.moment.0).envelope) → remote ≡ option_or before.remote (Some (sender i)) →
    Leaves (PeerStands wrapped) (record before { envelope = env; slots = slots; remote = remote; is_over = over }) was is_now to (taken_by p i n (Some s))
unfolding packet_taken
taken_left wrapped before middle env slots remote over end was is_now to p i n s is not_over at goes left told is_over whole envelope same =
    let o = packet_taken s p.envelope i.form (sender i) i.moment.0 in
    record {
      peer = subst (λ (ss : List Session). PeerStands wrapped (record before { envelope = env; slots = slots; remote = remote; is_over = over })
          (record p { envelope = wrap_accepted i o.envelope; remote = option_or p.remote (Some (sender i)); sessions = ss }))
          (alike p.sessions n s (λ _. o.session) (λ t. record t { link = o.session.link }) at refl)
          (all_stand wrapped before env slots remote (option_or p.remote (Some (sender i))) over p (wrap_accepted i o.envelope) (changed_at n (λ _. o.session) p.sessions)
          is envelope (packet_own s p.envelope i.form (sender i) i.moment.0)
          (same ∙ ap (λ (r : Option Sid). option_or r (Some (sender i))) is.remote_is)
          left.slots_stand whole
          (sound_changed p.sessions n o.session is.sound (still_sound n s o.session (sound_at p.sessions n s is.sound at) goes.kid refl (λ keyed read. read)))
          (goes_if over (changed_at n (λ _. o.session) p.sessions)
          (λ none. goes_changed p.sessions n o.session (goes_of before.is_over p.sessions not_over is.each_goes_on) (goes.spent (not_told over end o.end is_over told none)))));
      outbox = left.outbox p.role;
    }

-- what is answered
pub taken_answer : (p : Peer) (i : Incoming) (n : ℕ) (s : Session) (end : Option LinkEnd) (turn : Turn) → end ≡ (packet_taken s p.envelope i.form (sender i) i.moment.0).end → turn ≡ turn_of end →
    Ok turn ≡ (taken_by p i n (Some s)).answer
unfolding packet_taken
taken_answer p i n s end turn told is = ap Ok (is ∙ ap turn_of told)

-- ---- whether it goes on

pub goes_on_turn : (end : Option LinkEnd) (turn : Turn) (X : Type 0) → turn ≡ turn_of end → (end ≡ None → X) → GoesOnUnlessOver X turn
goes_on_turn None turn X is goes = subst (GoesOnUnlessOver X) (sym is) (goes refl)
goes_on_turn (Some end) turn X is goes = subst (GoesOnUnlessOver X) (sym is) tt

pub goes_on_after : {W : Type 0} (before : SessionState W) (env : Envelope W) (slots : Slots SessionChannels) (remote : Option Sid) (over : Bool) → GoesOn before → over ≡ false → IsWhole slots →
    GoesOn (record before { envelope = env; slots = slots; remote = remote; is_over = over })
unfolding GoesOn
goes_on_after before env slots remote over goes not_over whole = record {
  not_over = not_over;
  whole = whole;
  some_ids = goes.some_ids;
  some_timeout = goes.some_timeout;
  short_timeout = goes.short_timeout;
  blank_for = goes.blank_for;
}

pub over_of : {X : Type 0} (over : Bool) (end : Option X) → over ≡ is_some end → end ≡ None → over ≡ false
over_of over end is none = is ∙ ap is_some none

pub is_not_over : {W : Type 0} (before : SessionState W) → GoesOn before → before.is_over ≡ false
unfolding GoesOn
is_not_over before goes = goes.not_over

-- the number of sessions stays
pub taken_count : {W : Type 0} (before : SessionState W) (env : Envelope W) (slots : Slots SessionChannels) (remote : Option Sid) (over : Bool) → newest_number slots ≡ newest_number before.slots →
    count (record before { envelope = env; slots = slots; remote = remote; is_over = over }) ≡ count before
unfolding count
taken_count before env slots remote over same = ap (λ (n : ℕ). n + 1) same

-- room alone changes nothing in an outbox
pub left_reserved : {S A : Type 0} (means : S → Peer → Type 0) (s : S) (before reserved after : Contents) (to : Addr) (o : Outcome A) → Holds reserved before.effects before.staged →
    Leaves means s reserved after to o → Leaves means s before after to o
left_reserved means s before reserved after to o same left = record {
  peer = left.peer;
  outbox = (
    left.outbox.0 ∙ ap (λ (es : List Action). es ++ actions_of o.peer.role o.doings) same.0,
    left.outbox.1 ∙ ap (λ (ds : List Datagram). ds ++ datagrams_to to o.datagrams) same.1,
  );
}

-- nothing was done
pub nothing_left : {S A : Type 0} (means : S → Peer → Type 0) (s : S) (c : Contents) (to : Addr) (p : Peer) (answer : A) → means s p → Leaves means s c c to (answered p answer)
nothing_left means s c to p answer is = record { peer = is; outbox = (sym (append-nil c.effects), sym (append-nil c.staged)) }
