-- The engine has text for the other end: what the link's call comes to in the client's session.
use Rattle.std.proofs.Common.{◌≡◌, ◌+◌, ℕ, Bool, true, false, List, Option, Some, Result, Ok, Err, refl, ap, sym, subst, ◌∙◌}
use Rattle.std.specs.Prelude.{slice_get, MatchResult, IsOk, IfOk}
use Rattle.std.proofs.lemmas.List.{append-nil}
use Rattle.vpn_base.specs.declared.address.Addr.{Addr}
use Rattle.vpn_base.specs.declared.errors.NoMemory.{NoMemory}
use Rattle.vpn_base.specs.declared.names.Sid.{Sid}
use Rattle.vpn_base.specs.declared.errors.Or.{Or}
use Rattle.vpn_base.specs.declared.errors.Or.TheVariants.{Memory, Why}
use Rattle.vpn_links.specs.Actions.{Contents}
use Rattle.tls_crypt.specs.Packets.{Wrapping}
use Rattle.reliable_send.specs.Sides.{IsNotMemory}
use Rattle.control_link.specs.declared.envelope.Envelope.{Envelope}
use Rattle.control_link.specs.declared.link.LinkEnd.{LinkEnd}
use Rattle.control_link.specs.Calls.{Told, said}
use Rattle.control_link.specs.Calls as link
use Rattle.control_link.specs.Envelope.{EnvelopeHistory, EnvelopeStands}
use Rattle.control_link.specs.Links.{Link}
use Rattle.peer_table.specs.declared.outcomes.Turn.{Turn}
use Rattle.peer_table.specs.declared.outcomes.Turn.TheVariants.{Going}
use Rattle.peer_table.specs.EngineAnswers.{next_turn, prepared_message, text_came, with_next_turn}
use Rattle.peer_table.specs.KeySessions.{Session}
use Rattle.peer_table.specs.Outboxes.{GoesOnUnlessOver, LeavesUnless}
use Rattle.peer_table.specs.Outboxes as boxes
use Rattle.peer_table.specs.Peer.{Outcome, Peer, answered, first_over, gone_on, remote_of, turn_of, with_link}
use Rattle.peer_table.specs.Places.{changed_at}
use Rattle.key_sessions.specs.declared.slots.Slots.{Slots}
use Rattle.key_sessions.specs.Slots.{IsWhole, SlotsStand, newest_number}
use Rattle.peer_lines.specs.declared.channels.SessionChannels.{SessionChannels}
use Rattle.peer_lines.specs.Calls.{Leaves, linked, still, text_offered, unless_wanting}
use Rattle.peer_lines.specs.Standing.{StandsFor}
use Rattle.session_state.specs.declared.session.SessionState.{SessionState}
use Rattle.session_state.specs.Standing.{EachGoesOn, EachGoesOnUnless, GoesOn, IsPeerOf, PeerStands, count}
use Rattle.session_engine.specs.internal.Turns.{is_over, turn_told}
use Rattle.session_state.proofs.Keeping.{PutBack, alike, goes_at, goes_changed, goes_of, line_put, no_change, slots_put, sound_at, sound_changed}
use Rattle.session_state.proofs.Lines.{Keeps, said_keeps}

-- a text is put back with another link, and the envelope has become another
pub link_put : {W : Type 0} (wrapped : W → Wrapping) (before : SessionState W) (env : Envelope W) (taken slots : Slots SessionChannels) (over : Bool)
    (p : Peer) (h : EnvelopeHistory) (n : ℕ) (s : Session) (l : Link) (text : SessionChannels) →
    IsPeerOf wrapped before p → SlotsStand StandsFor taken p.sessions → slice_get p.sessions n ≡ Some s → PutBack taken slots n text →
    StandsFor text (record s { link = l }) → l.kid ≡ s.link.kid → EnvelopeStands wrapped env h → h.own ≡ p.envelope.own →
    EachGoesOnUnless over (changed_at n (λ _. record s { link = l }) p.sessions) →
    PeerStands wrapped (record before { envelope = env; slots = slots; is_over = over }) (record (with_link n l p) { envelope = h })
unfolding PeerStands
link_put wrapped before env taken slots over p h n s l text is stands at put text_stands kid envelope own goes =
    let sound = sound_at p.sessions n s is.sound at in
    subst (λ (ss : List Session). PeerStands wrapped (record before { envelope = env; slots = slots; is_over = over }) (record p { envelope = h; sessions = ss }))
    (alike p.sessions n s (λ _. record s { link = l }) (λ t. record t { link = l }) at refl)
    (record {
      role_is = is.role_is;
      timers_are = is.timers_are;
      own_is = is.own_is ∙ sym own;
      envelope_stands = envelope;
      remote_is = is.remote_is;
      name_is = is.name_is;
      asks_is = is.asks_is;
      slots_stand = slots_put taken slots p.sessions n s (record s { link = l }) text stands at put text_stands refl refl refl;
      whole = put.whole;
      sound = sound_changed p.sessions n (record s { link = l }) is.sound (record { kid = kid ∙ sound.kid; read = sound.read });
      each_goes_on = goes;
    })

-- nothing has become of it
same_put : {W : Type 0} (wrapped : W → Wrapping) (before : SessionState W) (env : Envelope W) (taken slots : Slots SessionChannels)
    (p : Peer) (n : ℕ) (s : Session) (text : SessionChannels) →
    IsPeerOf wrapped before p → EachGoesOn p.sessions → SlotsStand StandsFor taken p.sessions → slice_get p.sessions n ≡ Some s → PutBack taken slots n text →
    StandsFor text s → EnvelopeStands wrapped env p.envelope → PeerStands wrapped (record before { envelope = env; slots = slots; is_over = false }) p
same_put wrapped before env taken slots p n s text is each stands at put text_stands envelope =
    subst (λ (ss : List Session). PeerStands wrapped (record before { envelope = env; slots = slots; is_over = false }) (record p { sessions = ss }))
    (no_change p.sessions n s at)
    (line_put wrapped before env taken slots false p p.envelope n s s text is stands at put text_stands
    (record { began = refl; is_open = refl; stage = refl; kid = refl; read = λ keyed read. read; spent = λ spent. spent }) envelope refl
    (goes_changed p.sessions n s each (goes_at p.sessions n s each at)))

-- what the call of the link leaves, as the client's session
pub line_leaves : {W A : Type 0} (wrapped : W → Wrapping) (before : SessionState W) (env : Envelope W) (taken slots : Slots SessionChannels)
    (p : Peer) (n : ℕ) (s : Session) (o : link.Outcome) (text : SessionChannels) (was is_now : Contents) (to : Addr) (r : Result A (Or LinkEnd)) →
    IsPeerOf wrapped before p → EachGoesOn p.sessions → SlotsStand StandsFor taken p.sessions → slice_get p.sessions n ≡ Some s → PutBack taken slots n text →
    Keeps s.link p.envelope o → Told r o.end → Leaves wrapped text env was is_now to (unless_wanting r (linked s o) (still s p.envelope)) →
    LeavesUnless (turn_told r) (PeerStands wrapped) (record before { envelope = env; slots = slots; is_over = is_over (turn_told r) }) was is_now to p (gone_on n o (answered p Going))
line_leaves wrapped before env taken slots p n s o text was is_now to (Ok a) is each stands at put keeps told left = record {
  peer = link_put wrapped before env taken slots false p o.envelope n s o.link text is stands at put left.session keeps.kid left.envelope keeps.own
      (goes_changed p.sessions n (record s { link = o.link }) each (keeps.goes_on (goes_at p.sessions n s each at) told));
  outbox = left.outbox p.role;
}
line_leaves wrapped before env taken slots p n s o text was is_now to (Err (Why end)) is each stands at put keeps told left = record {
  peer = link_put wrapped before env taken slots true p o.envelope n s o.link text is stands at put left.session keeps.kid left.envelope keeps.own tt;
  outbox = left.outbox p.role;
}
line_leaves wrapped before env taken slots p n s o text was is_now to (Err Memory) is each stands at put keeps told left =
    let kept = left.outbox p.role in
    (same_put wrapped before env taken slots p n s text is each stands at put left.session left.envelope, (kept.0 ∙ append-nil was.effects, kept.1 ∙ append-nil was.staged))

-- what it answers
pub line_answers : {A : Type 0} (end : Option LinkEnd) (r : Result A (Or LinkEnd)) → Told r end → IfOk (turn_told r) (λ turn. turn ≡ turn_of end)
line_answers end (Ok a) told = ap turn_of (sym told)
line_answers end (Err Memory) told = tt
line_answers end (Err (Why e)) told = ap turn_of (sym told)

-- it takes no memory where the link's call takes none
pub line_fits : {A : Type 0} (r : Result A (Or LinkEnd)) → IsNotMemory r → IsOk (turn_told r)
line_fits (Ok a) fits = refl
line_fits (Err Memory) fits = absurd fits
line_fits (Err (Why e)) fits = refl

-- it goes on, unless the link has ended
pub goes_with : {W : Type 0} (before : SessionState W) (env : Envelope W) (slots : Slots SessionChannels) → GoesOn before → IsWhole slots →
    GoesOn (record before { envelope = env; slots = slots; is_over = false })
unfolding GoesOn
goes_with before env slots goes whole = record {
  not_over = refl;
  whole = whole;
  some_ids = goes.some_ids;
  some_timeout = goes.some_timeout;
  short_timeout = goes.short_timeout;
  blank_for = goes.blank_for;
}

pub line_goes_on : {W A : Type 0} (before : SessionState W) (env : Envelope W) (slots : Slots SessionChannels) (r : Result A (Or LinkEnd)) → GoesOn before → IsWhole slots →
    MatchResult (turn_told r) (GoesOnUnlessOver (GoesOn (record before { envelope = env; slots = slots; is_over = is_over (turn_told r) })))
    (λ _. GoesOn (record before { envelope = env; slots = slots; is_over = is_over (turn_told r) }))
line_goes_on before env slots (Ok a) goes whole = goes_with before env slots goes whole
line_goes_on before env slots (Err Memory) goes whole = goes_with before env slots goes whole
line_goes_on before env slots (Err (Why e)) goes whole = tt

-- as many sessions stand in slots with the same last number
pub as_many : {W : Type 0} (before after : SessionState W) → newest_number after.slots ≡ newest_number before.slots → count after ≡ count before
unfolding count
as_many before after same = ap (λ (n : ℕ). n + 1) same

-- no link has ended where a session goes on
pub each_goes : {W : Type 0} (wrapped : W → Wrapping) (before : SessionState W) (p : Peer) → GoesOn before → IsPeerOf wrapped before p → EachGoesOn p.sessions
unfolding GoesOn
each_goes wrapped before p goes is = goes_of before.is_over p.sessions goes.not_over is.each_goes_on

-- ---- the same as the call of the client's session says it

-- what the call leaves
pub say_leaves : {W A : Type 0} (wrapped : W → Wrapping) (before : SessionState W) (env : Envelope W) (taken slots : Slots SessionChannels)
    (p : Peer) (n : ℕ) (s : Session) (bytes : List ℕ) (remote : Sid) (now : ℕ) (text : SessionChannels) (was is_now : Contents) (to : Addr) (r : Result A (Or LinkEnd))
    (turn : Result Turn NoMemory) (over : Bool) →
    turn ≡ turn_told r → over ≡ is_over turn → remote ≡ remote_of p → IsPeerOf wrapped before p → EachGoesOn p.sessions → SlotsStand StandsFor taken p.sessions →
    slice_get p.sessions n ≡ Some s → PutBack taken slots n text → Told r (text_offered s p.envelope bytes remote now).end →
    Leaves wrapped text env was is_now to (unless_wanting r (text_offered s p.envelope bytes remote now) (still s p.envelope)) →
    LeavesUnless turn (PeerStands wrapped) (record before { envelope = env; slots = slots; is_over = over }) was is_now to p
    (gone_on n (said s.link p.envelope bytes (remote_of p) now) (answered p Going))
unfolding text_offered
say_leaves wrapped before env taken slots p n s bytes remote now text was is_now to r turn over turn_is over_is remote_is is each stands at put told left =
    let base = line_leaves wrapped before env taken slots p n s (said s.link p.envelope bytes remote now) text was is_now to r is each stands at put
    (said_keeps s.link p.envelope bytes remote now) told left in
    let by_remote = subst (λ (id : Sid). LeavesUnless (turn_told r) (PeerStands wrapped) (record before { envelope = env; slots = slots; is_over = is_over (turn_told r) }) was is_now to p
    (gone_on n (said s.link p.envelope bytes id now) (answered p Going))) remote_is base in
    let by_turn = subst (λ (t : Result Turn NoMemory). LeavesUnless t (PeerStands wrapped) (record before { envelope = env; slots = slots; is_over = is_over t }) was is_now to p
    (gone_on n (said s.link p.envelope bytes (remote_of p) now) (answered p Going))) (sym turn_is) by_remote in
    subst (λ (b : Bool). LeavesUnless turn (PeerStands wrapped) (record before { envelope = env; slots = slots; is_over = b }) was is_now to p
    (gone_on n (said s.link p.envelope bytes (remote_of p) now) (answered p Going))) (sym over_is) by_turn

-- what the link tells of its end
pub say_told : {A : Type 0} (r : Result A (Or LinkEnd)) (p : Peer) (s : Session) (bytes : List ℕ) (remote : Sid) (now : ℕ) → remote ≡ remote_of p →
    Told r (text_offered s p.envelope bytes remote now).end → Told r (said s.link p.envelope bytes (remote_of p) now).end
unfolding text_offered
say_told r p s bytes remote now same told = subst (λ (id : Sid). Told r (said s.link p.envelope bytes id now).end) same told

-- what the call answers
answers_by : {W A : Type 0} (wrapped : W → Wrapping) (before : SessionState W) (n : ℕ) (bytes : List ℕ) (now : ℕ) (r : Result A (Or LinkEnd)) →
    ((p : Peer) (s : Session) → PeerStands wrapped before p → slice_get p.sessions n ≡ Some s → Told r (said s.link p.envelope bytes (remote_of p) now).end) →
    IfOk (turn_told r) (λ turn. (p : Peer) (s : Session) → PeerStands wrapped before p → slice_get p.sessions n ≡ Some s → s.is_open ≡ true →
    turn ≡ turn_of (said s.link p.envelope bytes (remote_of p) now).end)
answers_by wrapped before n bytes now (Ok a) told = λ p s is at open_is. ap turn_of (sym (told p s is at))
answers_by wrapped before n bytes now (Err Memory) told = tt
answers_by wrapped before n bytes now (Err (Why e)) told = λ p s is at open_is. ap turn_of (sym (told p s is at))

pub say_answers : {W A : Type 0} (wrapped : W → Wrapping) (before : SessionState W) (n : ℕ) (bytes : List ℕ) (now : ℕ) (r : Result A (Or LinkEnd)) (turn : Result Turn NoMemory) →
    turn ≡ turn_told r → ((p : Peer) (s : Session) → PeerStands wrapped before p → slice_get p.sessions n ≡ Some s → Told r (said s.link p.envelope bytes (remote_of p) now).end) →
    IfOk turn (λ t. (p : Peer) (s : Session) → PeerStands wrapped before p → slice_get p.sessions n ≡ Some s → s.is_open ≡ true →
    t ≡ turn_of (said s.link p.envelope bytes (remote_of p) now).end)
say_answers wrapped before n bytes now r turn turn_is told =
    subst (λ (t : Result Turn NoMemory). IfOk t (λ t. (p : Peer) (s : Session) → PeerStands wrapped before p → slice_get p.sessions n ≡ Some s → s.is_open ≡ true →
    t ≡ turn_of (said s.link p.envelope bytes (remote_of p) now).end)) (sym turn_is) (answers_by wrapped before n bytes now r told)

pub say_goes_on : {W A : Type 0} (before : SessionState W) (env : Envelope W) (slots : Slots SessionChannels) (r : Result A (Or LinkEnd)) (turn : Result Turn NoMemory) (over : Bool) →
    turn ≡ turn_told r → over ≡ is_over turn → GoesOn before → IsWhole slots →
    MatchResult turn (GoesOnUnlessOver (GoesOn (record before { envelope = env; slots = slots; is_over = over })))
    (λ _. GoesOn (record before { envelope = env; slots = slots; is_over = over }))
say_goes_on before env slots r turn over turn_is over_is goes whole =
    let by_turn = subst (λ (t : Result Turn NoMemory). MatchResult t (GoesOnUnlessOver (GoesOn (record before { envelope = env; slots = slots; is_over = is_over t })))
    (λ _. GoesOn (record before { envelope = env; slots = slots; is_over = is_over t }))) (sym turn_is) (line_goes_on before env slots r goes whole) in
    subst (λ (b : Bool). MatchResult turn (GoesOnUnlessOver (GoesOn (record before { envelope = env; slots = slots; is_over = b })))
    (λ _. GoesOn (record before { envelope = env; slots = slots; is_over = b }))) (sym over_is) by_turn

-- ---- by the definition

pub text_is : (p : Peer) (n : ℕ) (bytes : List ℕ) (now : ℕ) (s : Session) → slice_get p.sessions n ≡ Some s →
    with_next_turn false (gone_on n (said s.link p.envelope bytes (remote_of p) now) (answered p Going)) ≡ text_came n bytes now p
unfolding text_came
text_is p n bytes now s at = rw at refl

-- what the call leaves, and what it answers, by the definition
pub text_leaves : {S B : Type 0} (r : Result B NoMemory) (turn : B) (means : S → Peer → Type 0) (session : S) (was is_now : Contents) (to : Addr) (p : Peer) (n : ℕ) (bytes : List ℕ) (now : ℕ) (s : Session) →
    r ≡ Ok turn → slice_get p.sessions n ≡ Some s →
    LeavesUnless r means session was is_now to p (gone_on n (said s.link p.envelope bytes (remote_of p) now) (answered p Going)) →
    boxes.Leaves means session was is_now to (text_came n bytes now p)
text_leaves {B = B} r turn means session was is_now to p n bytes now s is at left =
    let leaves = subst (λ (x : Result B NoMemory). LeavesUnless x means session was is_now to p (gone_on n (said s.link p.envelope bytes (remote_of p) now) (answered p Going))) is left in
    subst (λ (o : Outcome Turn). boxes.Leaves means session was is_now to o) (text_is p n bytes now s at) (record { peer = leaves.peer; outbox = leaves.outbox })

pub text_answers : {S B : Type 0} (r : Result B NoMemory) (turn : B) (means : S → Peer → Type 0) (session : S) (was is_now : Contents) (to : Addr) (p : Peer) (n : ℕ) (bytes : List ℕ) (now : ℕ) (s : Session)
    (so_far answer : Turn) →
    r ≡ Ok turn → slice_get p.sessions n ≡ Some s →
    LeavesUnless r means session was is_now to p (gone_on n (said s.link p.envelope bytes (remote_of p) now) (answered p Going)) →
    so_far ≡ turn_of (said s.link p.envelope bytes (remote_of p) now).end →
    ((q : Peer) → means session q → answer ≡ first_over so_far (next_turn (prepared_message q) false)) → answer ≡ (text_came n bytes now p).answer
text_answers {B = B} r turn means session was is_now to p n bytes now s so_far answer is at left so_far_is told =
    let after = gone_on n (said s.link p.envelope bytes (remote_of p) now) (answered p Going) in
    let leaves = subst (λ (x : Result B NoMemory). LeavesUnless x means session was is_now to p after) is left in
    told after.peer leaves.peer
    ∙ ap (λ (t : Turn). first_over t (next_turn (prepared_message after.peer) false)) so_far_is
    ∙ ap (λ (o : Outcome Turn). o.answer) (text_is p n bytes now s at)
