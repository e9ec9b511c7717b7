-- Plain text, and the open session that an engine answer is for.
use Rattle.std.proofs.Common.{◌≡◌, ◌≢◌, ℕ, Bool, true, false, List, ◌++◌, length, Option, Some, None, Result, Ok, Err, refl, ap, sym, subst, ◌∙◌, arith}
use Rattle.std.specs.Prelude.{◌&&◌, IfOk, OnErr, OnOk, slice_get}
use Rattle.std.proofs.lemmas.Bool.{false≢true}
use Rattle.std.proofs.lemmas.Option.{none-some}
use Rattle.vpn_base.specs.declared.errors.NoMemory.{NoMemory}
use Rattle.vpn_base.specs.declared.names.Conn.{Conn}
use Rattle.vpn_links.specs.declared.events.Kind.{Kind}
use Rattle.vpn_links.specs.declared.events.Kind.TheVariants.{Datagram, EngineText, EnginePlain, EngineUp, EngineDown, DeviceIn, DeviceReady, File, Line, Tick, Halt}
use Rattle.vpn_links.specs.Actions.{Contents}
use Rattle.tls_crypt.specs.Packets.{Wrapping}
use Rattle.peer_table.specs.declared.outcomes.Turn.{Turn}
use Rattle.peer_table.specs.declared.outcomes.Turn.TheVariants.{Going}
use Rattle.peer_table.specs.EngineAnswers.{answer_in, answer_on, conn_in, engine_came, is_on, judged_at, name_came, open_with, plain_came, session_on, text_came, with_plain}
use Rattle.peer_table.specs.KeySessions.{Session}
use Rattle.peer_table.specs.Outboxes.{HasRoom, Uses}
use Rattle.peer_table.specs.Peer.{Outcome, Peer, answered}
use Rattle.key_sessions.specs.declared.slots.Slots.{Slots}
use Rattle.key_sessions.specs.Slots.{SlotsStand}
use Rattle.peer_lines.specs.declared.channels.SessionChannels.{SessionChannels}
use Rattle.peer_lines.specs.Calls as lines
use Rattle.peer_lines.specs.Standing.{StandsFor}
use Rattle.session_state.specs.declared.session.SessionState.{SessionState}
use Rattle.session_state.specs.Ready.{IsReady, TakesKind, TakesPlain, TakesText}
use Rattle.session_state.specs.Standing.{PeerStands}
use Rattle.session_state.proofs.Keeping.{PutBack, alike, no_change, text_put}
use Rattle.session_state.proofs.Waits.{first_at}

-- ---- plain text

-- what taking a session's text says of the slots
pub record Taken (slots taken : Slots SessionChannels) (n : ℕ) (text : SessionChannels) : Type 0 where
  pub stands : (ss : List Session) → SlotsStand StandsFor slots ss → SlotsStand StandsFor taken ss
  pub text_stands : (ss : List Session) (s : Session) → SlotsStand StandsFor slots ss → slice_get ss n ≡ Some s → StandsFor text s

plain_ok : {W : Type 0} (wrapped : W → Wrapping) (before : SessionState W) (taken slots : Slots SessionChannels) (p : Peer) (n : ℕ) (s : Session) (bytes : List ℕ)
    (was text : SessionChannels) → Taken before.slots taken n was → PutBack taken slots n text → PeerStands wrapped before p → slice_get p.sessions n ≡ Some s →
    StandsFor text (lines.with_plain bytes s) → PeerStands wrapped (record before { slots = slots }) (with_plain n bytes p)
unfolding PeerStands
plain_ok wrapped before taken slots p n s bytes was text took put is at text_stands =
    subst (λ (ss : List Session). PeerStands wrapped (record before { slots = slots }) (record p { sessions = ss }))
    (alike p.sessions n s (λ _. lines.with_plain bytes s) (λ t. record t { plain = t.plain ++ bytes }) at refl)
    (text_put wrapped before taken slots p n s (lines.with_plain bytes s) text is (took.stands p.sessions is.slots_stand) at put text_stands
    (record { began = refl; is_open = refl; stage = refl; kid = refl; read = λ keyed read. read; spent = λ spent. spent }))

plain_err : {W : Type 0} (wrapped : W → Wrapping) (before : SessionState W) (taken slots : Slots SessionChannels) (p : Peer) (n : ℕ) (s : Session)
    (was text : SessionChannels) → Taken before.slots taken n was → PutBack taken slots n text → PeerStands wrapped before p → slice_get p.sessions n ≡ Some s →
    StandsFor text s → PeerStands wrapped (record before { slots = slots }) p
unfolding PeerStands
plain_err wrapped before taken slots p n s was text took put is at text_stands =
    subst (λ (ss : List Session). PeerStands wrapped (record before { slots = slots }) (record p { sessions = ss }))
    (no_change p.sessions n s at)
    (text_put wrapped before taken slots p n s s text is (took.stands p.sessions is.slots_stand) at put text_stands
    (record { began = refl; is_open = refl; stage = refl; kid = refl; read = λ keyed read. read; spent = λ spent. spent }))

pub plain_put : {W A : Type 0} (wrapped : W → Wrapping) (before : SessionState W) (taken slots : Slots SessionChannels) (n : ℕ) (bytes : List ℕ)
    (was text : SessionChannels) (r : Result A NoMemory) → Taken before.slots taken n was → PutBack taken slots n text →
    ((s : Session) → StandsFor was s → OnOk r (StandsFor text (lines.with_plain bytes s))) →
    OnOk r ((p : Peer) (s : Session) → PeerStands wrapped before p → slice_get p.sessions n ≡ Some s → s.is_open ≡ true → PeerStands wrapped (record before { slots = slots }) (with_plain n bytes p))
unfolding PeerStands
plain_put wrapped before taken slots n bytes was text (Ok a) took put text_stands = λ p s is at open_is.
    plain_ok wrapped before taken slots p n s bytes was text took put is at (text_stands s (took.text_stands p.sessions s is.slots_stand at))
plain_put wrapped before taken slots n bytes was text (Err e) took put text_stands = tt

pub plain_kept : {W A : Type 0} (wrapped : W → Wrapping) (before : SessionState W) (taken slots : Slots SessionChannels) (n : ℕ)
    (was text : SessionChannels) (r : Result A NoMemory) → Taken before.slots taken n was → PutBack taken slots n text →
    ((s : Session) → StandsFor was s → OnErr r (StandsFor text s)) →
    OnErr r ((p : Peer) (s : Session) → PeerStands wrapped before p → slice_get p.sessions n ≡ Some s → s.is_open ≡ true → PeerStands wrapped (record before { slots = slots }) p)
unfolding PeerStands
plain_kept wrapped before taken slots n was text (Ok a) took put text_stands = tt
plain_kept wrapped before taken slots n was text (Err e) took put text_stands = λ p s is at open_is.
    plain_err wrapped before taken slots p n s was text took put is at (text_stands s (took.text_stands p.sessions s is.slots_stand at))

pub plain_is : (n : ℕ) (bytes : List ℕ) (p : Peer) → judged_at n false (with_plain n bytes p) ≡ plain_came n bytes p
unfolding plain_came
plain_is n bytes p = refl

-- ---- the session of an engine answer

-- it is there and open
pub record OpenOn (p : Peer) (n : ℕ) : Type 0 where
  pub session : Session
  pub here : slice_get p.sessions n ≡ Some session
  pub is_open : session.is_open ≡ true

first_true : (a b : Bool) → (a && b) ≡ true → a ≡ true
first_true true b is = refl
first_true false b is = absurd (false≢true is)

open_on : (conn : Conn) (p : Peer) (n : ℕ) → Some n ≡ open_with conn p → OpenOn p n
unfolding open_with
open_on conn p n is =
    let there = first_at (is_on conn) p.sessions n (sym is) in
    record { session = there.session; here = there.here; is_open = first_true there.session.is_open _ there.passes_it }

on_by : (o : Option Conn) (p : Peer) (n : ℕ) → Some n ≡ session_on o p → OpenOn p n
on_by None p n is = absurd (none-some n (sym is))
on_by (Some conn) p n is = open_on conn p n is

pub open_for : (kind : Kind) (p : Peer) (n : ℕ) → Some n ≡ session_on (conn_in kind) p → OpenOn p n
open_for kind p n is = on_by (conn_in kind) p n is

-- ---- by the definition

pub came_in : (kind : Kind) (now : ℕ) (p : Peer) (n : ℕ) → Some n ≡ session_on (conn_in kind) p → answer_in kind n now p ≡ engine_came kind now p
unfolding engine_came
came_in kind now p n is = ap (answer_on kind now p) is

pub none_came : (kind : Kind) (now : ℕ) (p : Peer) → None ≡ session_on (conn_in kind) p → answered p Going ≡ engine_came kind now p
unfolding engine_came
none_came kind now p is = ap (answer_on kind now p) is

-- ---- room

-- where nothing was used of it, there is room for an exchange
pub room_kept : {W : Type 0} (session : SessionState W) (kind : Kind) (out : Contents) (effects room : ℕ) → IsReady session kind effects room → HasRoom out effects room →
    HasRoom out 2 93 × Uses out out effects room
unfolding IsReady
room_kept session kind out effects room ready has = (
  record { effects_fit = omega (arith, ready.exchange_effects, has.effects_fit); bytes_fit = omega (arith, ready.exchange_bytes, has.bytes_fit) },
  record { effects_left = omega arith; bytes_left = omega arith },
)

-- and behind text for the other end
pub room_left : {W : Type 0} (session : SessionState W) (text : ℕ) (was is_now : Contents) (effects room : ℕ) → TakesText session text effects room → HasRoom was effects room →
    Uses was is_now 6 7200 → HasRoom is_now 2 93 × Uses was is_now effects room
room_left session text was is_now effects room takes has uses =
    let effects_fit = takes.effects_fit in
    let bytes_fit = takes.bytes_fit in (
      record { effects_fit = omega (arith, effects_fit, has.effects_fit, uses.effects_left); bytes_fit = omega (arith, bytes_fit, has.bytes_fit, uses.bytes_left) },
      record { effects_left = omega (arith, effects_fit, uses.effects_left); bytes_left = omega (arith, bytes_fit, uses.bytes_left) },
    )

-- there is room for the text itself
pub room_there : {W : Type 0} (session : SessionState W) (text : ℕ) (was : Contents) (effects room : ℕ) → TakesText session text effects room → HasRoom was effects room → HasRoom was 6 7200
room_there session text was effects room takes has =
    let effects_fit = takes.effects_fit in
    let bytes_fit = takes.bytes_fit in
    record { effects_fit = omega (arith, effects_fit, has.effects_fit); bytes_fit = omega (arith, bytes_fit, has.bytes_fit) }

-- what the answers take
pub text_takes : {W : Type 0} (session : SessionState W) (kind : Kind) (conn : Conn) (bytes lent : List ℕ) (effects room : ℕ) → kind ≡ EngineText conn bytes → lent ≡ bytes →
    IsReady session kind effects room → TakesText session (length lent) effects room
unfolding IsReady
text_takes session kind conn bytes lent effects room is same ready =
    let own = subst (λ (k : Kind). TakesKind session k effects room) is ready.own in
    subst (λ (b : List ℕ). TakesText session (length b) effects room) (sym same) own

pub plain_takes : {W : Type 0} (session : SessionState W) (kind : Kind) (conn : Conn) (bytes lent : List ℕ) (effects room : ℕ) → kind ≡ EnginePlain conn bytes → lent ≡ bytes →
    IsReady session kind effects room → TakesPlain session (length lent)
unfolding IsReady
plain_takes session kind conn bytes lent effects room is same ready =
    let own = subst (λ (k : Kind). TakesKind session k effects room) is ready.own in
    subst (λ (b : List ℕ). TakesPlain session (length b)) (sym same) own

-- ---- each kind of answer

pub text_in : (kind : Kind) (conn : Conn) (bytes lent : List ℕ) (n now : ℕ) (p : Peer) → kind ≡ EngineText conn bytes → lent ≡ bytes → text_came n lent now p ≡ answer_in kind n now p
text_in kind conn bytes lent n now p is same = ap (λ (b : List ℕ). text_came n b now p) same ∙ ap (λ (k : Kind). answer_in k n now p) (sym is)

pub plain_in : (kind : Kind) (conn : Conn) (bytes lent : List ℕ) (n now : ℕ) (p : Peer) → kind ≡ EnginePlain conn bytes → lent ≡ bytes → plain_came n lent p ≡ answer_in kind n now p
plain_in kind conn bytes lent n now p is same = ap (λ (b : List ℕ). plain_came n b p) same ∙ ap (λ (k : Kind). answer_in k n now p) (sym is)

pub name_in : (kind : Kind) (conn : Conn) (name lent : List ℕ) (n now : ℕ) (p : Peer) → kind ≡ EngineUp conn name → lent ≡ name → name_came n lent p ≡ answer_in kind n now p
name_in kind conn name lent n now p is same = ap (λ (b : List ℕ). name_came n b p) same ∙ ap (λ (k : Kind). answer_in k n now p) (sym is)

-- no other kind does anything here
pub other_in : (kind : Kind) (n now : ℕ) (p : Peer) → ((conn : Conn) (bytes : List ℕ) → kind ≢ EngineText conn bytes) → ((conn : Conn) (bytes : List ℕ) → kind ≢ EnginePlain conn bytes) →
    ((conn : Conn) (name : List ℕ) → kind ≢ EngineUp conn name) → answered p Going ≡ answer_in kind n now p
other_in (Datagram from bytes) n now p not_text not_plain not_up = refl
other_in (EngineText conn bytes) n now p not_text not_plain not_up = absurd (not_text conn bytes refl)
other_in (EnginePlain conn bytes) n now p not_text not_plain not_up = absurd (not_plain conn bytes refl)
other_in (EngineUp conn name) n now p not_text not_plain not_up = absurd (not_up conn name refl)
other_in (EngineDown conn) n now p not_text not_plain not_up = refl
other_in (DeviceIn bytes) n now p not_text not_plain not_up = refl
other_in DeviceReady n now p not_text not_plain not_up = refl
other_in (File cid answer) n now p not_text not_plain not_up = refl
other_in (Line bytes) n now p not_text not_plain not_up = refl
other_in Tick n now p not_text not_plain not_up = refl
other_in Halt n now p not_text not_plain not_up = refl

-- an answer that is that of its kind
pub answers_in : (r : Result Turn NoMemory) (means : Peer → Type 0) (kind : Kind) (n now : ℕ) (came : Peer → Outcome Turn) → ((p : Peer) → came p ≡ answer_in kind n now p) →
    IfOk r (λ turn. (p : Peer) (s : Session) → means p → slice_get p.sessions n ≡ Some s → s.is_open ≡ true → turn ≡ (came p).answer) →
    IfOk r (λ turn. (p : Peer) (s : Session) → means p → slice_get p.sessions n ≡ Some s → s.is_open ≡ true → turn ≡ (answer_in kind n now p).answer)
answers_in (Ok turn) means kind n now came same told = λ p s is at open_is. told p s is at open_is ∙ ap (λ (o : Outcome Turn). o.answer) (same p)
answers_in (Err e) means kind n now came same told = tt

-- an answer for an open session
pub answers_on : (r : Result Turn NoMemory) (means : Peer → Type 0) (kind : Kind) (n now : ℕ) → ((p : Peer) → means p → Some n ≡ session_on (conn_in kind) p) →
    IfOk r (λ turn. (p : Peer) (s : Session) → means p → slice_get p.sessions n ≡ Some s → s.is_open ≡ true → turn ≡ (answer_in kind n now p).answer) →
    IfOk r (λ turn. (p : Peer) → means p → turn ≡ (engine_came kind now p).answer)
answers_on (Ok turn) means kind n now on told = λ p is.
    let there = open_for kind p n (on p is) in
    told p there.session is there.here there.is_open ∙ ap (λ (o : Outcome Turn). o.answer) (came_in kind now p n (on p is))
answers_on (Err e) means kind n now on told = tt
