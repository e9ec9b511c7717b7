-- One key session is changed in its place, and its text put back: what the client's session stands for then.
use Rattle.std.proofs.Common.{◌≡◌, ◌≢◌, ℕ, zero, suc, ◌+◌, Bool, true, false, List, [], ◌∷◌, ◌++◌, length, Some, refl, ap, sym, subst, ◌∙◌, arith}
use Rattle.std.specs.Prelude.{slice_get}
use Rattle.std.proofs.lemmas.Bool.{false≢true}
use Rattle.std.proofs.lemmas.Option.{none-some}
use Rattle.tls_crypt.specs.Packets.{Wrapping}
use Rattle.control_link.specs.declared.envelope.Envelope.{Envelope}
use Rattle.control_link.specs.Envelope.{EnvelopeHistory, EnvelopeStands}
use Rattle.peer_table.specs.KeySessions.{Session, has_keys, is_keyed}
use Rattle.peer_table.specs.Peer.{Peer}
use Rattle.peer_table.specs.Places.{changed_at}
use Rattle.peer_table.specs.Time.{is_open_session}
use Rattle.key_sessions.specs.Changes.{KeepsPlace}
use Rattle.key_sessions.specs.declared.slots.Slots.{Slots}
use Rattle.key_sessions.specs.Slots.{IsWhole, SlotsStand, newest_number}
use Rattle.peer_lines.specs.declared.channels.SessionChannels.{SessionChannels}
use Rattle.peer_lines.specs.Standing.{StandsFor}
use Rattle.session_state.specs.declared.session.SessionState.{SessionState}
use Rattle.session_state.specs.Standing.{EachGoesOn, EachGoesOnUnless, EachIsSound, GoesOn, IsPeerOf, IsSound, PeerStands, count}

-- ---- what holds of every session

sound_from : (k : ℕ) (ss : List Session) (n : ℕ) (s : Session) → EachIsSound k ss → slice_get ss n ≡ Some s → IsSound (k + n) s
sound_from k [] n s each at = absurd (none-some s at)
sound_from k (x ∷ ss) zero s each at =
    let same : x ≡ s = cc at in
    let here : k ≡ k + 0 = omega arith in
    subst (λ (m : ℕ). IsSound m s) here (subst (IsSound k) same each.0)
sound_from k (x ∷ ss) (suc n) s each at =
    let here : suc k + n ≡ k + suc n = omega arith in
    subst (λ (m : ℕ). IsSound m s) here (sound_from (suc k) ss n s each.1 at)

pub sound_at : (ss : List Session) (n : ℕ) (s : Session) → EachIsSound 0 ss → slice_get ss n ≡ Some s → IsSound n s
sound_at ss n s each at = let here : 0 + n ≡ n = omega arith in subst (λ (m : ℕ). IsSound m s) here (sound_from 0 ss n s each at)

sound_put : (k : ℕ) (ss : List Session) (n : ℕ) (after : Session) → EachIsSound k ss → IsSound (k + n) after → EachIsSound k (changed_at n (λ _. after) ss)
sound_put k [] n after each is = each
sound_put k (x ∷ ss) zero after each is = let here : k + 0 ≡ k = omega arith in (subst (λ (m : ℕ). IsSound m after) here is, each.1)
sound_put k (x ∷ ss) (suc n) after each is =
    let here : k + suc n ≡ suc k + n = omega arith in
    (each.0, sound_put (suc k) ss n after each.1 (subst (λ (m : ℕ). IsSound m after) here is))

pub sound_changed : (ss : List Session) (n : ℕ) (after : Session) → EachIsSound 0 ss → IsSound n after → EachIsSound 0 (changed_at n (λ _. after) ss)
sound_changed ss n after each is = let here : n ≡ 0 + n = omega arith in sound_put 0 ss n after each (subst (λ (m : ℕ). IsSound m after) here is)

sound_end : (k : ℕ) (ss : List Session) (s : Session) → EachIsSound k ss → IsSound (k + length ss) s → EachIsSound k (ss ++ s ∷ [])
sound_end k [] s each is = let here : k + 0 ≡ k = omega arith in (subst (λ (m : ℕ). IsSound m s) here is, tt)
sound_end k (x ∷ ss) s each is =
    let here : k + suc (length ss) ≡ suc k + length ss = omega arith in
    (each.0, sound_end (suc k) ss s each.1 (subst (λ (m : ℕ). IsSound m s) here is))

-- one more
pub sound_more : (ss : List Session) (s : Session) → EachIsSound 0 ss → IsSound (length ss) s → EachIsSound 0 (ss ++ s ∷ [])
sound_more ss s each is = let here : length ss ≡ 0 + length ss = omega arith in sound_end 0 ss s each (subst (λ (m : ℕ). IsSound m s) here is)

pub goes_at : (ss : List Session) (n : ℕ) (s : Session) → EachGoesOn ss → slice_get ss n ≡ Some s → s.link.spent ≡ false
goes_at [] n s each at = absurd (none-some s at)
goes_at (x ∷ ss) zero s each at = let same : x ≡ s = cc at in subst (λ (t : Session). t.link.spent ≡ false) same each.0
goes_at (x ∷ ss) (suc n) s each at = goes_at ss n s each.1 at

pub goes_changed : (ss : List Session) (n : ℕ) (after : Session) → EachGoesOn ss → after.link.spent ≡ false → EachGoesOn (changed_at n (λ _. after) ss)
goes_changed [] n after each is = each
goes_changed (x ∷ ss) zero after each is = (is, each.1)
goes_changed (x ∷ ss) (suc n) after each is = (each.0, goes_changed ss n after each.1 is)

-- one more
pub goes_more : (ss : List Session) (s : Session) → EachGoesOn ss → s.link.spent ≡ false → EachGoesOn (ss ++ s ∷ [])
goes_more [] s each is = (is, tt)
goes_more (x ∷ ss) s each is = (each.0, goes_more ss s each.1 is)

-- where nothing has ended the client
pub goes_of : (over : Bool) (ss : List Session) → over ≡ false → EachGoesOnUnless over ss → EachGoesOn ss
goes_of true ss is each = absurd (false≢true (sym is))
goes_of false ss is each = each

pub goes_if : (over : Bool) (ss : List Session) → (over ≡ false → EachGoesOn ss) → EachGoesOnUnless over ss
goes_if true ss each = tt
goes_if false ss each = each refl

goes_if_changed : (over : Bool) (ss : List Session) (n : ℕ) (s after : Session) → slice_get ss n ≡ Some s → EachGoesOnUnless over ss → (s.link.spent ≡ false → after.link.spent ≡ false) →
    EachGoesOnUnless over (changed_at n (λ _. after) ss)
goes_if_changed true ss n s after at each still = tt
goes_if_changed false ss n s after at each still = goes_changed ss n after each (still (goes_at ss n s each at))

-- ---- changes that come to the same

pub alike : (ss : List Session) (n : ℕ) (s : Session) (f g : Session → Session) → slice_get ss n ≡ Some s → f s ≡ g s → changed_at n f ss ≡ changed_at n g ss
alike [] n s f g at same = refl
alike (x ∷ ss) zero s f g at same = let is : s ≡ x = cc at in ap (λ (y : Session). y ∷ ss) (subst (λ (y : Session). f y ≡ g y) is same)
alike (x ∷ ss) (suc n) s f g at same = ap (λ (ys : List Session). x ∷ ys) (alike ss n s f g at same)

pub no_change : (ss : List Session) (n : ℕ) (s : Session) → slice_get ss n ≡ Some s → changed_at n (λ _. s) ss ≡ ss
no_change [] n s at = refl
no_change (x ∷ ss) zero s at = let is : s ≡ x = cc at in ap (λ (y : Session). y ∷ ss) is
no_change (x ∷ ss) (suc n) s at = ap (λ (ys : List Session). x ∷ ys) (no_change ss n s at)

-- ---- a text is put back

-- what putting a text back says of the slots
pub record PutBack (taken slots : Slots SessionChannels) (n : ℕ) (text : SessionChannels) : Type 0 where
  pub stands : (ss : List Session) (change : Session → Session) → SlotsStand StandsFor taken ss →
      ((s : Session) → slice_get ss n ≡ Some s → KeepsPlace change s) →
      ((s : Session) → slice_get ss n ≡ Some s → StandsFor text (change s)) →
      SlotsStand StandsFor slots (changed_at n change ss)
  pub whole : IsWhole slots

-- a session that comes of another keeps its place, and stays sound
pub record Follows (s after : Session) : Type 0 where
  pub began : after.began ≡ s.began
  pub is_open : after.is_open ≡ s.is_open
  pub stage : after.stage ≡ s.stage
  pub kid : after.link.kid ≡ s.link.kid
  pub read : has_keys s ≡ true → s.read ≢ 0 → after.read ≢ 0
  pub spent : s.link.spent ≡ false → after.link.spent ≡ false

pub slots_put : (taken slots : Slots SessionChannels) (ss : List Session) (n : ℕ) (s after : Session) (text : SessionChannels) →
    SlotsStand StandsFor taken ss → slice_get ss n ≡ Some s → PutBack taken slots n text → StandsFor text after →
    after.began ≡ s.began → after.is_open ≡ s.is_open → after.stage ≡ s.stage → SlotsStand StandsFor slots (changed_at n (λ _. after) ss)
slots_put taken slots ss n s after text stands at put text_stands began is_open stage =
    put.stands ss (λ _. after) stands
    (λ t here. let same : t ≡ s = cc (here, at) in record {
      began = began ∙ ap (λ (x : Session). x.began) (sym same);
      is_open = is_open ∙ ap (λ (x : Session). x.is_open) (sym same);
      stage = stage ∙ ap (λ (x : Session). x.stage) (sym same);
    })
    (λ t here. text_stands)

-- the session of a number is sound still
pub still_sound : (n : ℕ) (s after : Session) → IsSound n s → after.link.kid ≡ s.link.kid → after.stage ≡ s.stage →
    (has_keys s ≡ true → s.read ≢ 0 → after.read ≢ 0) → IsSound n after
still_sound n s after is kid stage read = record {
  kid = kid ∙ is.kid;
  read = λ keyed. let had : has_keys s ≡ true = ap is_keyed (sym stage) ∙ keyed in read had (is.read had);
}

-- a session's text is put back for what has become of it, and the envelope has become another
pub line_put : {W : Type 0} (wrapped : W → Wrapping) (before : SessionState W) (env : Envelope W) (taken slots : Slots SessionChannels) (over : Bool)
    (p : Peer) (h : EnvelopeHistory) (n : ℕ) (s after : Session) (text : SessionChannels) →
    IsPeerOf wrapped before p → SlotsStand StandsFor taken p.sessions → slice_get p.sessions n ≡ Some s → PutBack taken slots n text → StandsFor text after →
    Follows s after → EnvelopeStands wrapped env h → h.own ≡ p.envelope.own → EachGoesOnUnless over (changed_at n (λ _. after) p.sessions) →
    PeerStands wrapped (record before { envelope = env; slots = slots; is_over = over }) (record p { envelope = h; sessions = changed_at n (λ _. after) p.sessions })
unfolding PeerStands
line_put wrapped before env taken slots over p h n s after text is stands at put text_stands follows envelope own goes = record {
  role_is = is.role_is;
  timers_are = is.timers_are;
  own_is = is.own_is ∙ sym own;
  envelope_stands = envelope;
  remote_is = is.remote_is;
  name_is = is.name_is;
  asks_is = is.asks_is;
  slots_stand = slots_put taken slots p.sessions n s after text stands at put text_stands follows.began follows.is_open follows.stage;
  whole = put.whole;
  sound = sound_changed p.sessions n after is.sound (still_sound n s after (sound_at p.sessions n s is.sound at) follows.kid follows.stage follows.read);
  each_goes_on = goes;
}

-- the same where the envelope has not changed, and nothing has ended
pub text_put : {W : Type 0} (wrapped : W → Wrapping) (before : SessionState W) (taken slots : Slots SessionChannels)
    (p : Peer) (n : ℕ) (s after : Session) (text : SessionChannels) →
    IsPeerOf wrapped before p → SlotsStand StandsFor taken p.sessions → slice_get p.sessions n ≡ Some s → PutBack taken slots n text → StandsFor text after → Follows s after →
    PeerStands wrapped (record before { slots = slots }) (record p { sessions = changed_at n (λ _. after) p.sessions })
text_put wrapped before taken slots p n s after text is stands at put text_stands follows =
    line_put wrapped before before.envelope taken slots before.is_over p p.envelope n s after text is stands at put text_stands follows is.envelope_stands refl
    (goes_if_changed before.is_over p.sessions n s after at is.each_goes_on follows.spent)

-- it goes on
pub goes_on_with : {W : Type 0} (before : SessionState W) (slots : Slots SessionChannels) → GoesOn before → IsWhole slots → GoesOn (record before { slots = slots })
unfolding GoesOn
goes_on_with before slots goes whole = record {
  not_over = goes.not_over;
  whole = whole;
  some_ids = goes.some_ids;
  some_timeout = goes.some_timeout;
  short_timeout = goes.short_timeout;
  blank_for = goes.blank_for;
}

pub whole_of : {W : Type 0} (before : SessionState W) → GoesOn before → IsWhole before.slots
unfolding GoesOn
whole_of before goes = goes.whole

-- and had as many sessions
pub same_count : {W : Type 0} (before : SessionState W) (slots : Slots SessionChannels) → newest_number slots ≡ newest_number before.slots → count (record before { slots = slots }) ≡ count before
unfolding count
same_count before slots same = ap (λ (n : ℕ). n + 1) same

-- an open session's text is there
pub not_there : (ss : List Session) (n : ℕ) (s : Session) → false ≡ is_open_session (slice_get ss n) → slice_get ss n ≡ Some s → s.is_open ≡ true → ⊥
not_there ss n s none at is = false≢true (none ∙ ap is_open_session at ∙ is)

-- other slots that stand for the same sessions
pub slots_same : {W : Type 0} (wrapped : W → Wrapping) (before : SessionState W) (slots : Slots SessionChannels) (p : Peer) → PeerStands wrapped before p →
    (SlotsStand StandsFor before.slots p.sessions → SlotsStand StandsFor slots p.sessions) → (IsWhole before.slots → IsWhole slots) →
    PeerStands wrapped (record before { slots = slots }) p
unfolding PeerStands
slots_same wrapped before slots p is stands whole = record {
  role_is = is.role_is;
  timers_are = is.timers_are;
  own_is = is.own_is;
  envelope_stands = is.envelope_stands;
  remote_is = is.remote_is;
  name_is = is.name_is;
  asks_is = is.asks_is;
  slots_stand = stands is.slots_stand;
  whole = whole is.whole;
  sound = is.sound;
  each_goes_on = is.each_goes_on;
}
