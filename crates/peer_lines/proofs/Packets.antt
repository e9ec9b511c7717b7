-- The data channel of a session, in its place.
use Rattle.std.proofs.Common.{◌≡◌, ◌≢◌, ◌↔◌, ◌==◌, ℕ, suc, Bool, true, false, not, List, [], ◌∷◌, length, slice_index_or, slice_set, Option, Some, None, Result, Ok, Err, OnOk, OnErr, IsErr, is_ok, refl, ap, sym, subst, ◌∙◌, arith}
use Rattle.std.proofs.lemmas.Bool.{false≢true}
use Rattle.gcm_seal.specs.declared.gcm.AnyGcm.{AnyGcm}
use Rattle.packet_ids.specs.declared.sending.Spent.{Spent}
use Rattle.packet_ids.specs.Freshness.{History}
use Rattle.packet_ids.specs.Window.{Kept}
use Rattle.data_channel.specs.declared.channel.DataChannel.{DataChannel}
use Rattle.data_channel.specs.Standing.{GcmKeysStand}
use Rattle.peer_table.specs.KeySessions as sessions
use Rattle.peer_table.specs.KeySessions.{Keyed, Keys, Session, Stage, has_keys, is_keyed, keys_of}
use Rattle.peer_lines.specs.internal.Packets.{IsFirst, IsWindowOf}
use Rattle.peer_lines.specs.Standing.{DataStands, IsBeforeWith, IsKeyedBy, is_there}

-- it stands for the keys of the session
pub first_stands : (window : Option Kept) (packets : List (DataChannel AnyGcm)) (s : Session) (keys : Keys) (channel : DataChannel AnyGcm) →
    is_there packets ≡ true → channel ≡ slice_index_or packets 0 channel → keys_of s.stage ≡ Some keys → DataStands window packets s →
    GcmKeysStand channel keys s.link.kid s.received s.sealed
first_stands window [] s keys channel there is keyed stands = absurd (false≢true there)
first_stands window (x ∷ more) s keys channel there is keyed stands =
    subst (λ (c : DataChannel AnyGcm). GcmKeysStand c keys s.link.kid s.received s.sealed) (sym is)
    (subst (λ (k : Option Keys). IsKeyedBy x s k) keyed stands)

-- another one in its place
pub first_set : (window : Option Kept) (packets : List (DataChannel AnyGcm)) (s : Session) (keys : Keys) (channel : DataChannel AnyGcm) →
    is_there packets ≡ true → keys_of s.stage ≡ Some keys → GcmKeysStand channel keys s.link.kid s.received s.sealed →
    DataStands window (slice_set packets 0 channel) s
first_set window [] s keys channel there keyed stands = absurd (false≢true there)
first_set window (x ∷ more) s keys channel there keyed stands = subst (λ (k : Option Keys). IsKeyedBy channel s k) (sym keyed) stands

-- and it is still there
pub still_there : (packets : List (DataChannel AnyGcm)) (channel : DataChannel AnyGcm) → is_there (slice_set packets 0 channel) ≡ is_there packets
still_there [] channel = refl
still_there (x ∷ more) channel = refl

-- ---- before it is made

pub none_there : (packets : List (DataChannel AnyGcm)) → is_there packets ≡ false → packets ≡ []
none_there [] none = refl
none_there (x ∷ more) none = absurd (false≢true (sym none))

pub before_of : (window : Option Kept) (packets : List (DataChannel AnyGcm)) (s : Session) → is_there packets ≡ false → DataStands window packets s → IsBeforeWith window s
before_of window [] s none stands = stands
before_of window (x ∷ more) s none stands = absurd (false≢true (sym none))

pub window_of : (window : Option Kept) (s : Session) → IsBeforeWith window s → IsWindowOf window s.received
window_of None s before = elim before [ ]
window_of (Some w) s before = before.received

pub unread_of : (window : Option Kept) (s : Session) → IsBeforeWith window s → s.read ≡ 0
unread_of None s before = elim before [ ]
unread_of (Some w) s before = before.read

pub unsealed_of : (window : Option Kept) (s : Session) → IsBeforeWith window s → s.sealed ≡ 0
unsealed_of None s before = elim before [ ]
unsealed_of (Some w) s before = before.sealed

-- once it is made
pub first_made : (window : Option Kept) (packets : List (DataChannel AnyGcm)) (s : Session) (keys : Keys) (kid : ℕ) →
    s.stage ≡ Keyed keys → s.link.kid ≡ kid → s.sealed ≡ 0 → IsFirst packets keys kid s.received → DataStands window packets s
first_made window [] s keys kid stage same none made = elim made [ ]
first_made window (x ∷ more) s keys kid stage same none made =
    subst (λ (k : Option Keys). IsKeyedBy x s k) (sym (ap (λ (t : Stage). keys_of t) stage))
    (subst (λ (n : ℕ). GcmKeysStand x keys n s.received s.sealed) (sym same)
    (subst (λ (n : ℕ). GcmKeysStand x keys kid s.received n) (sym none) made))

pub first_there : (packets : List (DataChannel AnyGcm)) (keys : Keys) (kid : ℕ) (s : Session) → IsFirst packets keys kid s.received → is_there packets ≡ true
first_there [] keys kid s made = elim made [ ]
first_there (x ∷ more) keys kid s made = refl

-- ---- the last id

pub spent_by : {A : Type 0} (r : Result A Spent) (sealed last : ℕ) → (IsErr r ↔ (sealed ≡ last)) → is_ok r ≡ not (sealed == last)
spent_by (Ok a) sealed last spent = grind arith
spent_by (Err e) sealed last spent = grind arith

pub by_spent : {A : Type 0} (r : Result A Spent) (b : Bool) (P : Bool → Type 0) → is_ok r ≡ not b → OnOk r (P false) → OnErr r (P true) → P b
by_spent (Ok a) false P is ok err = ok
by_spent (Ok a) true P is ok err = absurd (false≢true (sym is))
by_spent (Err e) true P is ok err = err
by_spent (Err e) false P is ok err = absurd (false≢true is)

pub on_ok : {A : Type 0} (r : Result A Spent) (X Y : Type 0) → (X → Y) → OnOk r X → OnOk r Y
on_ok (Ok a) X Y f x = f x
on_ok (Err e) X Y f x = tt

pub on_err : {A : Type 0} (r : Result A Spent) (X Y : Type 0) → (X → Y) → OnErr r X → OnErr r Y
on_err (Ok a) X Y f x = tt
on_err (Err e) X Y f x = f x

-- ---- once it is made, or was there

pub made_there : (window : Option Kept) (before after : List (DataChannel AnyGcm)) (s : Session) (keys : Keys) (kid : ℕ) → DataStands window before s →
    ((received : History) → before ≡ [] → IsWindowOf window received → IsFirst after keys kid received) →
    (is_there before ≡ true → after ≡ before) → is_there after ≡ true
made_there window [] after s keys kid stands made same = first_there after keys kid s (made s.received refl (window_of window s stands))
made_there window (x ∷ more) after s keys kid stands made same = ap (λ (t : List (DataChannel AnyGcm)). is_there t) (same refl)

pub made_stands : (window other : Option Kept) (before after : List (DataChannel AnyGcm)) (s : Session) (keys : Keys) (kid : ℕ) → DataStands window before s →
    s.stage ≡ Keyed keys → s.link.kid ≡ kid →
    ((received : History) → before ≡ [] → IsWindowOf window received → IsFirst after keys kid received) →
    (is_there before ≡ true → after ≡ before) → DataStands other after s
made_stands window other [] after s keys kid stands stage is made same =
    first_made other after s keys kid stage is (unsealed_of window s stands) (made s.received refl (window_of window s stands))
made_stands window other (x ∷ more) after s keys kid stands stage is made same =
    subst (λ (t : List (DataChannel AnyGcm)). DataStands other t s) (sym (same refl)) stands

-- it is that of the session whatever was read of it
pub data_kept : (window : Option Kept) (packets : List (DataChannel AnyGcm)) (s : Session) (read : ℕ) → is_there packets ≡ true →
    DataStands window packets s → DataStands window packets (record s { read = read })
data_kept window [] s read there stands = absurd (false≢true there)
data_kept window (channel ∷ more) s read there stands = stands

-- ---- whether it is there

not_keyed : (channel : DataChannel AnyGcm) (s : Session) (stage : Stage) → is_keyed stage ≡ false → IsKeyedBy channel s (keys_of stage) → ⊥
not_keyed channel s sessions.Opening none stands = stands
not_keyed channel s sessions.Named none stands = stands
not_keyed channel s (sessions.Keyed keys) none stands = false≢true (sym none)

pub none_before : (window : Option Kept) (packets : List (DataChannel AnyGcm)) (s : Session) → has_keys s ≡ false → DataStands window packets s →
    (is_there packets ≡ false) × (s.read ≡ 0) × (s.sealed ≡ 0)
none_before window [] s none stands = (refl, unread_of window s stands, unsealed_of window s stands)
none_before window (x ∷ more) s none stands = absurd (not_keyed x s s.stage none stands)

pub there_after : (window : Option Kept) (packets : List (DataChannel AnyGcm)) (s : Session) → DataStands window packets s → s.read ≢ 0 → is_there packets ≡ true
there_after window [] s stands some = absurd (some (unread_of window s stands))
there_after window (x ∷ more) s stands some = refl

-- ---- what was sealed

keyed_told : (channel : DataChannel AnyGcm) (s : Session) (last : ℕ) (keys : Option Keys) → IsKeyedBy channel s keys →
    ((k : Keys) (kid : ℕ) (received : History) (sealed : ℕ) → GcmKeysStand channel k kid received sealed → last ≡ sealed) → last ≡ s.sealed
keyed_told channel s last None stands told = elim stands [ ]
keyed_told channel s last (Some keys) stands told = told keys s.link.kid s.received s.sealed stands

-- that of the data channel is the session's
pub sealed_told : (window : Option Kept) (packets : List (DataChannel AnyGcm)) (s : Session) (channel : DataChannel AnyGcm) (last : ℕ) →
    is_there packets ≡ true → channel ≡ slice_index_or packets 0 channel → DataStands window packets s →
    ((k : Keys) (kid : ℕ) (received : History) (sealed : ℕ) → GcmKeysStand channel k kid received sealed → last ≡ sealed) → last ≡ s.sealed
sealed_told window [] s channel last there is stands told = absurd (false≢true there)
sealed_told window (x ∷ more) s channel last there is stands told =
    keyed_told channel s last (keys_of s.stage) (subst (λ (c : DataChannel AnyGcm). IsKeyedBy c s (keys_of s.stage)) (sym is) stands) told

pub none_told : (window : Option Kept) (packets : List (DataChannel AnyGcm)) (s : Session) → is_there packets ≡ false → DataStands window packets s → 0 ≡ s.sealed
none_told window packets s none stands = sym (unsealed_of window s (before_of window packets s none stands))

not_none : (n : ℕ) → (suc n == 0) ≡ false
not_none n = grind arith

-- whether it is there, by how many there are
pub empty_of : (packets : List (DataChannel AnyGcm)) → true ≡ (length packets == 0) → is_there packets ≡ false
empty_of [] is = refl
empty_of (x ∷ more) is = absurd (false≢true (sym (not_none (length more)) ∙ sym is))

pub some_of : (packets : List (DataChannel AnyGcm)) → false ≡ (length packets == 0) → is_there packets ≡ true
some_of [] is = absurd (false≢true is)
some_of (x ∷ more) is = refl
