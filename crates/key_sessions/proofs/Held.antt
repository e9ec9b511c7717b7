-- The texts that the slots hold, once the slot of one number was changed.
use Rattle.std.proofs.Common.{◌≡◌, ◌≢◌, ℕ, zero, suc, Bool, true, false, List, [], ◌∷◌, Option, Some, None, Bor, refl, ap, sym, subst, ◌∙◌, slice_set}
use Rattle.std.specs.Prelude.{slice_get, IfSome, IfNone, is_some}
use Rattle.std.specs.Option.{option_copied}
use Rattle.std.proofs.lemmas.Option.{none-some}
use Rattle.vpn_base.specs.declared.names.Conn.{Conn}
use Rattle.std.proofs.lemmas.Bool.{false≢true}
use Rattle.vpn_base.specs.declared.names.Cipher.{Cipher}
use Rattle.peer_table.specs.KeySessions.{Session, has_keys, is_keyed}
use Rattle.peer_table.specs.KeySessions as sessions
use Rattle.key_sessions.specs.declared.slot.SlotStage.{SlotStage}
use Rattle.key_sessions.specs.declared.slot.SlotStage.TheVariants as kept
use Rattle.key_sessions.proofs.Each.{BothAt, both_at}
use Rattle.peer_table.specs.Time.{is_open_session}
use Rattle.key_sessions.specs.declared.slot.Slot.{Slot}
use Rattle.key_sessions.specs.declared.slot.Change.{Change}
use Rattle.key_sessions.specs.declared.slot.Change.TheVariants.{Take, Put}
use Rattle.key_sessions.specs.declared.slots.Slots.{Slots}
use Rattle.key_sessions.specs.internal.Steps.{applied, given_at, text_if}
use Rattle.key_sessions.specs.Slots.{HasText, HasTextAt, IsStage, IsWhole, SlotsStand, all_slots, is_open_stage, text_at, text_in}
use Rattle.key_sessions.proofs.Sets.{whole_still}
use Rattle.key_sessions.proofs.Steps.{Changes, answer_stands, taken_there}

other_same : {X : Type 0} (xs : List X) (n m : ℕ) (x : X) → m ≢ n → slice_get (slice_set xs n x) m ≡ slice_get xs m
other_same [] n m x other = refl
other_same (y ∷ xs) zero zero x other = absurd (other refl)
other_same (y ∷ xs) zero (suc m) x other = refl
other_same (y ∷ xs) (suc n) zero x other = refl
other_same (y ∷ xs) (suc n) (suc m) x other = other_same xs n m x (λ same. other (ap suc same))

here_set : {X : Type 0} (xs : List X) (n : ℕ) (x y : X) → slice_get xs n ≡ Some y → slice_get (slice_set xs n x) n ≡ Some x
here_set [] n x y is = absurd (none-some y is)
here_set (z ∷ xs) zero x y is = refl
here_set (z ∷ xs) (suc n) x y is = here_set xs n x y is

other_by : {T : Type 0} (before after : Slots T) (change : Change T) (n m : ℕ) (o : Option (Slot T)) → slice_get (all_slots before) n ≡ o →
    Changes change n before after → m ≢ n → text_at after m ≡ text_at before m
unfolding text_at
other_by {T = T} before after change n m (Some slot) is changes other =
    ap (λ (slots : List (Slot T)). text_in (slice_get slots m)) (changes.slot slot is)
    ∙ ap (λ (o : Option (Slot T)). text_in o) (other_same (all_slots before) n m (applied change slot) other)
other_by {T = T} before after change n m None is changes other = ap (λ (slots : Slots T). text_in (slice_get (all_slots slots) m)) (changes.none is)

-- the text of another number stays
pub other_text : {T : Type 0} (before after : Slots T) (change : Change T) (n m : ℕ) → Changes change n before after → m ≢ n → text_at after m ≡ text_at before m
other_text before after change n m changes other = other_by before after change n m (slice_get (all_slots before) n) refl changes other

put_if : {T : Type 0} (text : T) (b : Bool) → IfSome (text_if text b) (λ here. here ≡ text)
put_if text true = refl
put_if text false = tt

put_by : {T : Type 0} (before after : Slots T) (text : T) (conn : Conn) (n : ℕ) (o : Option (Slot T)) → slice_get (all_slots before) n ≡ o →
    Changes (Put text conn) n before after → IfSome (text_at after n) (λ here. here ≡ text)
unfolding text_at
put_by {T = T} before after text conn n (Some slot) is changes =
    let now_here = ap (λ (slots : List (Slot T)). text_in (slice_get slots n)) (changes.slot slot is)
    ∙ ap (λ (o : Option (Slot T)). text_in o) (here_set (all_slots before) n (applied (Put text conn) slot) slot is) in
    subst (λ (o : Option T). IfSome o (λ here. here ≡ text)) (sym now_here) (put_if text (is_open_stage slot.stage))
put_by {T = T} before after text conn n None is changes =
    let still = ap (λ (slots : Slots T). text_in (slice_get (all_slots slots) n)) (changes.none is) ∙ ap (λ (o : Option (Slot T)). text_in o) is in
    subst (λ (o : Option T). IfSome o (λ here. here ≡ text)) (sym still) tt

-- a text that was put is the one that is there, if one is
pub put_text_is : {T : Type 0} (before after : Slots T) (text : T) (conn : Conn) (n : ℕ) → Changes (Put text conn) n before after → IfSome (text_at after n) (λ here. here ≡ text)
put_text_is before after text conn n changes = put_by before after text conn n (slice_get (all_slots before) n) refl changes

-- ---- a text that is lent

-- whether there is one
pub lent_there : {T : Type 0} (stands_for : T → Session → Type 0) (slots : Slots T) (ss : List Session) (n : ℕ) (result : Option (Bor T)) →
    option_copied result ≡ given_at Take (slice_get (all_slots slots) n) → IsWhole slots → SlotsStand stands_for slots ss → is_some result ≡ is_open_session (slice_get ss n)
lent_there stands_for slots ss n None is whole are = taken_there stands_for slots ss n None is whole are
lent_there stands_for slots ss n (Some b) is whole are = taken_there stands_for slots ss n (Some b.now) is whole are

-- it stands for the session
pub lent_stands : {T : Type 0} (stands_for : T → Session → Type 0) (slots : Slots T) (n : ℕ) (result : Option (Bor T)) →
    option_copied result ≡ given_at Take (slice_get (all_slots slots) n) →
    IfSome result (λ text. (ss : List Session) (s : Session) → SlotsStand stands_for slots ss → slice_get ss n ≡ Some s → stands_for text.now s)
lent_stands stands_for slots n None is = tt
lent_stands stands_for slots n (Some b) is = answer_stands stands_for Take slots n (Some b.now) is

-- ---- sessions without keys

closed_stage : (cipher : Cipher) (stage : sessions.Stage) → IsStage (kept.Closed cipher) stage → is_keyed stage ≡ false → ⊥
closed_stage cipher sessions.Opening is none = is
closed_stage cipher sessions.Named is none = is
closed_stage cipher (sessions.Keyed keys) is none = false≢true (sym none)

open_stage : (kept : SlotStage) (s : Session) → IsStage kept s.stage → is_open_stage kept ≡ s.is_open → has_keys s ≡ false → s.is_open ≡ true
open_stage (kept.Opening k) s is same none = sym same
open_stage (kept.Named k) s is same none = sym same
open_stage (kept.Keyed k) s is same none = sym same
open_stage (kept.Closed cipher) s is same none = absurd (closed_stage cipher s.stage is none)

open_slot : {T : Type 0} (stands_for : T → Session → Type 0) (o : Option (Slot T)) (s : Session) → BothAt stands_for o (Some s) → has_keys s ≡ false → s.is_open ≡ true
open_slot stands_for None s at none = absurd at
open_slot stands_for (Some slot) s at none = open_stage slot.stage s at.stage at.is_open none

-- a session without keys is open
pub open_without : {T : Type 0} (stands_for : T → Session → Type 0) (slots : Slots T) (ss : List Session) (n : ℕ) (s : Session) →
    SlotsStand stands_for slots ss → slice_get ss n ≡ Some s → has_keys s ≡ false → s.is_open ≡ true
unfolding SlotsStand
open_without {T = T} stands_for slots ss n s are at none =
    open_slot stands_for (slice_get (all_slots slots) n) s
    (subst (λ (o : Option Session). BothAt stands_for (slice_get (all_slots slots) n) o) at (both_at stands_for (all_slots slots) ss n are.each)) none

-- ---- where no text was taken

none_by : {T : Type 0} (before after : Slots T) (n : ℕ) (o : Option (Slot T)) → slice_get (all_slots before) n ≡ o → given_at Take o ≡ None → Changes Take n before after →
    IsWhole before → IsWhole after
unfolding IsWhole
none_by {T = T} before after n (Some slot) is none changes whole =
    let has : HasText (is_open_stage slot.stage) slot.text = subst (λ (o : Option (Slot T)). HasTextAt o) is (whole n) in
    subst (λ (slots : List (Slot T)). (m : ℕ) → HasTextAt (slice_get slots m)) (sym (changes.slot slot is))
    (whole_still (all_slots before) n (applied Take slot) whole (subst (λ (t : Option T). HasText (is_open_stage slot.stage) t) none has))
none_by {T = T} before after n None is none changes whole = subst (λ (slots : Slots T). (m : ℕ) → HasTextAt (slice_get (all_slots slots) m)) (sym (changes.none is)) whole

if_none : {T : Type 0} (o : Option T) (P : Type 0) → (o ≡ None → P) → IfNone o P
if_none None P so = so refl
if_none (Some t) P so = tt

-- all texts are there still
pub none_taken : {T : Type 0} (before after : Slots T) (n : ℕ) (result : Option T) → result ≡ given_at Take (slice_get (all_slots before) n) → Changes Take n before after →
    IsWhole before → IfNone result (IsWhole after)
none_taken before after n result is changes whole =
    if_none result (IsWhole after) (λ none. none_by before after n (slice_get (all_slots before) n) refl (sym is ∙ none) changes whole)
