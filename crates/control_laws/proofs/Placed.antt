-- The session that takes a control packet has the key id that it carries.
use Rattle.std.proofs.Common.{◌≡◌, ℕ, zero, suc, ◌==◌, Bool, true, false, List, [], ◌∷◌, length, pred, Option, Some, None, is_some, refl, sym, ap, ◌∙◌, subst}
use Rattle.std.specs.Prelude.{◌&&◌, slice_get}
use Rattle.std.proofs.lemmas.Bool.{and_parts, eqb-true, false≢true}
use Rattle.opcode_codec.specs.FirstByte.{opcode_of}
use Rattle.peer_table.specs.ControlPackets.{is_first, is_soft_reset, newest_is_finished}
use Rattle.peer_table.specs.KeySessions.{Session, kid_of, live_with}
use Rattle.peer_table.specs.Orderly.{IsOrderly}
use Rattle.peer_table.specs.Places.{earlier, first_place}
use Rattle.server_table.specs.Table.{Client, Table}
use Rattle.server_table.specs.ControlDatagrams.{ControlPacket}
use Rattle.control_laws.specs.Tests.{IsPlaced, Live, Next, begins_next_of, carried_kid}
use Rattle.control_laws.proofs.Actions.{none_some, some_same}
use Rattle.control_laws.proofs.Live.{found_live, live_found, live_none, live_there, none_live}

-- the session of a client that a packet comes to, as it is looked for
pub data IsFound (t : Table) (x : Client) (r : ControlPacket) (k : ℕ) : Type 0 where
  FoundLive : (s : Session) → slice_get x.session.sessions k ≡ Some s → live_with x.session.timers t.moment x.session.sessions (carried_kid r) ≡ Some k → IsFound t x r k
  FoundNext : live_with x.session.timers t.moment x.session.sessions (carried_kid r) ≡ None → begins_next_of x r ≡ true → k ≡ length x.session.sessions → IsFound t x r k

pub found_placed : (t : Table) (x : Client) (r : ControlPacket) (k : ℕ) → IsFound t x r k → IsPlaced t x r k
found_placed t x r k (FoundLive s there live) =
    let f = found_live x.session.timers t.moment x.session.sessions (carried_kid r) k live in Live f.0 f.1
found_placed t x r k (FoundNext none begins next) = Next (none_live x.session.timers t.moment x.session.sessions (carried_kid r) none) begins next

pub placed_found : (t : Table) (x : Client) (r : ControlPacket) (k : ℕ) → IsOrderly x.session.sessions → IsPlaced t x r k → IsFound t x r k
placed_found t x r k orderly (Live is kid) =
    let s = live_there x.session.timers t.moment x.session.sessions k orderly is in
    FoundLive s.session s.there (live_found x.session.timers t.moment x.session.sessions (carried_kid r) k orderly is kid)
placed_found t x r k orderly (Next none begins next) = FoundNext (live_none x.session.timers t.moment x.session.sessions (carried_kid r) none) begins next

-- what begins the next session
pub record BeginsNext (x : Client) (r : ControlPacket) : Type 0 where
  pub kid : carried_kid r ≡ kid_of (length x.session.sessions)
  pub finished : newest_is_finished (is_some x.established) x.session.sessions ≡ true

pub begins_parts : (x : Client) (r : ControlPacket) → begins_next_of x r ≡ true → BeginsNext x r
begins_parts x r is =
    let soft = is_soft_reset (opcode_of r.packet.first) in
    let kid = carried_kid r == kid_of (length x.session.sessions) in
    let first = is_first r.form.id in
    let finished = newest_is_finished (is_some x.established) x.session.sessions in
    let a = and_parts (soft && kid && first) finished is in
    let b = and_parts (soft && kid) first a.0 in
    let c = and_parts soft kid b.0 in
    record { kid = eqb-true (carried_kid r) (kid_of (length x.session.sessions)) c.1; finished = a.1 }

pub placed_kid : (t : Table) (x : Client) (r : ControlPacket) (k : ℕ) → IsPlaced t x r k → carried_kid r ≡ kid_of k
placed_kid t x r k (Live is kid) = kid
placed_kid t x r k (Next none begins next) = (begins_parts x r begins).kid ∙ ap kid_of (sym next)

-- ---- first places

pub record FirstAt {X : Type 0} (passes : X → Bool) (xs : List X) (n : ℕ) : Type 0 where
  pub item : X
  pub there : slice_get xs n ≡ Some item
  pub passed : passes item ≡ true

is_zero : Option ℕ → Bool
is_zero (Some zero) = true
is_zero o = false

first_step : {X : Type 0} (passes : X → Bool) (x : X) (xs : List X) (b : Bool) (o : Option ℕ) (n : ℕ) → passes x ≡ b → earlier b o ≡ Some n →
    ((m : ℕ) → o ≡ Some m → FirstAt passes xs m) → FirstAt passes (x ∷ xs) n
unfolding is_zero
first_step passes x xs true o zero is e behind = record { item = x; there = refl; passed = is }
first_step passes x xs true o (suc n) is e behind = absurd (false≢true (ap is_zero (sym e)))
first_step passes x xs false None n is e behind = absurd (none_some e)
first_step passes x xs false (Some m) zero is e behind = absurd (false≢true (ap is_zero e))
first_step passes x xs false (Some m) (suc n) is e behind =
    let f = behind m refl in
    let same : m ≡ n = ap pred (some_same e) in
    record { item = f.item; there = subst (λ k. slice_get xs k ≡ Some f.item) same f.there; passed = f.passed }

pub first_is : {X : Type 0} (passes : X → Bool) (xs : List X) (n : ℕ) → first_place passes xs ≡ Some n → FirstAt passes xs n
first_is passes [] n e = absurd (none_some e)
first_is passes (x ∷ xs) n e = first_step passes x xs (passes x) (first_place passes xs) n refl e (λ m there. first_is passes xs m there)

none_step : {X : Type 0} (passes : X → Bool) (x : X) (xs : List X) (b : Bool) (o : Option ℕ) → passes x ≡ b → earlier b o ≡ None → (b ≡ false) × (o ≡ None)
none_step passes x xs true o is e = absurd (none_some (sym e))
none_step passes x xs false None is e = (refl, refl)
none_step passes x xs false (Some m) is e = absurd (none_some (sym e))

pub none_passes : {X : Type 0} (passes : X → Bool) (xs : List X) → first_place passes xs ≡ None → (i : ℕ) (x : X) → slice_get xs i ≡ Some x → passes x ≡ false
none_passes passes [] e i x there = absurd (none_some there)
none_passes passes (y ∷ xs) e zero x there = ap passes (sym (some_same there)) ∙ (none_step passes y xs (passes y) (first_place passes xs) refl e).0
none_passes passes (y ∷ xs) e (suc i) x there =
    none_passes passes xs (none_step passes y xs (passes y) (first_place passes xs) refl e).1 i x there

-- where nobody passes there is no first place
pub none_first : {X : Type 0} (passes : X → Bool) (xs : List X) (o : Option ℕ) → first_place passes xs ≡ o → ((i : ℕ) (x : X) → slice_get xs i ≡ Some x → passes x ≡ false) → o ≡ None
none_first passes xs None e fails = refl
none_first passes xs (Some n) e fails = let f = first_is passes xs n e in absurd (false≢true (sym (fails n f.item f.there) ∙ f.passed))
