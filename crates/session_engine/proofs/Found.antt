-- The message by which the newest session is prepared lies within its plain text.
use Rattle.std.proofs.Common.{◌≡◌, ◌≢◌, ℕ, zero, suc, ◌+◌, ◌≤◌, ◌==◌, Bool, true, false, List, [], ◌∷◌, length, drop, Option, Some, None, Result, Ok, Err, if◌then◌else◌, ltb, refl, ap, subst, arith}
use Rattle.std.specs.Prelude.{slice_get}
use Rattle.std.proofs.lemmas.Bool.{ltb-false}
use Rattle.std.proofs.lemmas.List.{length-drop}
use Rattle.std.proofs.lemmas.Option.{none-some}
use Rattle.vpn_base.specs.declared.names.Role.{Role}
use Rattle.key_method2.specs.declared.message.Km2.{Km2}
use Rattle.key_method2.specs.declared.message.Source.{Source}
use Rattle.key_method2.specs.declared.stop.Stop.{Stop}
use Rattle.key_method2.specs.declared.stop.Stop.TheVariants.{Cut, Wrong}
use Rattle.key_method2.specs.Message.{opening}
use Rattle.key_method2.specs.Reading as read
use Rattle.key_method2.specs.Reading.{◌>>=◌, answer_to, counted_from, first_difference, opened, parts_at, reading, source_at, source_in, source_length, text_at, text_from, text_if_any, texts_if_any}
use Rattle.key_method2.proofs.Text.{ok_is, text_within}
use Rattle.peer_table.specs.EngineAnswers.{message_in, message_of, prepared_message, whole_of}
use Rattle.peer_table.specs.KeySessions.{Session, Stage, newest, newest_session}
use Rattle.peer_table.specs.KeySessions as sessions
use Rattle.peer_table.specs.Peer.{Peer, other}

-- ---- where a part ends

-- what was read first, and what behind it
both_read : {A B : Type 0} (r : Result A Stop) (f : A → Result B Stop) (y : B) → (r >>= f) ≡ Ok y → (x : A) × (r ≡ Ok x) × (f x ≡ Ok y)
both_read (Ok x) f y is = (x, refl, is)
both_read (Err stop) f y is = absurd cc

-- it ends at this place or behind it, and within the bytes
record Ends (from : ℕ) (bytes : List ℕ) (end : ℕ) : Type 0 where
  behind : from ≤ end
  within : end ≤ length bytes

source_if : (from : Role) (bytes : List ℕ) (x : Source × ℕ) (b : Bool) → ltb (length bytes) (5 + source_length from) ≡ b →
    (if b then Err Cut else Ok (source_in from (drop 5 bytes), 5 + source_length from)) ≡ Ok x → Ends (5 + source_length from) bytes x.1
source_if from bytes x true short is = absurd cc
source_if from bytes x false long is =
    let e = ok_is (source_in from (drop 5 bytes), 5 + source_length from) x is in
    let end : 5 + source_length from ≡ x.1 = ap (λ (y : Source × ℕ). y.1) e in
    let enough = ltb-false (length bytes) (5 + source_length from) long in
    record { behind = omega arith; within = omega arith }

source_ends : (from : Role) (bytes : List ℕ) (x : Source × ℕ) → source_at from bytes ≡ Ok x → Ends (5 + source_length from) bytes x.1
unfolding source_at
source_ends from bytes x is = source_if from bytes x (ltb (length bytes) (5 + source_length from)) refl is

text_by : (at : ℕ) (bytes : List ℕ) (r : Result (List ℕ × ℕ) Stop) (x : List ℕ × ℕ) → at ≤ length bytes → text_at (drop at bytes) ≡ r → counted_from at r ≡ Ok x → Ends at bytes x.1
text_by at bytes (Ok y) x inside read is =
    let e = ok_is (y.0, at + y.1) x is in
    let end : at + y.1 ≡ x.1 = ap (λ (z : List ℕ × ℕ). z.1) e in
    let within = text_within (drop at bytes) y.0 y.1 read in
    let left = length-drop at bytes in
    record { behind = omega arith; within = omega arith }
text_by at bytes (Err Cut) x inside read is = absurd cc
text_by at bytes (Err (Wrong place)) x inside read is = absurd cc

text_ends : (at : ℕ) (bytes : List ℕ) (x : List ℕ × ℕ) → at ≤ length bytes → text_from at bytes ≡ Ok x → Ends at bytes x.1
unfolding text_from
text_ends at bytes x inside is = text_by at bytes (text_at (drop at bytes)) x inside refl is

any_by : (at : ℕ) (bytes : List ℕ) (x : List ℕ × ℕ) (b : Bool) → at ≤ length bytes → (if b then Ok ([], at) else text_from at bytes) ≡ Ok x → Ends at bytes x.1
any_by at bytes x true inside is =
    let e = ok_is ([], at) x is in
    let end : at ≡ x.1 = ap (λ (z : List ℕ × ℕ). z.1) e in
    record { behind = omega arith; within = omega arith }
any_by at bytes x false inside is = text_ends at bytes x inside is

any_ends : (at : ℕ) (bytes : List ℕ) (x : List ℕ × ℕ) → at ≤ length bytes → text_if_any at bytes ≡ Ok x → Ends at bytes x.1
unfolding text_if_any
any_ends at bytes x inside is = any_by at bytes x (at == length bytes) inside is

texts_end : (n at : ℕ) (bytes : List ℕ) (x : List (List ℕ) × ℕ) → at ≤ length bytes → texts_if_any n at bytes ≡ Ok x → Ends at bytes x.1
unfolding texts_if_any
texts_end zero at bytes x inside is =
    let e = ok_is ([], at) x is in
    let end : at ≡ x.1 = ap (λ (z : List (List ℕ) × ℕ). z.1) e in
    record { behind = omega arith; within = omega arith }
texts_end (suc n) at bytes x inside is =
    let text = both_read (text_if_any at bytes) _ x is in
    let first = any_ends at bytes text.0 inside text.1 in
    let others = both_read (texts_if_any n text.0.1 bytes) _ x text.2 in
    let behind = texts_end n text.0.1 bytes others.0 first.within others.1 in
    let e = ok_is (text.0.0 ∷ others.0.0, others.0.1) x others.2 in
    let end : others.0.1 ≡ x.1 = ap (λ (z : List (List ℕ) × ℕ). z.1) e in
    record { behind = omega (arith, first.behind, behind.behind); within = omega (arith, behind.within) }

parts_end : (from : Role) (bytes : List ℕ) (x : Km2 × ℕ) → parts_at from bytes ≡ Ok x → Ends 5 bytes x.1
unfolding parts_at
parts_end from bytes x is =
    let front = both_read (opened (first_difference opening bytes)) _ x is in
    let source = both_read (source_at from bytes) _ x front.2 in
    let first = source_ends from bytes source.0 source.1 in
    let options = both_read (text_from source.0.1 bytes) _ x source.2 in
    let second = text_ends source.0.1 bytes options.0 first.within options.1 in
    let others = both_read (texts_if_any 3 options.0.1 bytes) _ x options.2 in
    let third = texts_end 3 options.0.1 bytes others.0 second.within others.1 in
    let end : others.0.1 ≡ x.1 = ap (λ (z : Km2 × ℕ). z.1) (ok_is (read.message_of source.0.0 (options.0.0 ∷ others.0.0), others.0.1) x others.2) in
    record { behind = omega (arith, first.behind, second.behind, third.behind); within = omega (arith, third.within) }

answered_by : (bytes : List ℕ) (r : Result (Km2 × ℕ) Stop) (m : Km2 × ℕ) → whole_of (answer_to r) ≡ Some m → ((x : Km2 × ℕ) → r ≡ Ok x → Ends 5 bytes x.1) → Ends 5 bytes m.1
answered_by bytes (Ok x) m is ends = let same : x ≡ m = cc is in subst (λ (y : Km2 × ℕ). Ends 5 bytes y.1) same (ends x refl)
answered_by bytes (Err Cut) m is ends = absurd (none-some m is)
answered_by bytes (Err (Wrong place)) m is ends = absurd (none-some m is)

message_ends : (from : Role) (bytes : List ℕ) (m : Km2 × ℕ) → whole_of (reading from bytes) ≡ Some m → Ends 5 bytes m.1
unfolding reading
message_ends from bytes m is = answered_by bytes (parts_at from bytes) m is (λ x read. parts_end from bytes x read)

-- ---- the newest session is prepared

-- it has a name and no keys, and the message of so many bytes lies within its plain text
pub record PreparedAt (p : Peer) (used : ℕ) : Type 0 where
  pub session : Session
  pub here : slice_get p.sessions (newest p.sessions) ≡ Some session
  pub named : session.stage ≡ sessions.Named
  pub some : used ≢ 0
  pub within : used ≤ length session.plain

prepared_in : (p : Peer) (s : Session) (m : Km2 × ℕ) (stage : Stage) → s.stage ≡ stage → slice_get p.sessions (newest p.sessions) ≡ Some s → message_in p s stage ≡ Some m → PreparedAt p m.1
prepared_in p s m sessions.Opening stage here is = absurd (none-some m is)
prepared_in p s m sessions.Named stage here is =
    let ends = message_ends (other p.role) s.plain m is in
    record { session = s; here = here; named = stage; some = λ none. absurd (omega (arith, ends.behind, none)); within = ends.within }
prepared_in p s m (sessions.Keyed keys) stage here is = absurd (none-some m is)

prepared_by : (p : Peer) (m : Km2 × ℕ) (o : Option Session) → newest_session p.sessions ≡ o → message_of p o ≡ Some m → PreparedAt p m.1
prepared_by p m None here is = absurd (none-some m is)
prepared_by p m (Some s) here is = prepared_in p s m s.stage refl here is

pub prepared_at : (p : Peer) (m : Km2 × ℕ) → prepared_message p ≡ Some m → PreparedAt p m.1
unfolding prepared_message
prepared_at p m is = prepared_by p m (newest_session p.sessions) refl is
