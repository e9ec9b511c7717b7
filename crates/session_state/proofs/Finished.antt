-- Whether the newest session is finished, late, and to be followed by a next one.
use Rattle.std.proofs.Common.{◌≡◌, ℕ, zero, suc, ◌*◌, ◌-◌, ◌^◌, Bool, true, false, List, [], ◌∷◌, length, Option, Some, None, refl, ap, sym, subst, ◌∙◌, arith}
use Rattle.std.specs.Prelude.{not, ◌&&◌, ◌||◌, ◌==◌, nat_le, slice_get}
use Rattle.std.proofs.lemmas.Bool.{false≢true}
use Rattle.std.proofs.lemmas.Option.{none-some}
use Rattle.vpn_base.specs.declared.names.Conn.{Conn}
use Rattle.peer_table.specs.ControlPackets.{is_finished_as, newest_is_finished}
use Rattle.peer_table.specs.KeySessions.{Session, Stage, began_before, has_keys, has_passed, is_keyed, newest, newest_usable}
use Rattle.peer_table.specs.KeySessions as sessions
use Rattle.peer_table.specs.Peer.{Peer}
use Rattle.peer_table.specs.Places.{last_place, later}
use Rattle.peer_table.specs.Time.{is_late, is_worn, renews, ticking}
use Rattle.key_sessions.specs.Looks.{newest_seen, stage_of}
use Rattle.key_sessions.specs.Slots.{LastIsOpen}
use Rattle.key_sessions.specs.declared.slot.Newest.{Newest}
use Rattle.key_sessions.specs.declared.slot.Stage.{Stage as StageSeen}
use Rattle.key_sessions.specs.declared.slot.Stage.TheVariants as stages
use Rattle.session_state.specs.internal.Finished.{finished_at, is_finished_seen, is_keyed_stage}
use Rattle.session_state.proofs.Waits.{NewestAt, newest_at, newest_number_is}

same_keyed : (stage : Stage) → is_keyed_stage (stage_of stage) ≡ is_keyed stage
same_keyed sessions.Opening = refl
same_keyed sessions.Named = refl
same_keyed (sessions.Keyed keys) = refl

finished_as : (established : Bool) (n : ℕ) (s : Session) → finished_at established (has_keys s) n ≡ is_finished_as established n (Some s)
finished_as established zero s = refl
finished_as established (suc n) s = refl

finished_by : (established : Bool) (ss : List Session) (seen : Newest) → NewestAt ss seen → is_finished_seen established seen ≡ newest_is_finished established ss
unfolding newest_is_finished
finished_by established ss seen at =
    sym (ap (is_finished_seen established) at.seen_so)
    ∙ ap (λ (keyed : Bool). finished_at established keyed (newest ss)) (same_keyed at.session.stage)
    ∙ finished_as established (newest ss) at.session
    ∙ ap (is_finished_as established (newest ss)) (sym at.here)

pub finished_is : (established : Bool) (ss : List Session) (seen : Newest) → newest_seen ss ≡ Some seen → is_finished_seen established seen ≡ newest_is_finished established ss
finished_is established ss seen is = finished_by established ss seen (newest_at ss seen is)

pub late_is : (p : Peer) (seen : Newest) (hand now : ℕ) (next_conn : Conn) (established idle : Bool) → newest_seen p.sessions ≡ Some seen → hand ≡ p.timers.hand →
    (not (is_finished_seen established seen) && has_passed hand seen.began.0 now) ≡ is_late p (ticking now next_conn established idle)
late_is p seen hand now next_conn established idle is same =
    let at = newest_at p.sessions seen is in
    ap (λ (b : Bool). not b && has_passed hand seen.began.0 now) (finished_is established p.sessions seen is)
    ∙ ap (λ (h : ℕ). not (newest_is_finished established p.sessions) && has_passed h seen.began.0 now) same
    ∙ ap (λ (r : Newest). not (newest_is_finished established p.sessions) && has_passed p.timers.hand r.began.0 now) (sym at.seen_so)
    ∙ ap (λ (o : Option Session). not (newest_is_finished established p.sessions) && began_before p.timers.hand now o) (sym at.here)

-- ---- whether the next session is to begin

keyed_seen : (stage : StageSeen) → is_keyed_stage stage ≡ true → stage ≡ stages.Keyed
keyed_seen stages.Opening is = absurd (false≢true is)
keyed_seen stages.Named is = absurd (false≢true is)
keyed_seen stages.Keyed is = refl

keyed_at : (established keyed : Bool) (n : ℕ) → finished_at established keyed n ≡ true → keyed ≡ true
keyed_at established true n is = refl
keyed_at established false zero is = absurd (false≢true is)
keyed_at established false (suc n) is = absurd (false≢true is)

-- one that is finished has keys
pub finished_keyed : (established : Bool) (seen : Newest) → is_finished_seen established seen ≡ true → seen.stage ≡ stages.Keyed
finished_keyed established seen is = keyed_seen seen.stage (keyed_at established (is_keyed_stage seen.stage) seen.number is)

all_true : (a b c : Bool) → (a && b && c) ≡ true → a ≡ true
all_true true b c is = refl
all_true false b c is = absurd (false≢true is)

-- then the newest session has keys
pub due_keyed : (established worn : Bool) (seen : Newest) → (is_finished_seen established seen && established && worn) ≡ true → seen.stage ≡ stages.Keyed
due_keyed established worn seen is =
    keyed_seen seen.stage (keyed_at established (is_keyed_stage seen.stage) seen.number (all_true (is_finished_seen established seen) established worn is))

last_end : (x : Session) (ss : List Session) (s : Session) → slice_get (x ∷ ss) (length ss) ≡ Some s → has_keys s ≡ true → last_place has_keys (x ∷ ss) ≡ Some (length ss)
last_end x [] s at keyed =
    let same : x ≡ s = cc at in
    ap (λ (b : Bool). later b None) (ap has_keys same ∙ keyed)
last_end x (y ∷ ss) s at keyed = ap (later (has_keys x)) (last_end y ss s at keyed)

last_newest : (ss : List Session) (s : Session) → slice_get ss (newest ss) ≡ Some s → has_keys s ≡ true → last_place has_keys ss ≡ Some (newest ss)
last_newest [] s at keyed = absurd (none-some s at)
last_newest (x ∷ ss) s at keyed =
    let same : length (x ∷ ss) - 1 ≡ length ss = omega arith in
    last_end x ss s (subst (λ (n : ℕ). slice_get (x ∷ ss) n ≡ Some s) same at) keyed ∙ ap Some (sym same)

newest_open : (ss : List Session) (s : Session) → LastIsOpen ss → slice_get ss (newest ss) ≡ Some s → has_keys s ≡ true → s.is_open ≡ true
unfolding newest_usable
newest_open ss s last at keyed = last (newest ss) s (last_newest ss s at keyed) at

worn_by : (keyed by_time : Bool) (a b : ℕ) → (keyed ≡ true → a ≡ b) → (by_time || (keyed && nat_le (255 * 2 ^ 24) a)) ≡ (by_time || (keyed && nat_le (255 * 2 ^ 24) b))
worn_by true by_time a b same = ap (λ (n : ℕ). by_time || (true && nat_le (255 * 2 ^ 24) n)) (same refl)
worn_by false by_time a b same = refl

pub renews_is : (p : Peer) (seen : Newest) (reneg sealed now : ℕ) (next_conn : Conn) (established idle : Bool) → newest_seen p.sessions ≡ Some seen → reneg ≡ p.timers.reneg →
    LastIsOpen p.sessions → ((s : Session) → slice_get p.sessions seen.number ≡ Some s → s.is_open ≡ true → sealed ≡ s.sealed) →
    (is_finished_seen established seen && established
    && ((not (reneg == 0) && has_passed reneg seen.began.0 now) || (is_keyed_stage seen.stage && nat_le (255 * 2 ^ 24) sealed)))
    ≡ renews p (ticking now next_conn established idle)
renews_is p seen reneg sealed now next_conn established idle is same last sealed_is =
    let at = newest_at p.sessions seen is in
    let s = at.session in
    let finished = newest_is_finished established p.sessions in
    ap (λ (b : Bool). b && established && ((not (reneg == 0) && has_passed reneg seen.began.0 now) || (is_keyed_stage seen.stage && nat_le (255 * 2 ^ 24) sealed)))
    (finished_is established p.sessions seen is)
    ∙ ap (λ (r : Newest). finished && established && ((not (reneg == 0) && has_passed reneg r.began.0 now) || (is_keyed_stage r.stage && nat_le (255 * 2 ^ 24) sealed))) (sym at.seen_so)
    ∙ ap (λ (n : ℕ). finished && established && ((not (n == 0) && has_passed n s.began now) || (is_keyed_stage (stage_of s.stage) && nat_le (255 * 2 ^ 24) sealed))) same
    ∙ ap (λ (b : Bool). finished && established && ((not (p.timers.reneg == 0) && has_passed p.timers.reneg s.began now) || (b && nat_le (255 * 2 ^ 24) sealed))) (same_keyed s.stage)
    ∙ ap (λ (b : Bool). finished && established && b)
    (worn_by (has_keys s) (not (p.timers.reneg == 0) && has_passed p.timers.reneg s.began now) sealed s.sealed
    (λ keyed. sealed_is s (newest_number_is p.sessions seen at) (newest_open p.sessions s last at.here keyed)))
    ∙ ap (λ (o : Option Session). finished && established && is_worn p.timers now o) (sym at.here)
