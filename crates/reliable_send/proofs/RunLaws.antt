-- Whole runs, one step after the other.
use Rattle.std.proofs.Common.{◌≡◌, ℕ, ◌+◌, ◌<◌, ◌≤◌, List, [], ◌∷◌, ◌++◌, length, get_or, take, drop, map, refl, sym, ap, subst, ◌∙◌}
use Rattle.std.proofs.lemmas.List.{append_assoc, append-nil, drop_more, map_push, take_more, take_all}
use Rattle.std.specs.Prelude.{Some, None}
use Rattle.vpn_base.specs.declared.names.Moment.{Moment}
use Rattle.reliable_send.specs.declared.runs.SendingEvent.{SendingEvent}
use Rattle.reliable_send.specs.Sending.{Sending, Numbered, due, ready, sent}
use Rattle.reliable_send.specs.Sides.{Side, Stands, first_id, first_of}
use Rattle.reliable_send.specs.Runs.{SentAt, after, after_all, sent_all, sent_by, sent_in}
use Rattle.reliable_send.proofs.Shrinking.{due_after, ready_after}

-- ---- sending all that waits

-- one more was sent
sent_all-push : (ps : List Numbered) (p : Numbered) (now : ℕ) (h : Sending) → sent_all (ps ++ p ∷ []) now h ≡ sent (sent_all ps now h) p.0 now
sent_all-push [] p now h = refl
sent_all-push (q ∷ ps) p now h = sent_all-push ps p now (sent h q.0 now)

-- of what waits in a history, so many were sent, and the rest waits still
pub record IsUnderway (pending : Sending → List Numbered) (now : Moment) (h : Sending) (before log : List SentAt) (side : Side) (i : ℕ) : Type 0 where
  pub told : log ≡ before ++ map (λ (p : Numbered). (now, p.0)) (take i (pending h))
  pub stands : Stands side (sent_all (take i (pending h)) now.0 h)
  pub left : pending (sent_all (take i (pending h)) now.0 h) ≡ drop i (pending h)

-- at first nothing was sent
pub underway_begins : (pending : Sending → List Numbered) (now : Moment) (h : Sending) (before : List SentAt) (side : Side) → Stands side h → IsUnderway pending now h before before side 0
underway_begins pending now h before side s = record { told = sym (append-nil before); stands = s; left = refl }

pub first_named : (ps : List Numbered) (id : ℕ) (bytes : List ℕ) → Some (id, bytes) ≡ first_of ps → first_id ps ≡ Some id
first_named [] id bytes e = absurd cc
first_named (p ∷ ps) id bytes e = let k : (id, bytes) ≡ p = cc in let same : id ≡ p.0 = ap (λ (a : Numbered). a.0) k in cc

some_id : (a b : ℕ) → Some a ≡ Some b → a ≡ b
some_id a b e = cc

-- while something waits, there is a first of it
pub underway_goes_on : (pending : Sending → List Numbered) (now : Moment) (h : Sending) (before log : List SentAt) (side : Side) (i : ℕ) → IsUnderway pending now h before log side i → i < length (pending h) →
    ((k : Sending) → Stands side k → None ≡ first_of (pending k)) → ⊥
underway_goes_on pending now h before log side i u more none =
    let none' = none (sent_all (take i (pending h)) now.0 h) u.stands in
    let first = u.left ∙ drop_more (pending h) i (0, []) more in
    let some = ap first_of first in cc

-- the first of it is sent
pub underway_sends : (pending : Sending → List Numbered) (now : Moment) (h : Sending) (before log log' : List SentAt) (side side' : Side) (i id : ℕ) → IsUnderway pending now h before log side i → i < length (pending h) →
    ((k : Sending) (p : Numbered) (rest : List Numbered) → Stands side k → pending k ≡ p ∷ rest → pending (sent k p.0 now.0) ≡ rest) →
    ((k : Sending) → Stands side k → first_id (pending k) ≡ Some id) →
    ((k : Sending) → Stands side k → first_id (pending k) ≡ Some id → Stands side' (sent k id now.0)) →
    log' ≡ log ++ (now, id) ∷ [] → IsUnderway pending now h before log' side' (i + 1)
underway_sends pending now h before log log' side side' i id u more shrinks named counts pushed =
    let all = pending h in
    let h' = sent_all (take i all) now.0 h in
    let p : Numbered = get_or all i (0, []) in
    let waiting : pending h' ≡ p ∷ drop (i + 1) all = u.left ∙ drop_more all i (0, []) more in
    let name = named h' u.stands in
    let same : p.0 ≡ id = some_id p.0 id (ap first_id (sym waiting) ∙ name) in
    let longer : take (i + 1) all ≡ take i all ++ p ∷ [] = take_more all i (0, []) more in
    let after' : sent_all (take (i + 1) all) now.0 h ≡ sent h' p.0 now.0 = ap (λ (ps : List Numbered). sent_all ps now.0 h) longer ∙ sent_all-push (take i all) p now.0 h in
    let stands' : Stands side' (sent h' p.0 now.0) = rw same (counts h' u.stands name) in
    let stamp : Numbered → SentAt = λ (p : Numbered). (now, p.0) in
    let logged : map stamp (take (i + 1) all) ≡ map stamp (take i all) ++ (now, id) ∷ [] =
    ap (map stamp) longer ∙ map_push stamp (take i all) p ∙ ap (λ (k : ℕ). map stamp (take i all) ++ (now, k) ∷ []) same in
    record {
      told = pushed ∙ ap (λ (l : List SentAt). l ++ (now, id) ∷ []) u.told ∙ append_assoc before (map stamp (take i all)) ((now, id) ∷ []) ∙ ap (λ (l : List SentAt). before ++ l) (sym logged);
      stands = subst (λ (k : Sending). Stands side' k) (sym after') stands';
      left = ap pending after' ∙ shrinks h' p (drop (i + 1) all) u.stands waiting;
    }

-- at last all was sent
pub underway_ends : (pending : Sending → List Numbered) (now : Moment) (h : Sending) (before log : List SentAt) (side : Side) (i : ℕ) → IsUnderway pending now h before log side i → length (pending h) ≤ i →
    (log ≡ before ++ map (λ (p : Numbered). (now, p.0)) (pending h)) × Stands side (sent_all (pending h) now.0 h)
underway_ends pending now h before log side i u all =
    let whole = take_all i (pending h) all in (rw whole at u.told, rw whole at u.stands)

pub ready_shrinks_so : (now : ℕ) (side : Side) (k : Sending) (p : Numbered) (rest : List Numbered) → Stands side k → ready k ≡ p ∷ rest → ready (sent k p.0 now) ≡ rest
ready_shrinks_so now side k p rest s e = ready_after k p rest now e

pub due_shrinks_so : (now : ℕ) (side : Side) (k : Sending) (p : Numbered) (rest : List Numbered) → Stands side k → due k now ≡ p ∷ rest → due (sent k p.0 now) now ≡ rest
unfolding Stands
due_shrinks_so now side k p rest s e = due_after k p rest now s.reached.some e

-- ---- events

pub sent_in-push : (es : List SendingEvent) (e : SendingEvent) (h : Sending) → sent_in (es ++ e ∷ []) h ≡ sent_in es h ++ sent_by (after_all es h) e
sent_in-push [] e h = append-nil (sent_by h e)
sent_in-push (x ∷ es) e h = ap (λ (l : List SentAt). sent_by h x ++ l) (sent_in-push es e (after h x)) ∙ sym (append_assoc (sent_by h x) (sent_in es (after h x)) (sent_by (after_all es (after h x)) e))

pub after_all-push : (es : List SendingEvent) (e : SendingEvent) (h : Sending) → after_all (es ++ e ∷ []) h ≡ after (after_all es h) e
after_all-push [] e h = refl
after_all-push (x ∷ es) e h = after_all-push es e (after h x)
