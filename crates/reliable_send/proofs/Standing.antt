-- What is kept stands for every piece that was ever offered.
use Rattle.std.proofs.Common.{◌≡◌, ℕ, ◌+◌, ◌-◌, ◌^◌, ◌<◌, ◌≤◌, Bool, true, false, cond, ltb, List, [], ◌∷◌, ◌++◌, length, take, drop, map, refl, sym, ap, subst, ◌∙◌, arith}
use Rattle.std.proofs.lemmas.List.{drop-drop, drop-map, drop-append-le, length-drop, length-map, length-take, map-append, take-map}
use Rattle.std.specs.Prelude.{◌||◌, Some}
use Rattle.vpn_base.specs.declared.names.Moment.{Moment}
use Rattle.reliable_send.specs.declared.pieces.KeptPiece.{KeptPiece}
use Rattle.reliable_send.specs.declared.pieces.Wanted.TheVariants.{Unsent, Due}
use Rattle.reliable_send.specs.Sending.{Offered, Sending, Numbered, acknowledge, acked, begun, cut, first_unacknowledged, is_full, offered, peer_started, ready, due, send, sent, unsent}
use Rattle.reliable_send.specs.Sides.{IsKeptOf, Kept, counted, first_id, in_flight, is_among, seen}
use Rattle.reliable_send.specs.internal.Sound.{waiting}
use Rattle.reliable_send.specs.internal.Walks.{alter, count_one, counted_pieces, found, leading, mark}
use Rattle.reliable_send.proofs.Shrinking.{first-send}
use Rattle.reliable_send.proofs.Cutting.{fresh}
use Rattle.reliable_send.proofs.Finding.{either_within}
use Rattle.reliable_send.proofs.Histories.{ready_found, due_found, few_ready, few_due, few_in_flight, leading-seen, acknowledge_seen, first_acked, drop_acked, ack_before, acked_sent, unsent_beyond_acked, unsent_further, drop_sent, drop-send_past, sent_acked_sent, send_seen, first_append, first_le, acked_sent_append, unsent_append, new_seen, waiting_seen}

-- ---- what goes out

-- what may be sent is what is found
pub ready_is : (w : Kept) (h : Sending) → IsKeptOf w h → found (Unsent w.started) w.first (take 6 w.pieces) ≡ ready h
ready_is w h s =
    rw (s.started, s.first, s.pieces, take-map (seen h.timeout) 6 (drop (first_unacknowledged h.pieces) h.pieces)) (ready_found h s.reached.acked s.reached.beyond)

-- what is due is what is found
pub due_is : (w : Kept) (h : Sending) (now : Moment) → IsKeptOf w h → found (Due now) w.first (take 6 w.pieces) ≡ due h now.0
due_is w h now s =
    rw (s.first, s.pieces, take-map (seen h.timeout) 6 (drop (first_unacknowledged h.pieces) h.pieces)) (due_found h now s.reached.acked s.reached.beyond)

-- at most 6 may be sent, are due, or are in flight
pub ready_few : (w : Kept) (h : Sending) → IsKeptOf w h → length (ready h) ≤ 6
ready_few w h s = few_ready h s.reached.acked s.reached.beyond

pub due_few : (w : Kept) (h : Sending) (now : ℕ) → IsKeptOf w h → length (due h now) ≤ 6
due_few w h now s = few_due h now s.reached.acked s.reached.beyond

pub in_flight_few : (w : Kept) (h : Sending) → IsKeptOf w h → length (in_flight h) ≤ 6
in_flight_few w h s = few_in_flight h s.reached.acked s.reached.beyond

pub some_timeout : (w : Kept) (h : Sending) → IsKeptOf w h → 1 ≤ h.timeout
some_timeout w h s = s.reached.some

pub most_timeout : (w : Kept) (h : Sending) → IsKeptOf w h → h.timeout ≤ 60
most_timeout w h s = s.reached.most

-- ---- the steps

pub stands_begun : (t : ℕ) → 1 ≤ t → t ≤ 60 → IsKeptOf (record { timeout = t; started = false; first = 0; pieces = fresh [] ∷ [] }) (begun t)
stands_begun t some most = record {
  timeout = refl;
  started = refl;
  first = refl;
  pieces = refl;
  reached = record { some = some; most = most; acked = (λ e. absurd cc, tt); beyond = tt };
}

pub stands_started : (w : Kept) (h : Sending) → IsKeptOf w h → IsKeptOf (record w { started = true }) (peer_started h)
stands_started w h s = record {
  timeout = s.timeout;
  started = refl;
  first = s.first;
  pieces = s.pieces;
  reached = record { some = s.reached.some; most = s.reached.most; acked = s.reached.acked; beyond = s.reached.beyond };
}

-- an acknowledgement of a piece that is forgotten
pub stands_acked_before : (w : Kept) (h : Sending) (id : ℕ) → id < w.first → IsKeptOf w h → IsKeptOf w (acked h id)
unfolding acked
stands_acked_before w h id below s =
    subst (λ (ps : List Offered). IsKeptOf w (record h { pieces = ps })) (sym (ack_before h.pieces id (omega (arith, s.first)))) s

-- the kept pieces and their first id after an acknowledgement of a piece from the first on
kept_acked : (t first : ℕ) (pieces : List KeptPiece) (ps : List Offered) (id : ℕ) → first ≤ id → first ≡ first_unacknowledged ps →
    pieces ≡ map (seen t) (drop (first_unacknowledged ps) ps) →
    alter mark (id - first) pieces ≡ map (seen t) (acknowledge (id - first_unacknowledged ps) (drop (first_unacknowledged ps) ps))
kept_acked t first pieces ps id from is kept = rw (is, kept) (sym (acknowledge_seen t (id - first_unacknowledged ps) (drop (first_unacknowledged ps) ps)))

pub stands_acked : (w : Kept) (h : Sending) (id : ℕ) (marked : List KeptPiece) → marked ≡ alter mark (id - w.first) w.pieces → w.first ≤ id → IsKeptOf w h →
    IsKeptOf (record w { first = w.first + leading marked; pieces = drop (leading marked) marked }) (acked h id)
unfolding acked
stands_acked w h id marked is from s =
    let t = h.timeout in
    let n = first_unacknowledged h.pieces in
    let rest = acknowledge (id - n) (drop n h.pieces) in
    let after = acknowledge id h.pieces in
    let from' : n ≤ id = omega (arith, s.first) in
    let m = first_unacknowledged rest in
    let seen_so : marked ≡ map (seen t) rest = is ∙ kept_acked t w.first w.pieces h.pieces id from s.first s.pieces in
    let lead : leading marked ≡ m = ap leading seen_so ∙ leading-seen t rest in
    let first : first_unacknowledged after ≡ n + m = first_acked id h.pieces from' in
    let left : drop (first_unacknowledged after) after ≡ drop m rest = ap (λ k. drop k after) first ∙ sym (drop-drop m n after) ∙ ap (drop m) (drop_acked n id h.pieces from') in
    record {
      timeout = s.timeout;
      started = s.started;
      first = omega (arith, s.first, lead, first);
      pieces = ap (λ (k : ℕ). drop k marked) lead ∙ ap (drop m) seen_so ∙ drop-map (seen t) m rest ∙ ap (map (seen t)) (sym left);
      reached = record {
        some = s.reached.some;
        most = s.reached.most;
        acked = acked_sent id h.pieces s.reached.acked;
        beyond = unsent_further (n + 6) (first_unacknowledged after + 6) after (omega (arith, first)) (unsent_beyond_acked (n + 6) id h.pieces s.reached.beyond);
      };
    }

-- a sending of a piece in the window
pub stands_sent : (w : Kept) (h : Sending) (id : ℕ) (now : Moment) → w.first ≤ id → id < w.first + 6 → IsKeptOf w h →
    IsKeptOf (record w { pieces = alter (count_one w.timeout now) (id - w.first) w.pieces }) (sent h id now.0)
unfolding sent
stands_sent w h id now from below s =
    let t = h.timeout in
    let n = first_unacknowledged h.pieces in
    let rest = drop n h.pieces in
    let after = send id now.0 h.pieces in
    let same : first_unacknowledged after ≡ n = first-send id now.0 h.pieces in
    let from' : n ≤ id = omega (arith, s.first) in
    let left : drop (first_unacknowledged after) after ≡ send (id - n) now.0 rest = ap (λ k. drop k after) same ∙ drop_sent n id now.0 h.pieces from' in
    let far : drop (n + 6) after ≡ drop (n + 6) h.pieces = drop-send_past (n + 6) id now.0 h.pieces (omega (arith, s.first)) in
    record {
      timeout = s.timeout;
      started = s.started;
      first = s.first ∙ sym same;
      pieces = rw (left, s.timeout, s.first, s.pieces) (sym (send_seen t (id - n) now rest s.reached.most));
      reached = record {
        some = s.reached.some;
        most = s.reached.most;
        acked = sent_acked_sent id now.0 h.pieces s.reached.acked;
        beyond = rw (same, far) s.reached.beyond;
      };
    }

-- what is found in the window has an id in it
within_window : (w : Kept) (id : ℕ) (now : Moment) → is_among id (found (Unsent w.started) w.first (take 6 w.pieces)) || is_among id (found (Due now) w.first (take 6 w.pieces)) ≡ true →
    (w.first ≤ id) × (id < w.first + 6)
within_window w id now e =
    let within = either_within (Unsent w.started) (Due now) w.first id (take 6 w.pieces) e in
    let few = length-take 6 w.pieces in (within.0, omega (arith, within.1, few))

counted_when : (b : Bool) (w : Kept) (h : Sending) (id : ℕ) (now : Moment) → (b ≡ true → (w.first ≤ id) × (id < w.first + 6)) → IsKeptOf w h →
    IsKeptOf (record w { pieces = cond b (alter (count_one w.timeout now) (id - w.first) w.pieces) w.pieces }) (cond b (sent h id now.0) h)
counted_when true w h id now within s = let k = within refl in stands_sent w h id now k.0 k.1 s
counted_when false w h id now within s = s

-- counting a piece
pub stands_counted : (w : Kept) (h : Sending) (id : ℕ) (now : Moment) → IsKeptOf w h →
    IsKeptOf (record w { pieces = counted_pieces w.started w.first w.timeout id now w.pieces }) (counted h id now.0)
unfolding counted_pieces counted
stands_counted w h id now s =
    rw (← ready_is w h s, ← due_is w h now s)
    (counted_when (is_among id (found (Unsent w.started) w.first (take 6 w.pieces)) || is_among id (found (Due now) w.first (take 6 w.pieces))) w h id now (within_window w id now) s)

among_first : (id : ℕ) (ps : List Numbered) → first_id ps ≡ Some id → is_among id ps ≡ true
among_first id [] e = absurd cc
among_first id (p ∷ ps) e = let k : p.0 ≡ id = cc in grind (arith, k)

or_left : (a b : Bool) → a ≡ true → a || b ≡ true
or_left true b e = refl
or_left false b e = absurd cc

or_right : (a b : Bool) → b ≡ true → a || b ≡ true
or_right true b e = refl
or_right false b e = e

-- the first that may be sent counts as sent
pub counted_ready : (h : Sending) (id now : ℕ) → first_id (ready h) ≡ Some id → counted h id now ≡ sent h id now
unfolding counted
counted_ready h id now e = rw (or_left (is_among id (ready h)) (is_among id (due h now)) (among_first id (ready h) e)) refl

-- so does the first that is due
pub counted_due : (h : Sending) (id now : ℕ) → first_id (due h now) ≡ Some id → counted h id now ≡ sent h id now
unfolding counted
counted_due h id now e = rw (or_right (is_among id (ready h)) (is_among id (due h now)) (among_first id (due h now) e)) refl

-- ---- offering

-- the new pieces come last
pub stands_offered : (w : Kept) (h : Sending) (bytes : List ℕ) (made : List KeptPiece) → made ≡ map fresh (cut bytes) → IsKeptOf w h →
    IsKeptOf (record w { pieces = w.pieces ++ made }) (offered h bytes)
unfolding offered
stands_offered w h bytes made is s =
    let t = h.timeout in
    let n = first_unacknowledged h.pieces in
    let new = map unsent (cut bytes) in
    let same : first_unacknowledged (h.pieces ++ new) ≡ n = first_append h.pieces (cut bytes) in
    let left : drop (first_unacknowledged (h.pieces ++ new)) (h.pieces ++ new) ≡ drop n h.pieces ++ new =
    ap (λ k. drop k (h.pieces ++ new)) same ∙ drop-append-le n h.pieces new (first_le h.pieces) in
    record {
      timeout = s.timeout;
      started = s.started;
      first = s.first ∙ sym same;
      pieces =
          ap (λ (ps : List KeptPiece). ps ++ made) s.pieces ∙ ap (λ (ps : List KeptPiece). map (seen t) (drop n h.pieces) ++ ps) (is ∙ sym (new_seen t (cut bytes)))
          ∙ sym (map-append (seen t) (drop n h.pieces) new) ∙ ap (map (seen t)) (sym left);
      reached = record {
        some = s.reached.some;
        most = s.reached.most;
        acked = acked_sent_append h.pieces (cut bytes) s.reached.acked;
        beyond = rw same (unsent_append (n + 6) h.pieces (cut bytes) s.reached.beyond);
      };
    }

-- whether there is room, by what is kept
pub full_is : (w : Kept) (h : Sending) (bytes : List ℕ) → IsKeptOf w h →
    is_full h bytes ≡ ltb 65536 (waiting w.pieces + length bytes) || ltb (2 ^ 32) (w.first + length w.pieces + length (cut bytes))
unfolding is_full
full_is w h bytes s =
    let n = first_unacknowledged h.pieces in
    let rest = drop n h.pieces in
    let bytes_so = waiting_seen h.timeout h.pieces in
    let short = length-drop n h.pieces in
    let few = first_le h.pieces in
    let count : length h.pieces ≡ n + length (map (seen h.timeout) rest) = rw (length-map rest (seen h.timeout)) (omega (arith, short, few)) in
    rw (s.pieces, s.first, bytes_so, ← count) refl

pub full_by_bytes : (w : Kept) (h : Sending) (bytes : List ℕ) → IsKeptOf w h → 65536 < waiting w.pieces + length bytes → is_full h bytes ≡ true
full_by_bytes w h bytes s more = full_is w h bytes s ∙ or_left (ltb 65536 (waiting w.pieces + length bytes)) (ltb (2 ^ 32) (w.first + length w.pieces + length (cut bytes))) (grind arith)

pub full_by_ids : (w : Kept) (h : Sending) (bytes : List ℕ) → IsKeptOf w h → 2 ^ 32 < w.first + length w.pieces + length (cut bytes) → is_full h bytes ≡ true
full_by_ids w h bytes s more = full_is w h bytes s ∙ or_right (ltb 65536 (waiting w.pieces + length bytes)) (ltb (2 ^ 32) (w.first + length w.pieces + length (cut bytes))) (grind arith)

neither : (a b : Bool) → a ≡ false → b ≡ false → a || b ≡ false
neither true b e k = absurd cc
neither false b e k = k

pub not_full : (w : Kept) (h : Sending) (bytes : List ℕ) → IsKeptOf w h → waiting w.pieces + length bytes ≤ 65536 → w.first + length w.pieces + length (cut bytes) ≤ 2 ^ 32 → is_full h bytes ≡ false
not_full w h bytes s fit ids =
    full_is w h bytes s ∙ neither (ltb 65536 (waiting w.pieces + length bytes)) (ltb (2 ^ 32) (w.first + length w.pieces + length (cut bytes))) (grind arith) (grind arith)
