-- What sending one piece after the other comes to.
use Rattle.std.proofs.Common.{◌≡◌, ℕ, suc, ◌-◌, ◌<◌, ◌≤◌, Bool, true, false, List, [], ◌∷◌, ◌++◌, length, map, Option, Some, None, Result, Ok, Err, if◌then◌else◌, unwrap_or, ap, sym, subst, ◌∙◌, refl, arith}
use Rattle.std.proofs.lemmas.List.{append-nil, append_assoc}
use Rattle.packet_ids.specs.declared.sending.Spent.{Spent}
use Rattle.vpn_links.specs.Actions.{Contents, Datagram, Holds}
use Rattle.reliable_send.specs.Sending.{Sending, Numbered, sent}
use Rattle.reliable_send.specs.Sides.{Side, Stands, first_of}
use Rattle.tls_crypt.specs.Packets.{Wrapping}
use Rattle.control_link.specs.declared.envelope.Envelope.{Envelope}
use Rattle.control_link.specs.declared.sending.Route.{Route}
use Rattle.control_link.specs.Envelope.{EnvelopeHistory, EnvelopeStands, with_used}
use Rattle.control_link.specs.Messages.{Flush, ack_message, behind, datagram, flushed, piece_message, send_ack, send_pieces, sent_none}
use Rattle.control_link.specs.internal.Sending.{Sent, SentOne, head_in}

-- a list that has a first item
pub record IsBegunBy (p : Numbered) (ps : List Numbered) : Type 0 where
  pub rest : List Numbered
  pub is : ps ≡ p ∷ rest

abbrev IsThere : Option Numbered → Type 0
IsThere None = ⊥
IsThere (Some p) = Unit {0}

pub first_is : (p : Numbered) (ps : List Numbered) → Some p ≡ first_of ps → IsBegunBy p ps
first_is p [] e = elim (subst IsThere e tt) [ ]
first_is p (q ∷ qs) e = record { rest = qs; is = ap (λ (o : Option Numbered). unwrap_or o p ∷ qs) (sym e) }

pub none_is : (ps : List Numbered) → None ≡ first_of ps → ps ≡ []
none_is [] e = refl
none_is (q ∷ qs) e = elim (subst IsThere (sym e) tt) [ ]

pub none_left : (ps : List Numbered) → length ps ≡ 0 → ps ≡ []
none_left [] e = refl
none_left (q ∷ qs) e = let never : ⊥ = omega (arith, e) in elim never [ ]

-- no datagram was staged
same_staged : (out : Contents) → Holds out out.effects (out.staged ++ [])
same_staged out = (refl, sym (append-nil out.staged))

pub nothing_sent : {W : Type 0} (wrapped : W → Wrapping) (side : Side) (env : Envelope W) (out : Contents) (r : Route) (ids : List ℕ) (now : ℕ) (ps : List Numbered) (s : Sending) (h : EnvelopeHistory)
    → ps ≡ [] → Stands side s → EnvelopeStands wrapped env h → Sent wrapped side env out out r (send_pieces (head_in r) ids now ps s h) (Ok tt)
unfolding send_pieces
nothing_sent {W} wrapped side env out r ids now ps s h none stands seals =
    subst (λ (l : List Numbered). Sent wrapped side env out out r (send_pieces (head_in r) ids now l s h) (Ok tt)) (sym none) (stands, seals, same_staged out, refl)

-- the wrap ids had ended
pub spent_first : {W : Type 0} (wrapped : W → Wrapping) (side : Side) (env : Envelope W) (before after : Contents) (r : Route) (ids : List ℕ) (now : ℕ) (ps : List Numbered) (p : Numbered) (s : Sending) (h : EnvelopeHistory) (e : Spent)
    → IsBegunBy p ps → Stands side s → SentOne wrapped env before after r h (piece_message (head_in r) ids p) (Err e) → Sent wrapped side env before after r (send_pieces (head_in r) ids now ps s h) (Err e)
unfolding send_pieces
spent_first {W} wrapped side env before after r ids now ps p s h e begins stands one =
    subst (λ (l : List Numbered). Sent wrapped side env before after r (send_pieces (head_in r) ids now l s h) (Err e)) (sym begins.is)
    (subst (λ (b : Bool). Sent wrapped side env before after r (if b then sent_none true s h else behind (datagram (head_in r) h (piece_message (head_in r) ids p)) (send_pieces (head_in r) [] now begins.rest (sent s p.0 now) (with_used h))) (Err e)) (sym one.0)
    (stands, one.1, (one.2.0, one.2.1 ∙ sym (append-nil before.staged)), refl))

-- a datagram more, and then those that follow
pub more_staged : (before middle after : Contents) (d : Datagram) (ds : List Datagram) → Holds middle before.effects (before.staged ++ d ∷ []) → Holds after middle.effects (middle.staged ++ ds) → Holds after before.effects (before.staged ++ d ∷ ds)
more_staged before middle after d ds first second = (
  second.0 ∙ first.0,
  second.1 ∙ ap (λ (l : List Datagram). l ++ ds) first.1 ∙ append_assoc before.staged (d ∷ []) ds,
)

-- one piece was sent, and then the others
pub sent_first : {W : Type 0} (wrapped : W → Wrapping) (side : Side) (env middle_env : Envelope W) (before middle after : Contents) (r : Route) (ids : List ℕ) (now : ℕ) (ps later : List Numbered) (p : Numbered) (s : Sending) (h : EnvelopeHistory) (result : Result (Unit {0}) Spent)
    → (begins : IsBegunBy p ps) → SentOne wrapped middle_env before middle r h (piece_message (head_in r) ids p) (Ok tt) → later ≡ begins.rest
    → Sent wrapped side env middle after r (send_pieces (head_in r) [] now later (sent s p.0 now) (with_used h)) result
    → Sent wrapped side env before after r (send_pieces (head_in r) ids now ps s h) result
unfolding send_pieces
sent_first {W} wrapped side env middle_env before middle after r ids now ps later p s h result begins one same more =
    let tail : List Numbered → Flush = λ (l : List Numbered). send_pieces (head_in r) [] now l (sent s p.0 now) (with_used h) in
    let d = datagram (head_in r) h (piece_message (head_in r) ids p) in
    let moved = subst (λ (l : List Numbered). Sent wrapped side env middle after r (tail l) result) same more in
    subst (λ (l : List Numbered). Sent wrapped side env before after r (send_pieces (head_in r) ids now l s h) result) (sym begins.is)
    (subst (λ (b : Bool). Sent wrapped side env before after r (if b then sent_none true s h else behind d (tail begins.rest)) result) (sym one.0)
    (moved.0, moved.1, more_staged before middle after (record { to = r.to; bytes = d }) (map (λ (bytes : List ℕ). record { to = r.to; bytes = bytes }) (tail begins.rest).datagrams) one.2 moved.2, moved.3))

-- nothing is pending, and there is nothing to acknowledge
pub nothing_flushed : {W : Type 0} (wrapped : W → Wrapping) (side : Side) (env : Envelope W) (out : Contents) (r : Route) (ids : List ℕ) (now : ℕ) (ps : List Numbered) (s : Sending) (h : EnvelopeHistory)
    → ps ≡ [] → ids ≡ [] → Stands side s → EnvelopeStands wrapped env h → Sent wrapped side env out out r (flushed (head_in r) ids now ps s h) (Ok tt)
unfolding flushed send_ack
nothing_flushed {W} wrapped side env out r ids now ps s h none no_ids stands seals =
    subst (λ (l : List Numbered). Sent wrapped side env out out r (flushed (head_in r) ids now l s h) (Ok tt)) (sym none)
    (subst (λ (l : List ℕ). Sent wrapped side env out out r (send_ack (head_in r) l s h) (Ok tt)) (sym no_ids) (stands, seals, same_staged out, refl))

-- what is pending is sent
pub pieces_flushed : {W : Type 0} (wrapped : W → Wrapping) (side : Side) (env : Envelope W) (before after : Contents) (r : Route) (ids : List ℕ) (now : ℕ) (ps : List Numbered) (s : Sending) (h : EnvelopeHistory) (result : Result (Unit {0}) Spent)
    → ¬ (length ps ≡ 0) → Sent wrapped side env before after r (send_pieces (head_in r) ids now ps s h) result → Sent wrapped side env before after r (flushed (head_in r) ids now ps s h) result
unfolding flushed
pieces_flushed wrapped side env before after r ids now [] s h result some sent_so = elim (some refl) [ ]
pieces_flushed wrapped side env before after r ids now (p ∷ ps) s h result some sent_so = sent_so

-- acknowledgements go alone
ack_sent : {W : Type 0} (wrapped : W → Wrapping) (side : Side) (env : Envelope W) (before after : Contents) (r : Route) (ids : List ℕ) (s : Sending) (h : EnvelopeHistory) (result : Result (Unit {0}) Spent)
    → ¬ (length ids ≡ 0) → Stands side s → SentOne wrapped env before after r h (ack_message (head_in r) ids) result → Sent wrapped side env before after r (send_ack (head_in r) ids s h) result
unfolding send_ack
ack_sent wrapped side env before after r [] s h result some stands one = elim (some refl) [ ]
ack_sent wrapped side env before after r (id ∷ ids) s h (Ok done) some stands one =
    let d = datagram (head_in r) h (ack_message (head_in r) (id ∷ ids)) in
    subst (λ (b : Bool). Sent wrapped side env before after r (if b then sent_none true s h else behind d (sent_none false s (with_used h))) (Ok done)) (sym one.0) (stands, one.1, one.2, refl)
ack_sent wrapped side env before after r (id ∷ ids) s h (Err e) some stands one =
    let d = datagram (head_in r) h (ack_message (head_in r) (id ∷ ids)) in
    subst (λ (b : Bool). Sent wrapped side env before after r (if b then sent_none true s h else behind d (sent_none false s (with_used h))) (Err e)) (sym one.0) (stands, one.1, (one.2.0, one.2.1 ∙ sym (append-nil before.staged)), refl)

pub ack_flushed : {W : Type 0} (wrapped : W → Wrapping) (side : Side) (env : Envelope W) (before after : Contents) (r : Route) (ids : List ℕ) (now : ℕ) (ps : List Numbered) (s : Sending) (h : EnvelopeHistory) (result : Result (Unit {0}) Spent)
    → ps ≡ [] → ¬ (length ids ≡ 0) → Stands side s → SentOne wrapped env before after r h (ack_message (head_in r) ids) result → Sent wrapped side env before after r (flushed (head_in r) ids now ps s h) result
unfolding flushed
ack_flushed {W} wrapped side env before after r ids now ps s h result none some stands one =
    subst (λ (l : List Numbered). Sent wrapped side env before after r (flushed (head_in r) ids now l s h) result) (sym none) (ack_sent wrapped side env before after r ids s h result some stands one)

-- how many are left
pub some_left : (n m : ℕ) → 0 < n → n ≡ m → ¬ (m ≡ 0)
some_left n m some same none = omega arith

pub one_less : (n m : ℕ) → suc n ≡ m → n ≡ m - 1
one_less n m e = omega arith

pub counted_none : (n m : ℕ) → n ≤ 0 → n ≡ m → m ≡ 0
counted_none n m none same = omega arith

pub other_count : (n m : ℕ) → ¬ (n ≡ 0) → m ≡ n → ¬ (m ≡ 0)
other_count n m other same none = other (sym same ∙ none)
