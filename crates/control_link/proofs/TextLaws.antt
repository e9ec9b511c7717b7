-- Reading all that is here in order, and what a packet adds to it.
use Rattle.std.proofs.Common.{◌≡◌, ℕ, zero, suc, ◌+◌, ◌<◌, ◌≤◌, ◌==◌, ◌⊎◌, Bool, true, false, List, [], ◌∷◌, ◌++◌, length, Option, Some, None, IsSome, if◌then◌else◌, ap, sym, subst, ◌∙◌, refl, arith, inl, inr}
use Rattle.std.specs.Prelude.{nat_le, nat_lt, is_some, ◌||◌}
use Rattle.std.specs.List.{concat}
use Rattle.std.proofs.lemmas.Bool.{ne_eqb, eq-eqb, cases_eq, leb-false}
use Rattle.std.proofs.lemmas.List.{append_assoc, append-nil}
use Rattle.vpn_base.specs.declared.names.Conn.{Conn}
use Rattle.vpn_base.specs.declared.names.Sid.{Sid}
use Rattle.opcode_codec.specs.declared.opcodes.Opcode.{Opcode}
use Rattle.opcode_codec.specs.ControlText.{ControlForm}
use Rattle.reliable_send.specs.Sending.{Sending, is_full, offered}
use Rattle.reliable_recv.specs.declared.receiving.Got.TheVariants.{New, Repeat, Ahead}
use Rattle.reliable_recv.specs.Receiving.{Arrival, Receiving, after_acks, after_next, next_payload, payload_of, payloads, put_into, taken_after, taken_as, text}
use Rattle.reliable_recv.specs.Runs.{IsRead, all_read, carried, reached, text_read}
use Rattle.control_link.specs.declared.link.LinkEnd.{LinkEnd}
use Rattle.control_link.specs.declared.link.LinkEnd.TheVariants.{TextFull}
use Rattle.control_link.specs.Envelope.{EnvelopeHistory}
use Rattle.control_link.specs.Links.{Link, link_begun}
use Rattle.control_link.specs.Calls.{after_given, after_text, given_by, next_text, past_reset, put_if, received, said, ticked, unchanged, with_ready}
use Rattle.control_link.specs.Reading.{AreBelow, IsReadUp, NothingWaits, read_here, read_with, taken_with, text_read_of, texts_here, texts_with}

-- what reading in order comes to, as the receiving side says
pub record Reads : Type 0 where
  pub goes_on : (r : Receiving) → IsRead r → IsRead (after_next r)
  pub ends : (r : Receiving) → IsRead r → next_payload r ≡ None → all_read r ≡ r
  pub whole : (r : Receiving) → all_read (after_next r) ≡ all_read r
  pub text : (r : Receiving) (payload : List ℕ) → IsRead r → next_payload r ≡ Some payload → text_read (after_next r) ≡ text_read r ++ carried r.read payload

-- the link with another receiving side
abbrev pub with_side : Link → Receiving → Link
with_side l r = record l { receiving = r }

-- ---- the next payload of the text

-- no payload of the text is here, and all was read then
record IsEnd (r r' : Receiving) : Type 0 where
  all : all_read r ≡ r'
  text : text_read r ≡ text_read r'
  none : next_payload r' ≡ None
  more : r.read ≤ r'.read
  read : IsRead r'

-- one payload more was read
record IsStep (r : Receiving) (p : List ℕ) (r' : Receiving) : Type 0 where
  read : IsRead r'
  all : all_read r ≡ all_read r'
  text : text_read r' ≡ text_read r ++ p
  more : r.read + 1 ≤ r'.read
  taken : r'.taken ≡ r.taken

StepFacts : Receiving → Option (List ℕ) → Receiving → Type 0
StepFacts r None r' = IsEnd r r'
StepFacts r (Some p) r' = IsStep r p r'

after_none : (r : Receiving) → next_payload r ≡ None → after_next r ≡ r
unfolding after_next
after_none r none = rw none refl

after_some : (r : Receiving) (p : List ℕ) → next_payload r ≡ Some p → after_next r ≡ record r { read = r.read + 1 }
unfolding after_next
after_some r p some = rw some refl

carried_some : (n : ℕ) (p : List ℕ) → ¬ (n ≡ 0) → carried n p ≡ p
carried_some zero p some = absurd (some refl)
carried_some (suc n) p some = refl

ended_here : Reads → (r : Receiving) → IsRead r → next_payload r ≡ None → IsEnd r r
ended_here rs r read none = record { all = rs.ends r read none; text = refl; none = none; more = omega arith; read = read }

step_with : (o : Option (List ℕ)) → Reads → (r : Receiving) → IsRead r → ¬ (r.read ≡ 0) → next_payload r ≡ o → StepFacts r o (after_next r)
unfolding StepFacts
step_with None rs r read some is = subst (λ (g : Receiving). IsEnd r g) (sym (after_none r is)) (ended_here rs r read is)
step_with (Some p) rs r read some is = record {
  read = rs.goes_on r read;
  all = sym (rs.whole r);
  text = rs.text r p read is ∙ ap (λ (t : List ℕ). text_read r ++ t) (carried_some r.read p some);
  more = let more : r.read + 1 ≤ r.read + 1 = omega arith in subst (λ (g : Receiving). r.read + 1 ≤ g.read) (sym (after_some r p is)) more;
  taken = ap (λ (g : Receiving). g.taken) (after_some r p is);
}

-- the same from a receiving side that read payload 0 alone
from_first : (o : Option (List ℕ)) (r r1 r' : Receiving) → StepFacts r1 o r' → all_read r1 ≡ all_read r → text_read r1 ≡ text_read r → r.read ≤ r1.read → r1.taken ≡ r.taken → StepFacts r o r'
unfolding StepFacts
from_first None r r1 r' facts all same more taken = record { all = sym all ∙ facts.all; text = sym same ∙ facts.text; none = facts.none; more = omega (arith, facts.more, more); read = facts.read }
from_first (Some p) r r1 r' facts all same more taken = record {
  read = facts.read;
  all = sym all ∙ facts.all;
  text = facts.text ∙ ap (λ (t : List ℕ). t ++ p) same;
  more = omega (arith, facts.more, more);
  taken = facts.taken ∙ taken;
}

first_with : (o : Option (List ℕ)) → Reads → (r : Receiving) → IsRead r → r.read ≡ 0 → next_payload r ≡ o → StepFacts r (given_by (after_next r)) (after_given (after_next r))
unfolding StepFacts
first_with None rs r read at_first is =
    let yes : (r.read == 0) ≡ true = eq-eqb r.read 0 at_first in
    subst (λ (g : Receiving). StepFacts r (given_by g) (after_given g)) (sym (after_none r is))
    (subst (λ (b : Bool). StepFacts r (if b then None else next_payload r) (if b then r else after_next r)) (sym yes) (ended_here rs r read is))
first_with (Some p) rs r read at_first is =
    let r1 : Receiving = after_next r in
    let one : r1.read ≡ r.read + 1 = ap (λ (g : Receiving). g.read) (after_some r p is) in
    let some : ¬ (r1.read ≡ 0) = λ none. omega (arith, one, none) in
    let no : (r1.read == 0) ≡ false = ne_eqb r1.read 0 some in
    let same : text_read r1 ≡ text_read r =
    rs.text r p read is ∙ ap (λ (n : ℕ). text_read r ++ carried n p) at_first ∙ append-nil (text_read r) in
    subst (λ (b : Bool). StepFacts r (if b then None else next_payload r1) (if b then r1 else after_next r1)) (sym no)
    (from_first (next_payload r1) r r1 (after_next r1) (step_with (next_payload r1) rs r1 (rs.goes_on r read) some refl) (rs.whole r) same (omega (arith, one)) (ap (λ (g : Receiving). g.taken) (after_some r p is)))

step_facts : Reads → (r : Receiving) → IsRead r → StepFacts r (given_by (past_reset r)) (after_given (past_reset r))
step_facts rs r read = elim (cases_eq r.read 0) [
  | inl at_first ↦
      let yes : (r.read == 0) ≡ true = eq-eqb r.read 0 at_first in
      subst (λ (b : Bool). StepFacts r (given_by (if b then after_next r else r)) (after_given (if b then after_next r else r))) (sym yes) (first_with (next_payload r) rs r read at_first refl)
  | inr some ↦
      let no : (r.read == 0) ≡ false = ne_eqb r.read 0 some in
      subst (λ (b : Bool). StepFacts r (given_by (if b then after_next r else r)) (after_given (if b then after_next r else r))) (sym no)
      (subst (λ (b : Bool). StepFacts r (if b then None else next_payload r) (if b then r else after_next r)) (sym no) (step_with (next_payload r) rs r read some refl))
]

-- ---- all that is here

-- this link and these payloads are what reading all that is in order leaves and gives
pub record ReadsAs (l after : Link) (texts : List (List ℕ)) : Type 0 where
  pub link : after ≡ with_side l (all_read l.receiving)
  pub text : text_read l.receiving ++ concat texts ≡ text_read (all_read l.receiving)
  pub none : next_payload (all_read l.receiving) ≡ None
  pub more : l.receiving.read ≤ (all_read l.receiving).read
  pub read : IsRead (all_read l.receiving)

all_with : (o : Option (List ℕ)) (most : ℕ) (l : Link) (r' : Receiving) → StepFacts l.receiving o r' → AreBelow (l.receiving.read + suc most) l.receiving.taken →
    (IsRead r' → AreBelow (r'.read + most) r'.taken → ReadsAs (with_side l r') (read_here most (with_side l r')) (texts_here most (with_side l r'))) →
    ReadsAs l (read_with o (with_side l r') (read_here most (with_side l r'))) (texts_with o (texts_here most (with_side l r')))
unfolding StepFacts
all_with None most l r' facts below more = record {
  link = ap (with_side l) (sym facts.all);
  text = append-nil (text_read l.receiving) ∙ facts.text ∙ ap text_read (sym facts.all);
  none = subst (λ (r : Receiving). next_payload r ≡ None) (sym facts.all) facts.none;
  more = subst (λ (r : Receiving). l.receiving.read ≤ r.read) (sym facts.all) facts.more;
  read = subst IsRead (sym facts.all) facts.read;
}
all_with (Some p) most l r' facts below more =
    let rest = more facts.read (λ id here. let lower = below id (subst (λ (taken : List Arrival). IsSome (payload_of taken id)) facts.taken here) in omega (arith, lower, facts.more)) in
    record {
      link = rest.link ∙ ap (with_side l) (sym facts.all);
      text =
          sym (append_assoc (text_read l.receiving) p (concat (texts_here most (with_side l r')))) ∙ ap (λ (t : List ℕ). t ++ concat (texts_here most (with_side l r'))) (sym facts.text)
          ∙ rest.text ∙ ap text_read (sym facts.all);
      none = subst (λ (r : Receiving). next_payload r ≡ None) (sym facts.all) rest.none;
      more = let last : r'.read ≤ (all_read l.receiving).read = subst (λ (r : Receiving). r'.read ≤ r.read) (sym facts.all) rest.more in omega (arith, facts.more, last);
      read = subst IsRead (sym facts.all) rest.read;
    }

none_when : (o : Option (List ℕ)) (n : ℕ) → (IsSome o → n < n + 0) → o ≡ None
none_when None n never = refl
none_when (Some p) n never = absurd (let less = never refl in omega (arith, less))

-- so many payloads are all that are here where no packet lies that many ahead
pub reads_all : Reads → (most : ℕ) (l : Link) → IsRead l.receiving → AreBelow (l.receiving.read + most) l.receiving.taken → ReadsAs l (read_here most l) (texts_here most l)
unfolding read_here texts_here next_text after_text
reads_all rs zero l read below =
    let none : next_payload l.receiving ≡ None = none_when (next_payload l.receiving) l.receiving.read (below l.receiving.read) in
    let same : all_read l.receiving ≡ l.receiving = rs.ends l.receiving read none in
    record {
      link = ap (with_side l) (sym same);
      text = append-nil (text_read l.receiving) ∙ ap text_read (sym same);
      none = subst (λ (r : Receiving). next_payload r ≡ None) (sym same) none;
      more = let least : l.receiving.read ≤ l.receiving.read = omega arith in subst (λ (r : Receiving). l.receiving.read ≤ r.read) (sym same) least;
      read = subst IsRead (sym same) read;
    }
reads_all rs (suc most) l read below =
    let r' : Receiving = after_given (past_reset l.receiving) in
    all_with (given_by (past_reset l.receiving)) most l r' (step_facts rs l.receiving read) below (λ now left. reads_all rs most (with_side l r') now left)

-- ---- a packet

-- what comes of packets, as the receiving side says
pub record Takes : Type 0 where
  pub next : (taken : List Arrival) (a : Arrival) → all_read (after_acks (put_into (reached taken) a.0 a.1) 8) ≡ reached (taken_after taken a)
  pub read : (taken : List Arrival) (a : Arrival) → IsRead (after_acks (put_into (reached taken) a.0 a.1) 8)
  pub before : (taken : List Arrival) (a : Arrival) → text_read (after_acks (put_into (reached taken) a.0 a.1) 8) ≡ text taken
  pub here : (taken : List Arrival) → IsRead (reached taken)
  pub text : (taken : List Arrival) → text_read (reached taken) ≡ text taken

all_reached : (taken : List Arrival) → all_read (reached taken) ≡ reached taken
unfolding all_read reached
all_reached taken = refl

-- where nothing waits, everything that was taken is read as far as it is in order
up_reached : Reads → (r : Receiving) → IsReadUp r → r ≡ reached r.taken
unfolding all_read reached
up_reached rs r up =
    let read : r.read ≡ length (payloads r.taken) = sym (ap (λ (g : Receiving). g.read) (rs.ends r up.read up.none)) in
    λ i. record { taken = r.taken; read = read i; waiting = up.acknowledged i }

-- a packet that is found behind another was there before, or is that one
some_push : (taken : List Arrival) (a : Arrival) (id : ℕ) → IsSome (payload_of (taken ++ a ∷ []) id) → IsSome (payload_of taken id) ⊎ (a.0 ≡ id)
some_push [] a id here = elim (cases_eq a.0 id) [
  | inl same ↦ inr same
  | inr other ↦ absurd (let never : IsSome {T = List ℕ} None = subst (λ (b : Bool). IsSome (if b then Some a.1 else None)) (ne_eqb a.0 id other) here in cc)
]
some_push (t ∷ taken) a id here = elim (cases_eq t.0 id) [
  | inl same ↦ inl (subst (λ (b : Bool). IsSome (if b then Some t.1 else payload_of taken id)) (sym (eq-eqb t.0 id same)) refl)
  | inr other ↦
      let no = ne_eqb t.0 id other in
      elim (some_push taken a id (subst (λ (b : Bool). IsSome (if b then Some t.1 else payload_of (taken ++ a ∷ []) id)) no here)) [
        | inl before ↦ inl (subst (λ (b : Bool). IsSome (if b then Some t.1 else payload_of taken id)) (sym no) before)
        | inr last ↦ inr last
      ]
]

below_push : (most : ℕ) (taken : List Arrival) (a : Arrival) → AreBelow most taken → a.0 < most → AreBelow most (taken ++ a ∷ [])
below_push most taken a below one = λ id here. elim (some_push taken a id here) [ inl before ↦ below id before | inr last ↦ omega (arith, one, last) ]

-- no packet lies 12 or more ahead of what was read
abbrev IsNear : Receiving → Type 0
IsNear r = AreBelow (r.read + 12) r.taken

near_when : (ahead known : Bool) (r : Receiving) (id : ℕ) (payload : List ℕ) → (ahead ≡ false → id < r.read + 12) → IsNear r → IsNear (taken_as (if ahead then Ahead else if known then Repeat else New) r id payload)
near_when true known r id payload less near = near
near_when false true r id payload less near = below_push (r.read + 12) r.taken (id, payload) near (less refl)
near_when false false r id payload less near = below_push (r.read + 12) r.taken (id, payload) near (less refl)

not_ahead : (n id : ℕ) → nat_le n id ≡ false → id < n
not_ahead n id test = leb-false n id test

near_put : (id : Option ℕ) (payload : List ℕ) (r : Receiving) → IsNear r → IsNear (after_acks (put_if r id payload) 8)
unfolding after_acks put_into
near_put None payload r near = near
near_put (Some id) payload r near =
    near_when (nat_le (r.read + 12) id) (nat_lt id r.read || is_some (payload_of r.taken id)) r id payload (not_ahead (r.read + 12) id) near

-- the receiving side once a packet came, before it is read
abbrev came : List Arrival → Option ℕ → List ℕ → Receiving
came taken id payload = after_acks (put_if (reached taken) id payload) 8

acks_of_none : (taken : List Arrival) → after_acks (reached taken) 8 ≡ reached taken
unfolding after_acks reached
acks_of_none taken = refl

read_when : Takes → (taken : List Arrival) (id : Option ℕ) (payload : List ℕ) → IsRead (came taken id payload)
read_when ts taken None payload = subst IsRead (sym (acks_of_none taken)) (ts.here taken)
read_when ts taken (Some id) payload = ts.read taken (id, payload)

text_when : Takes → (taken : List Arrival) (id : Option ℕ) (payload : List ℕ) → text_read (came taken id payload) ≡ text taken
text_when ts taken None payload = ap text_read (acks_of_none taken) ∙ ts.text taken
text_when ts taken (Some id) payload = ts.before taken (id, payload)

all_when : Takes → (taken : List Arrival) (id : Option ℕ) (payload : List ℕ) → all_read (came taken id payload) ≡ reached (taken_with taken id payload)
all_when ts taken None payload = ap all_read (acks_of_none taken) ∙ all_reached taken
all_when ts taken (Some id) payload = ts.next taken (id, payload)

taken_of_all : (r : Receiving) → (all_read r).taken ≡ r.taken
unfolding all_read
taken_of_all r = refl

taken_of_reached : (taken : List Arrival) → (reached taken).taken ≡ taken
unfolding reached
taken_of_reached taken = refl

none_waits : (taken : List Arrival) → (reached taken).waiting ≡ []
unfolding reached
none_waits taken = refl

-- what a packet and reading leave and give, where nothing waited before
pub record IsGiven (l after : Link) (texts : List (List ℕ)) (id : Option ℕ) (payload : List ℕ) : Type 0 where
  pub text : text_read_of after ≡ text_read_of l ++ concat texts
  pub taken : after.receiving.taken ≡ taken_with l.receiving.taken id payload
  pub up : NothingWaits after

given_side : Reads → Takes → (l m : Link) (id : Option ℕ) (payload : List ℕ) → NothingWaits l → m.receiving ≡ after_acks (put_if l.receiving id payload) 8 →
    IsGiven l (read_here 12 m) (texts_here 12 m) id payload
unfolding text_read
given_side rs ts l m id payload up is =
    let r : Receiving = l.receiving in
    let e : r ≡ reached r.taken = up_reached rs r up in
    let c : m.receiving ≡ came r.taken id payload = is ∙ ap (λ (g : Receiving). after_acks (put_if g id payload) 8) e in
    let read : IsRead m.receiving = subst IsRead (sym c) (read_when ts r.taken id payload) in
    let near : IsNear m.receiving = subst IsNear (sym is) (near_put id payload r up.near) in
    let all = reads_all rs 12 m read near in
    let end : all_read m.receiving ≡ reached (taken_with r.taken id payload) = ap all_read c ∙ all_when ts r.taken id payload in
    let side : (read_here 12 m).receiving ≡ all_read m.receiving = ap (λ (k : Link). k.receiving) all.link in
    let before : text_read m.receiving ≡ text_read r = ap text_read c ∙ text_when ts r.taken id payload ∙ sym (ts.text r.taken) ∙ ap text_read (sym e) in
    let further : IsNear (all_read m.receiving) =
    λ other here. let lower = near other (subst (λ (taken : List Arrival). IsSome (payload_of taken other)) (taken_of_all m.receiving) here) in omega (arith, lower, all.more) in
    let whole : IsReadUp (all_read m.receiving) = record { read = all.read; none = all.none; near = further; acknowledged = ap (λ (g : Receiving). g.waiting) end ∙ none_waits (taken_with r.taken id payload) } in
    record {
      text = ap text_read side ∙ sym all.text ∙ ap (λ (t : List ℕ). t ++ concat (texts_here 12 m)) before;
      taken = ap (λ (g : Receiving). g.taken) (side ∙ end) ∙ taken_of_reached (taken_with r.taken id payload);
      up = subst IsReadUp (sym side) whole;
    }

-- ---- what the law says

received_side : (l : Link) (h : EnvelopeHistory) (v : ControlForm) (remote : Sid) (now : ℕ) → (received l h v remote now).link.receiving ≡ after_acks (put_if l.receiving v.id v.payload) 8
unfolding received
received_side l h v remote now = refl

pub given : Reads → Takes → (l : Link) (h : EnvelopeHistory) (v : ControlForm) (remote : Sid) (now : ℕ) → NothingWaits l →
    IsGiven l (read_here 12 (received l h v remote now).link) (texts_here 12 (received l h v remote now).link) v.id v.payload
given rs ts l h v remote now up = given_side rs ts l (received l h v remote now).link v.id v.payload up (received_side l h v remote now)

pub waits_none : (conn : Conn) (kid : ℕ) (first : Opcode) (timeout : ℕ) → NothingWaits (link_begun conn kid first timeout)
waits_none conn kid first timeout = record { read = λ id below. absurd (omega (arith, below)); none = refl; near = λ id here. absurd (let never : false ≡ true = here in cc); acknowledged = refl }

pub whole_text : Reads → Takes → (l : Link) → NothingWaits l → text_read_of l ≡ text l.receiving.taken
unfolding text_read
whole_text rs ts l up = ap text_read (up_reached rs l.receiving up) ∙ ts.text l.receiving.taken

-- where the next payload is not here, reading changes nothing and gives nothing
passed_none : (r : Receiving) → next_payload r ≡ None → past_reset r ≡ r
passed_none r none = elim (cases_eq r.read 0) [
  | inl first ↦ ap (λ (b : Bool). if b then after_next r else r) (eq-eqb r.read 0 first) ∙ after_none r none
  | inr later ↦ ap (λ (b : Bool). if b then after_next r else r) (ne_eqb r.read 0 later)
]

gave_none : (r : Receiving) → next_payload r ≡ None → given_by r ≡ None
gave_none r none = elim (cases_eq r.read 0) [
  | inl first ↦ ap (λ (b : Bool). if b then None else next_payload r) (eq-eqb r.read 0 first)
  | inr later ↦ ap (λ (b : Bool). if b then None else next_payload r) (ne_eqb r.read 0 later) ∙ none
]

left_none : (r : Receiving) → next_payload r ≡ None → after_given r ≡ r
left_none r none = elim (cases_eq r.read 0) [
  | inl first ↦ ap (λ (b : Bool). if b then r else after_next r) (eq-eqb r.read 0 first)
  | inr later ↦ ap (λ (b : Bool). if b then r else after_next r) (ne_eqb r.read 0 later) ∙ after_none r none
]

pub no_text_next : (l : Link) → NothingWaits l → next_text l ≡ None
unfolding next_text
no_text_next l up = ap given_by (passed_none l.receiving up.none) ∙ gave_none l.receiving up.none

pub nothing_read : (l : Link) → NothingWaits l → after_text l ≡ l
unfolding after_text
nothing_read l up = ap (with_side l) (ap after_given (passed_none l.receiving up.none) ∙ left_none l.receiving up.none)

said_when : (full : Bool) (l : Link) (h : EnvelopeHistory) (end : Option LinkEnd) (s : Sending) (remote : Sid) (now : ℕ) →
    (if full then unchanged l h end else with_ready (record l { sending = s }) h [] remote now).link.receiving ≡ l.receiving
said_when true l h end s remote now = refl
said_when false l h end s remote now = refl

pub said_side : (l : Link) (h : EnvelopeHistory) (bytes : List ℕ) (remote : Sid) (now : ℕ) → (said l h bytes remote now).link.receiving ≡ l.receiving
unfolding said
said_side l h bytes remote now = said_when (is_full l.sending bytes) l h (Some TextFull) (offered l.sending bytes) remote now

pub ticked_side : (l : Link) (h : EnvelopeHistory) (remote : Sid) (now : ℕ) → (ticked l h remote now).link.receiving ≡ l.receiving
unfolding ticked
ticked_side l h remote now = refl

pub ready_side : (l : Link) (h : EnvelopeHistory) (remote : Sid) (now : ℕ) → (with_ready l h [] remote now).link.receiving ≡ l.receiving
ready_side l h remote now = refl
