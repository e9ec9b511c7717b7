-- A link takes a packet: what is put is the text that it gains.
use Rattle.std.proofs.Common.{◌≡◌, ◌<◌, ◌+◌, ℕ, zero, suc, ◌==◌, Bool, true, false, List, [], ◌∷◌, ◌++◌, length, Option, Some, None, refl, sym, ap, ◌∙◌, subst, append-nil, nat_lt, if◌then◌else◌}
use Rattle.std.specs.List.{AllByRecursion, concat}
use Rattle.std.proofs.lemmas.Bool.{eq-eqb, eqb-true, false≢true, lt-ltb}
use Rattle.vpn_base.specs.declared.names.Conn.{Conn}
use Rattle.vpn_base.specs.declared.names.Role.{Role}
use Rattle.vpn_base.specs.declared.names.Sid.{Sid}
use Rattle.opcode_codec.specs.ControlText.{ControlForm}
use Rattle.reliable_recv.specs.Receiving.{Arrival, payloads, text}
use Rattle.control_link.specs.Calls.{after_text, next_text, received}
use Rattle.control_link.specs.Envelope.{EnvelopeHistory}
use Rattle.control_link.specs.Links.{Link}
use Rattle.control_link.specs.Reading.{IsReadUp, read_here, read_with, taken_with, texts_here}
use Rattle.peer_table.specs.ControlPackets.{puts}
use Rattle.peer_table.specs.KeySessions.{Session}
use Rattle.peer_table.specs.Outboxes.{actions_of}
use Rattle.server_table.specs.Courses.{opened_by}
use Rattle.control_laws.specs.Puts.{only_if, opened_after, put_if, put_on}
use Rattle.control_laws.specs.internal.LinkReads.{LinkReads}
use Rattle.control_laws.proofs.Lines.{line_of}
use Rattle.control_laws.proofs.Kept.{TakesLine}

-- ---- what is put

put_true : (b : Bool) (bytes : List ℕ) → b ≡ true → put_if b bytes ≡ bytes
put_true true bytes is = refl
put_true false bytes is = absurd (false≢true is)

only_true : (b : Bool) (o : Option ℕ) → b ≡ true → only_if b o ≡ o
only_true true o is = refl
only_true false o is = absurd (false≢true is)

put_puts : (conn : Conn) (role : Role) (texts : List (List ℕ)) → put_on conn.0 (actions_of role (puts conn texts)) ≡ concat texts
put_puts conn role [] = refl
put_puts conn role ([] ∷ texts) = put_puts conn role texts
put_puts conn role ((b ∷ bytes) ∷ texts) =
    ap (λ first. first ++ put_on conn.0 (actions_of role (puts conn texts))) (put_true (conn.0 == conn.0) (b ∷ bytes) (eq-eqb conn.0 conn.0 refl))
    ∙ ap (λ rest. (b ∷ bytes) ++ rest) (put_puts conn role texts)

other_put : (conn on : ℕ) (bytes : List ℕ) → (on ≡ conn → ⊥) → put_if (conn == on) bytes ≡ []
other_put conn on bytes other = go (conn == on) refl
  where
    go : (b : Bool) → (conn == on) ≡ b → put_if b bytes ≡ []
    go true e = absurd (other (sym (eqb-true conn on e)))
    go false e = refl

puts_others : (conn : Conn) (role : Role) (texts : List (List ℕ)) (on : ℕ) → (on ≡ conn.0 → ⊥) → put_on on (actions_of role (puts conn texts)) ≡ []
puts_others conn role [] on other = refl
puts_others conn role ([] ∷ texts) on other = puts_others conn role texts on other
puts_others conn role ((b ∷ bytes) ∷ texts) on other =
    ap (λ first. first ++ put_on on (actions_of role (puts conn texts))) (other_put conn.0 on (b ∷ bytes) other) ∙ puts_others conn role texts on other

puts_open : (conn : Conn) (role : Role) (texts : List (List ℕ)) (count : ℕ) → conn.0 < count → opened_after (actions_of role (puts conn texts)) count ≡ Some count
puts_open conn role [] count less = refl
puts_open conn role ([] ∷ texts) count less = puts_open conn role texts count less
puts_open conn role ((b ∷ bytes) ∷ texts) count less =
    only_true (nat_lt conn.0 count) (opened_after (actions_of role (puts conn texts)) count) (lt-ltb conn.0 count less) ∙ puts_open conn role texts count less

pub puts_opened : (conn : Conn) (texts : List (List ℕ)) → opened_by (puts conn texts) ≡ 0
puts_opened conn [] = refl
puts_opened conn ([] ∷ texts) = puts_opened conn texts
puts_opened conn ((b ∷ bytes) ∷ texts) = puts_opened conn texts

-- ---- what is read

pub record IsSameEnd (l m : Link) : Type 0 where
  pub conn : m.conn ≡ l.conn
  pub kid : m.kid ≡ l.kid

read_same : (most : ℕ) (l : Link) → IsSameEnd l (read_here most l)
unfolding read_here after_text
read_same zero l = record { conn = refl; kid = refl }
read_same (suc most) l = go (read_same most (after_text l)) (next_text l)
  where
    go : IsSameEnd (after_text l) (read_here most (after_text l)) → (o : Option (List ℕ)) → IsSameEnd l (read_with o (after_text l) (read_here most (after_text l)))
    go same None = record { conn = refl; kid = refl }
    go same (Some p) = record { conn = same.conn; kid = same.kid }

received_same : (l : Link) (h : EnvelopeHistory) (v : ControlForm) (remote : Sid) (now : ℕ) → IsSameEnd l (received l h v remote now).link
unfolding received
received_same l h v remote now = record { conn = refl; kid = refl }

pub taken_same : (l : Link) (h : EnvelopeHistory) (v : ControlForm) (remote : Sid) (now : ℕ) → IsSameEnd l (read_here 12 (received l h v remote now).link)
taken_same l h v remote now =
    let read = read_same 12 (received l h v remote now).link in
    let got = received_same l h v remote now in
    record { conn = read.conn ∙ got.conn; kid = read.kid ∙ got.kid }

-- ---- what is taken

record Adds (P : Arrival → Type 0) (taken later : List Arrival) : Type 0 where
  new_taken : List Arrival
  is : later ≡ taken ++ new_taken
  all : AllByRecursion P new_taken

adds_if : (P : Arrival → Type 0) (taken : List Arrival) (a : Arrival) (b : Bool) → P a → Adds P taken (if b then taken ++ a ∷ [] else taken)
adds_if P taken a true is = record { new_taken = a ∷ []; is = refl; all = (is, tt) }
adds_if P taken a false is = record { new_taken = []; is = sym (append-nil taken); all = tt }

adds : (P : Arrival → Type 0) (taken : List Arrival) (id : Option ℕ) (payload : List ℕ) → ((n : ℕ) → id ≡ Some n → P (n, payload)) → Adds P taken (taken_with taken id payload)
adds P taken None payload is = record { new_taken = []; is = sym (append-nil taken); all = tt }
adds P taken (Some id) payload is = adds_if P taken (id, payload) (nat_lt id (length (payloads taken) + 12)) (is id refl)

-- a session took a packet
pub takes_line : LinkReads → (brought : ℕ → ℕ → Arrival → Type 0) (n k : ℕ) (s : Session) (h : EnvelopeHistory) (v : ControlForm) (remote : Sid) (now : ℕ) (role : Role) →
    IsReadUp s.link.receiving → ((id : ℕ) → v.id ≡ Some id → brought n k (id, v.payload)) →
    TakesLine brought n k (line_of s) (line_of (record s { link = read_here 12 (received s.link h v remote now).link }))
    (actions_of role (puts (received s.link h v remote now).link.conn (texts_here 12 (received s.link h v remote now).link)))
takes_line reads brought n k s h v remote now role up is =
    let o = received s.link h v remote now in
    let r = read_here 12 o.link in
    let same = taken_same s.link h v remote now in
    let on_conn : o.link.conn.0 ≡ s.link.conn.0 = ap (λ (conn : Conn). conn.0) (received_same s.link h v remote now).conn in
    let texts = texts_here 12 o.link in
    let a = adds (brought n k) s.link.receiving.taken v.id v.payload is in
    record {
      conn = ap (λ (conn : Conn). conn.0) same.conn;
      kid = same.kid;
      read = reads.again s.link h v remote now up;
      put = sym (reads.whole r (reads.again s.link h v remote now up)) ∙ reads.given s.link h v remote now up
          ∙ ap (λ before. before ++ concat texts) (reads.whole s.link up)
          ∙ ap (λ more. text s.link.receiving.taken ++ more) (sym (put_puts o.link.conn role texts) ∙ ap (λ on. put_on on (actions_of role (puts o.link.conn texts))) on_conn);
      others = λ on other. puts_others o.link.conn role texts on (λ e. other (e ∙ on_conn));
      opens = λ count less. puts_open o.link.conn role texts count (subst (λ on. on < count) (sym on_conn) less);
      new_taken = a.new_taken;
      taken = reads.taken s.link h v remote now up ∙ a.is;
      arrivals = a.all;
    }
