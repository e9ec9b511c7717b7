-- Every message that waits at a client is taken, one after another.
use Rattle.std.proofs.Common.{◌≡◌, ◌≤◌, ◌-◌, ◌+◌, ℕ, zero, suc, true, false, List, [], ◌∷◌, length, Option, Some, None, refl, sym, ap, subst, ◌∙◌, arith}
use Rattle.std.specs.Str.{bytes_eq}
use Rattle.std.proofs.lemmas.Bool.{false≢true}
use Rattle.std.proofs.lemmas.Slice.Eq.{bytes_eq-Decides}
use Rattle.vpn_base.specs.declared.names.Conn.{Conn}
use Rattle.vpn_links.specs.declared.notes.Note.TheVariants.{Ignored}
use Rattle.peer_table.specs.Exchange.{after_message, all_unread, next_message}
use Rattle.peer_table.specs.Peer.{Peer}
use Rattle.server_table.specs.Courses.{Course, reported}
use Rattle.server_table.specs.Exchange.{established_as_asked, exchange_made, message_came, messages_taken, messages_taken_by, messages_taken_for, messages_taken_of, messages_taken_upto, most_messages, other_message, push_request, requested}
use Rattle.server_table.specs.Lookups.{cid, client_here}
use Rattle.server_table.specs.Table.{Client}
use Rattle.server_engine.specs.declared.messages.Waiting.TheVariants as found
use Rattle.server_engine.specs.Messages.{Sees, passed}
use Rattle.server_answers.proofs.Keeping.{asked_keeps, came_keeps, changed_here, requested_keeps, some_is}
use Rattle.server_answers.proofs.Unread.{message_less, none_left}

-- a client whose next message was passed
abbrev pub behind_it : Client → Client
behind_it x = record x { session = after_message x.session }

-- it is here
pub passed_here : (n : ℕ) (c : Course) (x : Client) → client_here c.table n ≡ Some x → client_here (passed n c).table n ≡ Some (behind_it x)
unfolding client_here
passed_here n c x there = changed_here behind_it (λ y. refl) c.table.clients n x there

-- ---- how many messages are taken

-- no more bytes than so many are unread at the client of this number
abbrev pub Fits : ℕ → ℕ → Course → Type 0
Fits k n c = (x : Client) → client_here c.table n ≡ Some x → all_unread x.session.sessions ≤ k

-- the same of one that is here
pub fits_here : (k n : ℕ) (c : Course) (x : Client) → client_here c.table n ≡ Some x → all_unread x.session.sessions ≤ k → Fits k n c
fits_here k n c x there le y is = subst (λ (x : Client). all_unread x.session.sessions ≤ k) (some_is x y (sym there ∙ is)) le

less_left : (a b k l : ℕ) → a + l + 1 ≤ b → b ≤ suc k → a ≤ k
less_left a b k l less le = omega (arith, less, le)

-- fewer are unread behind a message
fits_then : (k n : ℕ) (c : Course) (x : Client) (m : Conn × List ℕ) → client_here c.table n ≡ Some x → next_message x.session ≡ Some m
    → all_unread x.session.sessions ≤ suc k → Fits k n (message_came n (passed n c) m.0 m.1)
fits_then k n c x m there next le y is =
    let was = came_keeps n (passed n c) m.0 m.1 y is in
    let one : was.client ≡ behind_it x = some_is was.client (behind_it x) (sym was.there ∙ passed_here n c x there) in
    let session : y.session ≡ after_message x.session = was.session ∙ ap (λ (x : Client). x.session) one in
    subst (λ (p : Peer). all_unread p.sessions ≤ k) (sym session)
    (less_left (all_unread (after_message x.session).sessions) (all_unread x.session.sessions) k (length m.1) (message_less x.session m next) le)

none_unread : (n : ℕ) → n ≤ 0 → n ≡ 0
none_unread n le = omega (arith, le)

none_by : (behind : Course → Course) (n : ℕ) (c : Course) (o : Option Client) → ((x : Client) → o ≡ Some x → all_unread x.session.sessions ≤ 0)
    → messages_taken_by behind n c o ≡ c
none_by behind n c None none = refl
none_by behind n c (Some x) none = ap (messages_taken_of behind n c) (none_left x.session (none_unread (all_unread x.session.sessions) (none x refl)))

module _ (first other : Course → Course) (k m n : ℕ) (c : Course) (same : (then : Course) → Fits k n then → Fits m n then → first then ≡ other then) where
  alike_of : (x : Client) (o : Option (Conn × List ℕ)) → client_here c.table n ≡ Some x → next_message x.session ≡ o → all_unread x.session.sessions ≤ suc k
      → all_unread x.session.sessions ≤ suc m → messages_taken_of first n c o ≡ messages_taken_of other n c o
  alike_of x None there next a b = refl
  alike_of x (Some w) there next a b = same (message_came n (passed n c) w.0 w.1) (fits_then k n c x w there next a) (fits_then m n c x w there next b)

  alike_by : (o : Option Client) → client_here c.table n ≡ o → Fits (suc k) n c → Fits (suc m) n c → messages_taken_by first n c o ≡ messages_taken_by other n c o
  alike_by None there a b = refl
  alike_by (Some x) there a b = alike_of x (next_message x.session) there refl (a x there) (b x there)

-- as many as may wait, or more
upto_alike : (k m n : ℕ) (c : Course) → Fits k n c → Fits m n c → messages_taken_upto k n c ≡ messages_taken_upto m n c
unfolding messages_taken_upto
upto_alike zero zero n c a b = refl
upto_alike zero (suc m) n c a b = sym (none_by (messages_taken_upto m n) n c (client_here c.table n) a)
upto_alike (suc k) zero n c a b = none_by (messages_taken_upto k n) n c (client_here c.table n) b
upto_alike (suc k) (suc m) n c a b =
    alike_by (messages_taken_upto k n) (messages_taken_upto m n) k m n c (λ then a b. upto_alike k m n then a b) (client_here c.table n) refl a b

upto_nobody : (k n : ℕ) (c : Course) → client_here c.table n ≡ None → messages_taken_upto k n c ≡ c
unfolding messages_taken_upto
upto_nobody zero n c none = refl
upto_nobody (suc k) n c none = ap (messages_taken_by (messages_taken_upto k n) n c) none

as_many : (n : ℕ) → n ≤ n
as_many n = omega arith

for_upto : (k n : ℕ) (c : Course) (o : Option Client) → client_here c.table n ≡ o → Fits k n c → messages_taken_for n c o ≡ messages_taken_upto k n c
for_upto k n c None there fits = sym (upto_nobody k n c there)
for_upto k n c (Some x) there fits =
    upto_alike (most_messages x) k n c (fits_here (most_messages x) n c x there (as_many (all_unread x.session.sessions))) fits

-- every message is taken where no fewer may be
taken_upto : (k n : ℕ) (c : Course) → Fits k n c → messages_taken n c ≡ messages_taken_upto k n c
unfolding messages_taken
taken_upto k n c fits = for_upto k n c (client_here c.table n) refl fits

-- ---- the next message

-- nobody is here
pub nobody_taken : (n : ℕ) (c : Course) → client_here c.table n ≡ None → messages_taken n c ≡ c
unfolding messages_taken
nobody_taken n c none = ap (messages_taken_for n c) none

one_more : (n : ℕ) → n ≤ suc n
one_more n = omega arith

module _ (n : ℕ) (c : Course) (x : Client) (there : client_here c.table n ≡ Some x) where
  one_taken : messages_taken n c ≡ messages_taken_of (messages_taken_upto (all_unread x.session.sessions) n) n c (next_message x.session)
  unfolding messages_taken_upto
  one_taken =
      let most = all_unread x.session.sessions in
      taken_upto (suc most) n c (fits_here (suc most) n c x there (one_more most)) ∙ ap (messages_taken_by (messages_taken_upto most n) n c) there

  -- none waits
  pub none_taken : next_message x.session ≡ None → messages_taken n c ≡ c
  none_taken none = one_taken ∙ ap (messages_taken_of (messages_taken_upto (all_unread x.session.sessions) n) n c) none

  -- it is taken first
  pub next_taken : (m : Conn × List ℕ) → next_message x.session ≡ Some m → messages_taken n c ≡ messages_taken n (message_came n (passed n c) m.0 m.1)
  next_taken m next =
      let most = all_unread x.session.sessions in
      one_taken ∙ ap (messages_taken_of (messages_taken_upto most n) n c) next
      ∙ sym (taken_upto most n (message_came n (passed n c) m.0 m.1) (fits_then most n c x m there next (one_more most)))

  -- nothing is unread
  pub unread_none : all_unread x.session.sessions ≤ 0 → messages_taken n c ≡ c
  unread_none none = none_taken (none_left x.session (none_unread (all_unread x.session.sessions) none))

-- ---- by what it is found to be

no_length : (b : ℕ) (bytes : List ℕ) → length (b ∷ bytes) ≡ 0 → ⊥
no_length b bytes none = omega (arith, none)

no_byte : 1 ≤ 0 → ⊥
no_byte some = omega (arith, some)

empty_came : (n : ℕ) (c : Course) (conn : Conn) (bytes : List ℕ) → length bytes ≡ 0 → message_came n c conn bytes ≡ c
empty_came n c conn [] none = refl
empty_came n c conn (b ∷ bytes) none = absurd (no_length b bytes none)

other_came : (n : ℕ) (c : Course) (conn : Conn) (bytes : List ℕ) → 1 ≤ length bytes → bytes_eq bytes push_request ≡ false → message_came n c conn bytes ≡ reported (Ignored (cid n)) c
other_came n c conn [] some other = absurd (no_byte some)
other_came n c conn (b ∷ bytes) some other = ap (other_message n conn c) other

request_came : (n : ℕ) (c : Course) (on conn : Conn) (bytes : List ℕ) → on ≡ conn → bytes_eq bytes push_request ≡ true
    → message_came n c conn bytes ≡ requested n on c (client_here c.table n)
request_came n c on conn [] same request = absurd (false≢true request)
request_came n c on conn (b ∷ bytes) same request = ap (other_message n conn c) request ∙ ap (λ conn. requested n conn c (client_here c.table n)) (sym same)

-- a request has 12 bytes
request_length : (bytes : List ℕ) → bytes_eq bytes push_request ≡ true → length bytes ≡ 12
request_length bytes is = ap length ((bytes_eq-Decides bytes push_request).0 is)

one_less : (a b k l : ℕ) → a + l + 1 ≤ b → b ≤ k → a ≤ k - 1
one_less a b k l less le = omega (arith, less, le)

request_less : (a b k l : ℕ) → l ≡ 12 → a + l + 1 ≤ b → b ≤ k → a ≤ k - 13
request_less a b k l is less le = omega (arith, is, less, le)

request_most : (a b k l : ℕ) → l ≡ 12 → a + l + 1 ≤ b → b ≤ k → 13 ≤ k
request_most a b k l is less le = omega (arith, is, less, le)

module _ (n : ℕ) (c : Course) (x : Client) (there : client_here c.table n ≡ Some x) where
  abbrev behind : ℕ
  behind = all_unread (after_message x.session).sessions

  abbrev before : ℕ
  before = all_unread x.session.sessions

  nothing_next : (o : Option (Conn × List ℕ)) → next_message x.session ≡ o → Sees found.Nothing o → messages_taken n c ≡ c
  nothing_next None next sees = none_taken n c x there next
  nothing_next (Some m) next sees = absurd sees

  empty_next : (o : Option (Conn × List ℕ)) → next_message x.session ≡ o → Sees found.Empty o → messages_taken n c ≡ messages_taken n (passed n c)
  empty_next None next sees = absurd sees
  empty_next (Some m) next sees = next_taken n c x there m next ∙ ap (messages_taken n) (empty_came n (passed n c) m.0 m.1 sees)

  other_next : (o : Option (Conn × List ℕ)) → next_message x.session ≡ o → Sees found.Other o
      → messages_taken n c ≡ messages_taken n (reported (Ignored (cid n)) (passed n c))
  other_next None next sees = absurd sees
  other_next (Some m) next sees = next_taken n c x there m next ∙ ap (messages_taken n) (other_came n (passed n c) m.0 m.1 sees.0 sees.1)

  request_next : (conn : Conn) (o : Option (Conn × List ℕ)) → next_message x.session ≡ o → Sees (found.Request conn) o
      → messages_taken n c ≡ messages_taken n (requested n conn (passed n c) (Some (behind_it x)))
  request_next conn None next sees = absurd sees
  request_next conn (Some m) next sees =
      next_taken n c x there m next ∙ ap (messages_taken n) (request_came n (passed n c) conn m.0 m.1 sees.0 sees.1
      ∙ ap (requested n conn (passed n c)) (passed_here n c x there))

  empty_left : (k : ℕ) (o : Option (Conn × List ℕ)) → next_message x.session ≡ o → Sees found.Empty o → before ≤ k → behind ≤ k - 1
  empty_left k None next sees le = absurd sees
  empty_left k (Some m) next sees le = one_less behind before k (length m.1) (message_less x.session m next) le

  other_left : (k : ℕ) (o : Option (Conn × List ℕ)) → next_message x.session ≡ o → Sees found.Other o → before ≤ k → behind ≤ k - 1
  other_left k None next sees le = absurd sees
  other_left k (Some m) next sees le = one_less behind before k (length m.1) (message_less x.session m next) le

  request_left : (conn : Conn) (k : ℕ) (o : Option (Conn × List ℕ)) → next_message x.session ≡ o → Sees (found.Request conn) o → before ≤ k → behind ≤ k - 13
  request_left conn k None next sees le = absurd sees
  request_left conn k (Some m) next sees le =
      request_less behind before k (length m.1) (request_length m.1 sees.1) (message_less x.session m next) le

  request_many : (conn : Conn) (k : ℕ) (o : Option (Conn × List ℕ)) → next_message x.session ≡ o → Sees (found.Request conn) o → before ≤ k → 13 ≤ k
  request_many conn k None next sees le = absurd sees
  request_many conn k (Some m) next sees le =
      request_most behind before k (length m.1) (request_length m.1 sees.1) (message_less x.session m next) le

  pub nothing_taken : Sees found.Nothing (next_message x.session) → messages_taken n c ≡ c
  nothing_taken sees = nothing_next (next_message x.session) refl sees

  pub empty_taken : Sees found.Empty (next_message x.session) → messages_taken n c ≡ messages_taken n (passed n c)
  empty_taken sees = empty_next (next_message x.session) refl sees

  pub other_taken : Sees found.Other (next_message x.session) → messages_taken n c ≡ messages_taken n (reported (Ignored (cid n)) (passed n c))
  other_taken sees = other_next (next_message x.session) refl sees

  pub request_taken : (conn : Conn) → Sees (found.Request conn) (next_message x.session)
      → messages_taken n c ≡ messages_taken n (requested n conn (passed n c) (Some (behind_it x)))
  request_taken conn sees = request_next conn (next_message x.session) refl sees

  pub less_empty : (k : ℕ) → Sees found.Empty (next_message x.session) → before ≤ k → behind ≤ k - 1
  less_empty k sees le = empty_left k (next_message x.session) refl sees le

  pub less_other : (k : ℕ) → Sees found.Other (next_message x.session) → before ≤ k → behind ≤ k - 1
  less_other k sees le = other_left k (next_message x.session) refl sees le

  pub less_request : (conn : Conn) (k : ℕ) → Sees (found.Request conn) (next_message x.session) → before ≤ k → behind ≤ k - 13
  less_request conn k sees le = request_left conn k (next_message x.session) refl sees le

  pub many_request : (conn : Conn) (k : ℕ) → Sees (found.Request conn) (next_message x.session) → before ≤ k → 13 ≤ k
  many_request conn k sees le = request_many conn k (next_message x.session) refl sees le

-- ---- what is unread behind it

-- a client that is here behind its request has no more unread
pub fits_requested : (k n : ℕ) (conn : Conn) (c : Course) (x : Client) → client_here c.table n ≡ Some x → all_unread x.session.sessions ≤ k
    → Fits k n (requested n conn c (Some x))
fits_requested k n conn c x there le y is =
    let was = requested_keeps n conn c (Some x) y is in
    let session : y.session ≡ x.session = was.session ∙ ap (λ (x : Client). x.session) (some_is was.client x (sym was.there ∙ there)) in
    subst (λ (p : Peer). all_unread p.sessions ≤ k) (sym session) le

-- the same where its key exchange asked for it
pub fits_asked : (k n : ℕ) (c : Course) (x : Client) → client_here c.table n ≡ Some x → all_unread x.session.sessions ≤ k
    → Fits k n (established_as_asked n c (Some x))
fits_asked k n c x there le y is =
    let was = asked_keeps n c (Some x) y is in
    let session : y.session ≡ x.session = was.session ∙ ap (λ (x : Client). x.session) (some_is was.client x (sym was.there ∙ there)) in
    subst (λ (p : Peer). all_unread p.sessions ≤ k) (sym session) le

-- ---- a key exchange

-- nobody is here
pub nobody_made : (n : ℕ) (c : Course) → client_here c.table n ≡ None → exchange_made n c ≡ c
nobody_made n c none = ap (λ o. messages_taken n (established_as_asked n c o)) none ∙ nobody_taken n c none
