-- How much plain text is unread, as messages, key exchanges and answers of the engine come.
use Rattle.std.proofs.Common.{◌≡◌, ◌≤◌, ◌<◌, ℕ, zero, suc, ◌+◌, ◌&&◌, ◌||◌, Bool, true, false, cond, not, List, [], ◌∷◌, ◌++◌, length, drop, slice_get, option_map, Option, Some, None, is_some, refl, sym, ap, subst, ◌∙◌, arith, length-append, length-drop, length-take}
use Rattle.std.specs.Prelude.{unwrap_or}
use Rattle.std.specs.List.{before_first, list_any, position_or_len}
use Rattle.std.specs.Str.{bytes_eq}
use Rattle.std.proofs.lemmas.Bool.{false≢true}
use Rattle.vpn_base.specs.declared.names.Cause.TheVariants.{BadName, NameChanged}
use Rattle.vpn_base.specs.declared.names.Cipher.{Cipher}
use Rattle.vpn_base.specs.declared.names.Conn.{Conn}
use Rattle.vpn_base.specs.declared.names.Draw.{Draw}
use Rattle.vpn_base.specs.declared.names.Policy.{Policy}
use Rattle.vpn_base.specs.FileName.{is_file_name}
use Rattle.key_method2.specs.declared.message.Km2.{Km2}
use Rattle.key_method2.specs.declared.message.Source.{Source}
use Rattle.key_method2.specs.Messages.{server_message}
use Rattle.vpn_links.specs.declared.events.Kind.{Kind}
use Rattle.vpn_links.specs.declared.events.Kind.TheVariants.{Datagram, EngineText, EnginePlain, EngineUp, EngineDown, DeviceIn, DeviceReady, File, Line, Tick, Halt}
use Rattle.peer_table.specs.declared.outcomes.Turn.{Turn}
use Rattle.peer_table.specs.declared.outcomes.Turn.TheVariants.{Going, Over}
use Rattle.peer_table.specs.EngineAnswers as engine
use Rattle.peer_table.specs.Exchange.{NothingReadBefore, after_message, after_message_in, all_unread, asks_with, at_most_two, block_of, chosen, cipher_in, cipher_of, exchanged, exchanged_from, exchanged_with, has_message, is_nul, is_open_keyed, message_read, next_message, oldest_of, server_source, session_closed, unread, waiting_in, waiting_message, with_keys, writing}
use Rattle.peer_table.specs.KeySessions.{Keys, Session, Stage, closed, has_keys, is_keyed, keys_of, newest, newest_session, newest_usable, session_at}
use Rattle.peer_table.specs.KeySessions as sessions
use Rattle.peer_table.specs.Peer.{Outcome, Peer, answered, remote_of}
use Rattle.peer_table.specs.Places.{changed_at, earlier, first_place, last_place, later, places_from}
use Rattle.server_answers.specs.Texts.{text_in}

-- ---- what is unread of one session

-- how many bytes of it are unread, if it is open
abbrev pub share : Session → ℕ
share s = cond s.is_open (length (unread s)) 0

by_open : (b : Bool) (m n : ℕ) → cond b (m + n) n ≡ cond b m 0 + n
by_open true m n = refl
by_open false m n = omega arith

all_first : (s : Session) (ss : List Session) → all_unread (s ∷ ss) ≡ share s + all_unread ss
all_first s ss = by_open s.is_open (length (unread s)) (all_unread ss)

first_less : (a b c d r k : ℕ) → a ≡ c + r → b ≡ d + r → c + k ≤ d → a + k ≤ b
first_less a b c d r k is was less = omega (arith, is, was, less)

rest_less : (a b d q r k : ℕ) → a ≡ d + q → b ≡ d + r → q + k ≤ r → a + k ≤ b
rest_less a b d q r k is was less = omega (arith, is, was, less)

first_more : (a b c d r k : ℕ) → a ≡ c + r → b ≡ d + r → c ≤ d + k → a ≤ b + k
first_more a b c d r k is was more = omega (arith, is, was, more)

rest_more : (a b d q r k : ℕ) → a ≡ d + q → b ≡ d + r → q ≤ r + k → a ≤ b + k
rest_more a b d q r k is was more = omega (arith, is, was, more)

-- where one session has so much less unread, so have all
less_at : (n : ℕ) (f : Session → Session) (ss : List Session) (s : Session) (k : ℕ) → slice_get ss n ≡ Some s → share (f s) + k ≤ share s
    → all_unread (changed_at n f ss) + k ≤ all_unread ss
less_at n f [] s k there less = absurd (false≢true (ap is_some there))
less_at zero f (t ∷ ss) s k there less =
    let is : t ≡ s = ap (λ o. unwrap_or o t) there in
    first_less (all_unread (f t ∷ ss)) (all_unread (t ∷ ss)) (share (f t)) (share t) (all_unread ss) k (all_first (f t) ss) (all_first t ss)
    (subst (λ (s : Session). share (f s) + k ≤ share s) (sym is) less)
less_at (suc n) f (t ∷ ss) s k there less =
    rest_less (all_unread (t ∷ changed_at n f ss)) (all_unread (t ∷ ss)) (share t) (all_unread (changed_at n f ss)) (all_unread ss) k (all_first t (changed_at n f ss))
    (all_first t ss) (less_at n f ss s k there less)

-- where one has no more than so much more unread, neither have all
more_at : (n : ℕ) (f : Session → Session) (k : ℕ) (ss : List Session) → ((s : Session) → share (f s) ≤ share s + k) → all_unread (changed_at n f ss) ≤ all_unread ss + k
more_at n f k [] more = omega arith
more_at zero f k (t ∷ ss) more =
    first_more (all_unread (f t ∷ ss)) (all_unread (t ∷ ss)) (share (f t)) (share t) (all_unread ss) k (all_first (f t) ss) (all_first t ss) (more t)
more_at (suc n) f k (t ∷ ss) more =
    rest_more (all_unread (t ∷ changed_at n f ss)) (all_unread (t ∷ ss)) (share t) (all_unread (changed_at n f ss)) (all_unread ss) k (all_first t (changed_at n f ss))
    (all_first t ss) (more_at n f k ss more)

no_more : (a b : ℕ) → a ≤ b + 0 → a ≤ b
no_more a b le = omega (arith, le)

-- a change that leaves what is unread of each
same_at : (n : ℕ) (f : Session → Session) (ss : List Session) → ((s : Session) → share (f s) ≤ share s) → all_unread (changed_at n f ss) ≤ all_unread ss
same_at n f ss same = no_more (all_unread (changed_at n f ss)) (all_unread ss) (more_at n f 0 ss (λ s. some_more (share (f s)) (share s) (same s)))
  where
    some_more : (a b : ℕ) → a ≤ b → a ≤ b + 0
    some_more a b le = omega (arith, le)

first_within : (a b c r : ℕ) → a ≡ c + r → b ≡ c → b ≤ a
first_within a b c r is was = omega (arith, is, was)

rest_within : (a b c r : ℕ) → a ≡ c + r → b ≤ r → b ≤ a
rest_within a b c r is le = omega (arith, is, le)

-- one session has no more unread than all
within_all : (n : ℕ) (ss : List Session) (s : Session) → slice_get ss n ≡ Some s → share s ≤ all_unread ss
within_all n [] s there = absurd (false≢true (ap is_some there))
within_all zero (t ∷ ss) s there =
    first_within (all_unread (t ∷ ss)) (share s) (share t) (all_unread ss) (all_first t ss) (ap share (sym (ap (λ o. unwrap_or o t) there)))
within_all (suc n) (t ∷ ss) s there = rest_within (all_unread (t ∷ ss)) (share s) (share t) (all_unread ss) (all_first t ss) (within_all n ss s there)

-- ---- places

-- the item at a place passes
record PassesAt {X : Type 0} (passes : X → Bool) (xs : List X) (n : ℕ) : Type 0 where
  item : X
  there : slice_get xs n ≡ Some item
  does : passes item ≡ true

first_step : {X : Type 0} (passes : X → Bool) (x : X) (xs : List X) (n : ℕ) (b : Bool) (o : Option ℕ) → passes x ≡ b → earlier b o ≡ Some n
    → ((k : ℕ) → o ≡ Some k → PassesAt passes xs k) → PassesAt passes (x ∷ xs) n
first_step passes x xs n true o here is rest =
    subst (PassesAt passes (x ∷ xs)) (ap (λ o. unwrap_or o n) is) (record { item = x; there = refl; does = here })
first_step passes x xs n false None here is rest = absurd (false≢true (ap is_some is))
first_step passes x xs n false (Some k) here is rest =
    let r = rest k refl in
    subst (PassesAt passes (x ∷ xs)) (ap (λ o. unwrap_or o n) is) (record { item = r.item; there = r.there; does = r.does })

first_passes : {X : Type 0} (passes : X → Bool) (xs : List X) (n : ℕ) → first_place passes xs ≡ Some n → PassesAt passes xs n
first_passes passes [] n is = absurd (false≢true (ap is_some is))
first_passes passes (x ∷ xs) n is = first_step passes x xs n (passes x) (first_place passes xs) refl is (λ k first. first_passes passes xs k first)

last_step : {X : Type 0} (passes : X → Bool) (x : X) (xs : List X) (n : ℕ) (b : Bool) (o : Option ℕ) → passes x ≡ b → later b o ≡ Some n
    → ((k : ℕ) → o ≡ Some k → PassesAt passes xs k) → PassesAt passes (x ∷ xs) n
last_step passes x xs n true None here is rest =
    subst (PassesAt passes (x ∷ xs)) (ap (λ o. unwrap_or o n) is) (record { item = x; there = refl; does = here })
last_step passes x xs n false None here is rest = absurd (false≢true (ap is_some is))
last_step passes x xs n b (Some k) here is rest =
    let r = rest k refl in
    subst (PassesAt passes (x ∷ xs)) (ap (λ o. unwrap_or o n) is) (record { item = r.item; there = r.there; does = r.does })

last_passes : {X : Type 0} (passes : X → Bool) (xs : List X) (n : ℕ) → last_place passes xs ≡ Some n → PassesAt passes xs n
last_passes passes [] n is = absurd (false≢true (ap is_some is))
last_passes passes (x ∷ xs) n is = last_step passes x xs n (passes x) (last_place passes xs) refl is (λ k last. last_passes passes xs k last)

some_later : (b : Bool) (o : Option ℕ) → is_some o ≡ true → is_some (later b o) ≡ true
some_later b None is = absurd (false≢true is)
some_later b (Some n) is = refl

here_later : (b : Bool) (o : Option ℕ) → b ≡ true → is_some (later b o) ≡ true
here_later b (Some n) is = refl
here_later true None is = refl
here_later false None is = absurd (false≢true is)

-- where an item passes, one is the last that does
some_last : {X : Type 0} (passes : X → Bool) (xs : List X) (n : ℕ) (x : X) → slice_get xs n ≡ Some x → passes x ≡ true → is_some (last_place passes xs) ≡ true
some_last passes [] n x there does = absurd (false≢true (ap is_some there))
some_last passes (y ∷ xs) zero x there does =
    here_later (passes y) (last_place passes xs) (ap passes (ap (λ o. unwrap_or o y) there) ∙ does)
some_last passes (y ∷ xs) (suc n) x there does = some_later (passes y) (last_place passes xs) (some_last passes xs n x there does)

-- ---- a message

both : (a b : Bool) → (a && b) ≡ true → (a ≡ true) × (b ≡ true)
both true b is = (refl, is)
both false b is = absurd (false≢true is)

within_step : (b : Bool) (n m : ℕ) (more : Bool) → (b || more) ≡ true → (more ≡ true → n < m) → cond (not b) (1 + n) 0 < suc m
within_step true n m more any rest = omega arith
within_step false n m more any rest = let less : n < m = rest any in omega (arith, less)

-- a byte that passes stands in the list
position_within : (passes : ℕ → Bool) (xs : List ℕ) → list_any passes xs ≡ true → position_or_len passes xs < length xs
position_within passes [] any = absurd (false≢true any)
position_within passes (x ∷ xs) any =
    within_step (passes x) (position_or_len passes xs) (length xs) (list_any passes xs) any (λ more. position_within passes xs more)

before_within : (xs : List ℕ) → list_any is_nul xs ≡ true → length (before_first is_nul xs) < length xs
before_within xs any =
    let less : position_or_len is_nul xs < length xs = position_within is_nul xs any in
    omega (arith, less, length-take (position_or_len is_nul xs) xs)

read_on : (plain : List ℕ) (r n : ℕ) → n < length (drop r plain) → length (drop (r + (n + 1)) plain) + (n + 1) ≤ length (drop r plain)
read_on plain r n less = omega (arith, less, length-drop r plain, length-drop (r + (n + 1)) plain)

by_open_less : (b : Bool) (m n k : ℕ) → b ≡ true → m + k ≤ n → cond b m 0 + k ≤ cond b n 0
by_open_less true m n k is less = less
by_open_less false m n k is less = absurd (false≢true is)

read_less : (s : Session) → has_message s ≡ true → share (message_read s) + (length (before_first is_nul (unread s)) + 1) ≤ share s
read_less s has =
    let parts = both (is_open_keyed s) (list_any is_nul (unread s)) has in
    let n = length (before_first is_nul (unread s)) in
    by_open_less s.is_open (length (drop (s.read + (n + 1)) s.plain)) (length (unread s)) (n + 1) (both s.is_open (has_keys s) parts.0).0
    (read_on s.plain s.read n (before_within (unread s) parts.1))

message_is : (o : Option Session) (s : Session) (m : Conn × List ℕ) → o ≡ Some s → option_map waiting_message o ≡ Some m → waiting_message s ≡ m
message_is o s m there is = ap (λ (o : Option (Conn × List ℕ)). unwrap_or o (waiting_message s)) (sym (ap (option_map waiting_message) there) ∙ is)

regroup : (a b n : ℕ) → a + (n + 1) ≤ b → a + n + 1 ≤ b
regroup a b n le = omega (arith, le)

passed_less : (p : Peer) (m : Conn × List ℕ) (o : Option ℕ) → first_place has_message p.sessions ≡ o → option_map waiting_message (session_at p.sessions o) ≡ Some m
    → all_unread (after_message_in o p).sessions + length m.1 + 1 ≤ all_unread p.sessions
passed_less p m None first is = absurd (false≢true (ap is_some is))
passed_less p m (Some n) first is =
    let at = first_passes has_message p.sessions n first in
    let text : before_first is_nul (unread at.item) ≡ m.1 =
    ap (λ (m : Conn × List ℕ). m.1) (message_is (slice_get p.sessions n) at.item m at.there is) in
    subst (λ (bytes : List ℕ). all_unread (changed_at n message_read p.sessions) + length bytes + 1 ≤ all_unread p.sessions) text
    (regroup (all_unread (changed_at n message_read p.sessions)) (all_unread p.sessions) (length (before_first is_nul (unread at.item)))
    (less_at n message_read p.sessions at.item (length (before_first is_nul (unread at.item)) + 1) at.there (read_less at.item at.does)))

-- a message that is passed is read with its NUL
pub message_less : (p : Peer) (m : Conn × List ℕ) → next_message p ≡ Some m → all_unread (after_message p).sessions + length m.1 + 1 ≤ all_unread p.sessions
unfolding next_message after_message waiting_in
message_less p m is = passed_less p m (first_place has_message p.sessions) refl is

some_unread : (s : Session) → has_message s ≡ true → 1 ≤ share s
some_unread s has = let less = read_less s has in omega (arith, less)

none_waiting : (p : Peer) (o : Option ℕ) → first_place has_message p.sessions ≡ o → all_unread p.sessions ≡ 0 → option_map waiting_message (session_at p.sessions o) ≡ None
none_waiting p None first none = refl
none_waiting p (Some n) first none =
    let at = first_passes has_message p.sessions n first in
    absurd (omega (arith, none, within_all n p.sessions at.item at.there, some_unread at.item at.does))

-- where nothing is unread, no message waits
pub none_left : (p : Peer) → all_unread p.sessions ≡ 0 → next_message p ≡ None
unfolding next_message waiting_in
none_left p none = none_waiting p (first_place has_message p.sessions) refl none

keyed_cipher : (stage : Stage) → is_keyed stage ≡ true → is_some (option_map (λ (k : Keys). k.cipher) (keys_of stage)) ≡ true
keyed_cipher sessions.Opening is = absurd (false≢true is)
keyed_cipher sessions.Named is = absurd (false≢true is)
keyed_cipher (sessions.Keyed keys) is = refl

usable_cipher : (ss : List Session) (o : Option ℕ) → last_place has_keys ss ≡ o → is_some o ≡ true → is_some (cipher_in (session_at ss o)) ≡ true
usable_cipher ss None last is = absurd (false≢true is)
usable_cipher ss (Some n) last is =
    let at = last_passes has_keys ss n last in
    ap (λ (s : Option Session). is_some (cipher_in s)) at.there ∙ keyed_cipher at.item.stage at.does

keys_waiting : (p : Peer) (o : Option ℕ) → first_place has_message p.sessions ≡ o → is_some (cipher_in (session_at p.sessions (last_place has_keys p.sessions))) ≡ false
    → option_map waiting_message (session_at p.sessions o) ≡ None
keys_waiting p None first none = refl
keys_waiting p (Some n) first none =
    let at = first_passes has_message p.sessions n first in
    let keyed = (both at.item.is_open (has_keys at.item) (both (is_open_keyed at.item) (list_any is_nul (unread at.item)) at.does).0).1 in
    absurd (false≢true (sym none ∙ usable_cipher p.sessions (last_place has_keys p.sessions) refl (some_last has_keys p.sessions n at.item at.there keyed)))

-- where there are no keys, no message waits
pub none_keyless : (p : Peer) → cipher_of p ≡ None → next_message p ≡ None
unfolding next_message waiting_in cipher_of newest_usable
none_keyless p none = keys_waiting p (first_place has_message p.sessions) refl (ap is_some none)

-- ---- the key exchange

closed_less : (o : Option ℕ) (c : Outcome Turn) → all_unread (session_closed o c).peer.sessions ≤ all_unread c.peer.sessions
closed_less None c = omega arith
closed_less (Some n) c = same_at n closed c.peer.sessions (λ s. omega arith)

by_open_most : (b : Bool) (m n : ℕ) → m ≤ n → cond b m 0 ≤ cond b n 0
by_open_most true m n le = le
by_open_most false m n le = omega arith

with_zero : (a b : ℕ) → a ≤ b → a + 0 ≤ b
with_zero a b le = omega (arith, le)

read_more : (plain : List ℕ) (used r : ℕ) → r ≡ 0 → length (drop used plain) ≤ length (drop r plain)
read_more plain used r none = omega (arith, none, length-drop used plain, length-drop r plain)

keyed_less : (keys : Keys) (used : ℕ) (ss : List Session) (s : Session) → newest_session ss ≡ Some s → s.read ≡ 0
    → all_unread (changed_at (newest ss) (λ s. record s { stage = sessions.Keyed keys; read = used }) ss) ≤ all_unread ss
keyed_less keys used ss s there none =
    no_more_than (all_unread (changed_at (newest ss) (λ s. record s { stage = sessions.Keyed keys; read = used }) ss)) (all_unread ss)
    (less_at (newest ss) (λ s. record s { stage = sessions.Keyed keys; read = used }) ss s 0 there
    (with_zero (cond s.is_open (length (drop used s.plain)) 0) (share s)
    (by_open_most s.is_open (length (drop used s.plain)) (length (unread s)) (read_more s.plain used s.read none))))
  where
    no_more_than : (a b : ℕ) → a + 0 ≤ b → a ≤ b
    no_more_than a b le = omega (arith, le)

-- a session whose message is whole and was not read, as it has no keys
record IsPreparedAs (o : Option Session) : Type 0 where
  session : Session
  there : o ≡ Some session
  no_keys : has_keys session ≡ false

no_keys_in : (p : Peer) (s : Session) (m : Km2 × ℕ) (stage : Stage) → engine.message_in p s stage ≡ Some m → is_keyed stage ≡ false
no_keys_in p s m sessions.Opening is = refl
no_keys_in p s m sessions.Named is = refl
no_keys_in p s m (sessions.Keyed keys) is = absurd (false≢true (ap is_some is))

prepared_as : (p : Peer) (o : Option Session) (m : Km2 × ℕ) → engine.message_of p o ≡ Some m → IsPreparedAs o
prepared_as p None m is = absurd (false≢true (ap is_some is))
prepared_as p (Some s) m is = record { session = s; there = refl; no_keys = no_keys_in p s m s.stage is }

with_less : (peer_id : ℕ) (p : Peer) (own : Source) (message : Km2) (used : ℕ) (o : Option Cipher) (s : Session) → newest_session p.sessions ≡ Some s → s.read ≡ 0
    → all_unread (exchanged_with peer_id p own message used o).peer.sessions ≤ all_unread p.sessions
with_less peer_id p own message used None s there none = omega arith
with_less peer_id p own message used (Some cipher) s there none =
    let keys : Keys = record { block = block_of message.source own (remote_of p).0 p.envelope.own.0; cipher = cipher; peer_id = peer_id } in
    let c : Outcome Turn =
    record {
      peer = record (with_keys (newest p.sessions) keys used p) { asks_push = asks_with (newest p.sessions) message.info p };
      doings = writing (server_message own) (newest_session p.sessions);
      datagrams = [];
      answer = Going;
    } in
    then (all_unread (at_most_two c).peer.sessions) (all_unread c.peer.sessions) (all_unread p.sessions) (closed_less (oldest_of (places_from is_open_keyed 0 c.peer.sessions)) c)
    (keyed_less keys used p.sessions s there none)
  where
    then : (a b c : ℕ) → a ≤ b → b ≤ c → a ≤ c
    then a b c le more = omega (arith, le, more)

from_less : (policy : Policy) (peer_id : ℕ) (p : Peer) (own : Source) (o : Option (Km2 × ℕ)) → engine.prepared_message p ≡ o → NothingReadBefore p.sessions
    → all_unread (exchanged_from policy peer_id p own o).peer.sessions ≤ all_unread p.sessions
unfolding engine.prepared_message
from_less policy peer_id p own None is nothing = omega arith
from_less policy peer_id p own (Some m) is nothing =
    let of = prepared_as p (newest_session p.sessions) m is in
    with_less peer_id p own m.0 m.1 (chosen policy m.0.info) of.session of.there (nothing of.session of.there of.no_keys)

-- the key exchange reads the message of the other end, which nothing was read of
pub exchange_less : (policy : Policy) (peer_id : ℕ) (draw : Draw) (p : Peer) → NothingReadBefore p.sessions
    → all_unread (exchanged policy peer_id draw p).peer.sessions ≤ all_unread p.sessions
unfolding exchanged
exchange_less policy peer_id draw p nothing = from_less policy peer_id p (server_source draw) (engine.prepared_message p) refl nothing

-- ---- answers of the engine

as_much : (n : ℕ) → n ≤ n + 0
as_much n = omega arith

zero_more : (a b : ℕ) → a ≤ b → a ≤ b + 0
zero_more a b le = omega (arith, le)

text_less : (n : ℕ) (bytes : List ℕ) (now : ℕ) (p : Peer) (o : Option Session) → all_unread (engine.text_said n bytes now p o).peer.sessions ≤ all_unread p.sessions + 0
text_less n bytes now p None = as_much (all_unread p.sessions)
text_less n bytes now p (Some s) = more_at n _ 0 p.sessions (λ s. as_much (share s))

longer : (b : Bool) (r : ℕ) (plain bytes : List ℕ) → cond b (length (drop r (plain ++ bytes))) 0 ≤ cond b (length (drop r plain)) 0 + length bytes
longer true r plain bytes = omega (arith, length-drop r (plain ++ bytes), length-drop r plain, length-append plain bytes)
longer false r plain bytes = omega arith

plain_more : (n : ℕ) (bytes : List ℕ) (p : Peer) → all_unread (engine.plain_came n bytes p).peer.sessions ≤ all_unread p.sessions + length bytes
unfolding engine.plain_came
plain_more n bytes p = more_at n (λ s. record s { plain = s.plain ++ bytes }) (length bytes) p.sessions (λ s. longer s.is_open s.read s.plain bytes)

named_less : (n : ℕ) (p : Peer) → all_unread (engine.with_named n p).sessions ≤ all_unread p.sessions + 0
named_less n p = more_at n (λ s. record s { stage = sessions.Named }) 0 p.sessions (λ s. as_much (share s))

same_less : (n : ℕ) (p : Peer) (b : Bool)
    → all_unread (cond b (engine.judged_at n false (engine.with_named n p)) (answered p (Over NameChanged))).peer.sessions ≤ all_unread p.sessions + 0
same_less n p true = named_less n p
same_less n p false = as_much (all_unread p.sessions)

given_less : (n : ℕ) (name : List ℕ) (p : Peer) (known : Option (List ℕ)) → all_unread (engine.name_given n name p known).peer.sessions ≤ all_unread p.sessions + 0
given_less n name p None = named_less n (record p { name = Some name })
given_less n name p (Some known) = same_less n p (bytes_eq name known)

judged_less : (n : ℕ) (name : List ℕ) (p : Peer) (b : Bool)
    → all_unread (cond b (engine.name_given n name p p.name) (answered p (Over BadName))).peer.sessions ≤ all_unread p.sessions + 0
judged_less n name p true = given_less n name p p.name
judged_less n name p false = as_much (all_unread p.sessions)

name_in_less : (n : ℕ) (name : List ℕ) (p : Peer) (stage : Stage) → all_unread (engine.name_in n name p stage).peer.sessions ≤ all_unread p.sessions + 0
name_in_less n name p sessions.Opening = judged_less n (engine.kept_name name) p (is_file_name (engine.kept_name name))
name_in_less n name p sessions.Named = as_much (all_unread p.sessions)
name_in_less n name p (sessions.Keyed keys) = as_much (all_unread p.sessions)

name_less : (n : ℕ) (name : List ℕ) (p : Peer) (o : Option Session) → all_unread (engine.name_at n name p o).peer.sessions ≤ all_unread p.sessions + 0
name_less n name p None = as_much (all_unread p.sessions)
name_less n name p (Some s) = name_in_less n name p s.stage

answer_less : (kind : Kind) (n now : ℕ) (p : Peer) → all_unread (engine.answer_in kind n now p).peer.sessions ≤ all_unread p.sessions + text_in kind
unfolding engine.text_came engine.name_came
answer_less (EngineText conn bytes) n now p = text_less n bytes now p (slice_get p.sessions n)
answer_less (EnginePlain conn bytes) n now p = plain_more n bytes p
answer_less (EngineUp conn name) n now p = name_less n name p (slice_get p.sessions n)
answer_less (EngineDown conn) n now p = as_much (all_unread p.sessions)
answer_less (Datagram from bytes) n now p = as_much (all_unread p.sessions)
answer_less (DeviceIn bytes) n now p = as_much (all_unread p.sessions)
answer_less DeviceReady n now p = as_much (all_unread p.sessions)
answer_less (File cid answer) n now p = as_much (all_unread p.sessions)
answer_less (Line bytes) n now p = as_much (all_unread p.sessions)
answer_less Tick n now p = as_much (all_unread p.sessions)
answer_less Halt n now p = as_much (all_unread p.sessions)

on_less : (kind : Kind) (now : ℕ) (p : Peer) (o : Option ℕ) → all_unread (engine.answer_on kind now p o).peer.sessions ≤ all_unread p.sessions + text_in kind
on_less kind now p None = omega arith
on_less kind now p (Some n) = answer_less kind n now p

-- an answer of the engine brings no more than it has
pub engine_less : (kind : Kind) (now : ℕ) (p : Peer) → all_unread (engine.engine_came kind now p).peer.sessions ≤ all_unread p.sessions + text_in kind
unfolding engine.engine_came
engine_less kind now p = on_less kind now p (engine.session_on (engine.conn_in kind) p)
