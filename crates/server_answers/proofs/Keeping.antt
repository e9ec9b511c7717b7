-- What follows a message or a key exchange leaves the session of its client as it is, or the client is not here any more.
use Rattle.std.proofs.Common.{◌≡◌, ℕ, zero, suc, Bool, true, false, cond, List, [], ◌∷◌, slice_get, Option, Some, None, is_some, refl, sym, ap, ◌∙◌}
use Rattle.std.specs.Prelude.{unwrap_or}
use Rattle.std.specs.Str.{bytes_eq}
use Rattle.std.proofs.lemmas.Bool.{false≢true}
use Rattle.vpn_base.specs.declared.names.Cause.{Cause}
use Rattle.vpn_base.specs.declared.names.Cause.TheVariants.{PoolEmpty, Replaced}
use Rattle.vpn_base.specs.declared.names.Conn.{Conn}
use Rattle.peer_table.specs.Exchange.{first_conn}
use Rattle.peer_table.specs.Places.{changed_at}
use Rattle.server_table.specs.Courses.{Course}
use Rattle.server_table.specs.Endings.{ended, ended_as, gone}
use Rattle.server_table.specs.Establishing.{Leased, address_by, ccd_in, client_established, established_at, established_for, established_now, established_with, establishing, name_in, replaced, replaced_unless, with_address}
use Rattle.server_table.specs.Exchange.{asks_to_be_established, established_as_asked, established_if, established_on, message_came, other_message, push_request, requested, requested_as}
use Rattle.server_table.specs.Lookups.{cid, client_here, established_named, if_here}
use Rattle.server_table.specs.Table.{Client, Established}

pub some_is : {X : Type 0} (x y : X) → Some x ≡ Some y → x ≡ y
some_is x y is = ap (λ (o : Option _). unwrap_or o x) is

-- ---- places

-- a client that is here behind another's end was here before
still_here : (clients : List Client) (m n : ℕ) (y : Client) → if_here (slice_get (changed_at m gone clients) n) ≡ Some y → if_here (slice_get clients n) ≡ Some y
still_here [] m n y is = is
still_here (x ∷ clients) zero zero y is = absurd (false≢true (ap is_some is))
still_here (x ∷ clients) zero (suc n) y is = is
still_here (x ∷ clients) (suc m) zero y is = is
still_here (x ∷ clients) (suc m) (suc n) y is = still_here clients m n y is

-- a change of clients that leaves whether they are here
abbrev pub KeepsHere : (Client → Client) → Type 0
KeepsHere g = (y : Client) → (g y).is_here ≡ y.is_here

first_changed : (g : Client → Client) (x y : Client) (b : Bool) → y.is_here ≡ b → (g y).is_here ≡ b → cond b (Some y) None ≡ Some x
    → cond (g y).is_here (Some (g y)) None ≡ Some (g x)
first_changed g x y true was here is = ap (λ b. cond b (Some (g y)) None) here ∙ ap (λ (y : Client). Some (g y)) (some_is y x is)
first_changed g x y false was here is = absurd (false≢true (ap is_some is))

-- a client that is here is so once it is changed
pub changed_here : (g : Client → Client) → KeepsHere g → (clients : List Client) (n : ℕ) (x : Client) → if_here (slice_get clients n) ≡ Some x
    → if_here (slice_get (changed_at n g clients) n) ≡ Some (g x)
changed_here g keeps [] n x is = absurd (false≢true (ap is_some is))
changed_here g keeps (y ∷ clients) zero x is = first_changed g x y y.is_here refl (keeps y) is
changed_here g keeps (y ∷ clients) (suc n) x is = changed_here g keeps clients n x is

none_changed : (g : Client → Client) → KeepsHere g → (clients : List Client) (n : ℕ) → if_here (slice_get clients n) ≡ None
    → if_here (slice_get (changed_at n g clients) n) ≡ None
none_changed g keeps [] n is = refl
none_changed g keeps (y ∷ clients) zero is = by_flag y.is_here (keeps y) is
  where
    by_flag : (b : Bool) → (g y).is_here ≡ b → cond b (Some y) None ≡ None → cond (g y).is_here (Some (g y)) None ≡ None
    by_flag true here is = absurd (false≢true (sym (ap is_some is)))
    by_flag false here is = ap (λ b. cond b (Some (g y)) None) here
none_changed g keeps (y ∷ clients) (suc n) is = none_changed g keeps clients n is

-- ---- one step

-- a client was here, with the same session
pub record WasHere (c : Course) (n : ℕ) (y : Client) : Type 0 where
  pub client : Client
  pub there : client_here c.table n ≡ Some client
  pub session : y.session ≡ client.session

-- a client of this number that is here was here before, with the same session
abbrev pub KeepsSession : ℕ → Course → Course → Type 0
KeepsSession n c then = (y : Client) → client_here then.table n ≡ Some y → WasHere c n y

same_keeps : (n : ℕ) (c : Course) → KeepsSession n c c
same_keeps n c y is = record { client = y; there = is; session = refl }

both_keep : (n : ℕ) (a b d : Course) → KeepsSession n a b → KeepsSession n b d → KeepsSession n a d
both_keep n a b d first later y is =
    let last = later y is in
    let was = first last.client last.there in
    record { client = was.client; there = was.there; session = last.session ∙ was.session }

as_keeps : (n m : ℕ) (cause : Cause) (c : Course) (o : Option Client) → KeepsSession n c (ended_as m cause c o)
unfolding client_here
as_keeps n m cause c None y is = record { client = y; there = is; session = refl }
as_keeps n m cause c (Some x) y is = record { client = y; there = still_here c.table.clients m n y is; session = refl }

ended_keeps : (n m : ℕ) (cause : Cause) (c : Course) → KeepsSession n c (ended m cause c)
unfolding ended
ended_keeps n m cause c = as_keeps n m cause c (client_here c.table m)

-- the client before it got an address
placed_was : (n : ℕ) (c : Course) (y : Client) (o : Option Client) (g : Client → Client) → KeepsHere g → ((x : Client) → (g x).session ≡ x.session)
    → client_here c.table n ≡ o → if_here (slice_get (changed_at n g c.table.clients) n) ≡ Some y → WasHere c n y
unfolding client_here
placed_was n c y None g here session was is = absurd (false≢true (ap is_some (sym (none_changed g here c.table.clients n was) ∙ is)))
placed_was n c y (Some x) g here session was is = record {
  client = x;
  there = was;
  session = ap (λ (y : Client). y.session) (some_is y (g x) (sym is ∙ changed_here g here c.table.clients n x was)) ∙ session x;
}

at_keeps : (n : ℕ) (conn : Conn) (x : Client) (c : Course) (a : Leased) → KeepsSession n c (established_at n conn x c a)
unfolding client_here
at_keeps n conn x c a y is =
    placed_was n c y (client_here c.table n) (with_address a.0 c.table.moment) (λ y. refl) (λ y. refl) refl is

-- ---- establishing

with_keeps : (n : ℕ) (conn : Conn) (x : Client) (c : Course) (a : Option Leased) → KeepsSession n c (established_with n conn x c a)
with_keeps n conn x c (Some a) = at_keeps n conn x c a
with_keeps n conn x c None = ended_keeps n n PoolEmpty c

for_keeps : (n : ℕ) (conn : Conn) (c : Course) (o : Option Client) → KeepsSession n c (established_for n conn c o)
for_keeps n conn c None = same_keeps n c
for_keeps n conn c (Some x) = with_keeps n conn x c (address_by c.table (ccd_in x.file).address)

replaced_keeps : (n : ℕ) (c : Course) (o : Option ℕ) → KeepsSession n c (replaced n c o)
replaced_keeps n c None = same_keeps n c
replaced_keeps n c (Some m) = ended_keeps n m (Replaced (cid n)) c

unless_keeps : (n : ℕ) (name : List ℕ) (c : Course) (b : Bool) → KeepsSession n c (replaced_unless n name c b)
unless_keeps n name c true = same_keeps n c
unless_keeps n name c false = replaced_keeps n c (established_named c.table name)

establishing_keeps : (n : ℕ) (conn : Conn) (c : Course) (o : Option Client) → KeepsSession n c (establishing n conn c o)
establishing_keeps n conn c None = same_keeps n c
establishing_keeps n conn c (Some x) =
    let then = replaced_unless n (name_in x) c c.table.settings.duplicate in
    both_keep n c then (established_now n conn then) (unless_keeps n (name_in x) c c.table.settings.duplicate) (for_keeps n conn then (client_here then.table n))

established_keeps : (n : ℕ) (conn : Conn) (c : Course) → KeepsSession n c (client_established n conn c)
unfolding client_established
established_keeps n conn c = establishing_keeps n conn c (client_here c.table n)

-- ---- a message, and what a key exchange asks for

requested_as_keeps : (n : ℕ) (conn : Conn) (x : Client) (c : Course) (e : Option Established) → KeepsSession n c (requested_as n conn x c e)
requested_as_keeps n conn x c None = established_keeps n conn c
requested_as_keeps n conn x c (Some e) = λ y is. record { client = y; there = is; session = refl }

-- a request
pub requested_keeps : (n : ℕ) (conn : Conn) (c : Course) (o : Option Client) → KeepsSession n c (requested n conn c o)
requested_keeps n conn c None = same_keeps n c
requested_keeps n conn c (Some x) = requested_as_keeps n conn x c x.established

other_keeps : (n : ℕ) (conn : Conn) (c : Course) (b : Bool) → KeepsSession n c (other_message n conn c b)
other_keeps n conn c true = requested_keeps n conn c (client_here c.table n)
other_keeps n conn c false = λ y is. record { client = y; there = is; session = refl }

-- any message
pub came_keeps : (n : ℕ) (c : Course) (conn : Conn) (bytes : List ℕ) → KeepsSession n c (message_came n c conn bytes)
came_keeps n c conn [] = same_keeps n c
came_keeps n c conn (b ∷ bytes) = other_keeps n conn c (bytes_eq (b ∷ bytes) push_request)

on_keeps : (n : ℕ) (c : Course) (o : Option Conn) → KeepsSession n c (established_on n c o)
on_keeps n c None = same_keeps n c
on_keeps n c (Some conn) = established_keeps n conn c

if_keeps : (n : ℕ) (c : Course) (x : Client) (b : Bool) → KeepsSession n c (established_if n c x b)
if_keeps n c x false = same_keeps n c
if_keeps n c x true = on_keeps n c (first_conn x.session)

-- what a key exchange asks for
pub asked_keeps : (n : ℕ) (c : Course) (o : Option Client) → KeepsSession n c (established_as_asked n c o)
asked_keeps n c None = same_keeps n c
asked_keeps n c (Some x) = if_keeps n c x (asks_to_be_established x)
