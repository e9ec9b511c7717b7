-- One line for each key session: its connection, its key id, and its receiving side.
use Rattle.std.proofs.Common.{◌≡◌, ℕ, zero, suc, List, [], ◌∷◌, ◌++◌, length, map, Option, Some, None, refl, sym, ap, ◌∙◌, inl, inr}
use Rattle.std.specs.Prelude.{◌⊎◌, slice_get, option_map}
use Rattle.reliable_recv.specs.Receiving.{Receiving}
use Rattle.peer_table.specs.KeySessions.{Session}
use Rattle.peer_table.specs.Peer.{Peer}
use Rattle.peer_table.specs.Places.{changed_at}
use Rattle.server_table.specs.Table.{Client, Table}
use Rattle.control_laws.specs.Sessions.{session_in, session_of}
use Rattle.control_laws.proofs.Actions.{none_some, some_same}

pub record Line : Type 0 where
  pub conn : ℕ
  pub kid : ℕ
  pub receiving : Receiving

abbrev pub line_of : Session → Line
line_of s = record { conn = s.link.conn.0; kid = s.link.kid; receiving = s.link.receiving }

-- the lines of a client, and of all clients
abbrev pub lines_in : Peer → List Line
lines_in p = map line_of p.sessions

abbrev pub client_lines : Client → List Line
client_lines x = lines_in x.session

abbrev pub lines_of : List Client → List (List Line)
lines_of clients = map client_lines clients

abbrev pub line_in : Option (List Line) → ℕ → Option Line
line_in None k = None
line_in (Some lines) k = slice_get lines k

-- the line of session k of client n
abbrev pub line_at : List (List Line) → ℕ → ℕ → Option Line
line_at lines n k = line_in (slice_get lines n) k

-- ---- places in lists

pub get_map : {X Y : Type 0} (f : X → Y) (xs : List X) (i : ℕ) → slice_get (map f xs) i ≡ option_map f (slice_get xs i)
get_map f [] i = refl
get_map f (x ∷ xs) zero = refl
get_map f (x ∷ xs) (suc i) = get_map f xs i

pub map_changed : {X Y : Type 0} (g : X → Y) (n : ℕ) (f : X → X) (xs : List X) → ((x : X) → slice_get xs n ≡ Some x → g (f x) ≡ g x) →
    map g (changed_at n f xs) ≡ map g xs
map_changed g n f [] same = refl
map_changed g zero f (x ∷ xs) same = ap (λ y. y ∷ map g xs) (same x refl)
map_changed g (suc n) f (x ∷ xs) same = ap (λ ys. g x ∷ ys) (map_changed g n f xs same)

pub map_append : {X Y : Type 0} (g : X → Y) (xs ys : List X) → map g (xs ++ ys) ≡ map g xs ++ map g ys
map_append g [] ys = refl
map_append g (x ∷ xs) ys = ap (λ zs. g x ∷ zs) (map_append g xs ys)

pub get_changed : {X : Type 0} (n : ℕ) (f : X → X) (xs : List X) (x : X) → slice_get xs n ≡ Some x → slice_get (changed_at n f xs) n ≡ Some (f x)
get_changed n f [] x e = absurd (none_some e)
get_changed zero f (y ∷ xs) x e = ap (λ z. Some (f z)) (some_same e)
get_changed (suc n) f (y ∷ xs) x e = get_changed n f xs x e

pub get_last : {X : Type 0} (xs : List X) (x : X) → slice_get (xs ++ x ∷ []) (length xs) ≡ Some x
get_last [] x = refl
get_last (z ∷ xs) x = get_last xs x

pub get_past : {X : Type 0} (xs : List X) → slice_get xs (length xs) ≡ None
get_past [] = refl
get_past (x ∷ xs) = get_past xs

-- an item is put at a place of a list, where one was or was not
pub record ItemPut {X : Type 0} (before later : List X) (n : ℕ) (x : X) : Type 0 where
  pub there : slice_get later n ≡ Some x
  pub others : (m : ℕ) → (m ≡ n) ⊎ (slice_get later m ≡ slice_get before m)

next_or : {m n : ℕ} {A : Type 0} → (m ≡ n) ⊎ A → (suc m ≡ suc n) ⊎ A
next_or (inl e) = inl (ap suc e)
next_or (inr a) = inr a

others_changed : {X : Type 0} (n : ℕ) (f : X → X) (xs : List X) (m : ℕ) → (m ≡ n) ⊎ (slice_get (changed_at n f xs) m ≡ slice_get xs m)
others_changed n f [] m = inr refl
others_changed zero f (x ∷ xs) zero = inl refl
others_changed zero f (x ∷ xs) (suc m) = inr refl
others_changed (suc n) f (x ∷ xs) zero = inr refl
others_changed (suc n) f (x ∷ xs) (suc m) = next_or (others_changed n f xs m)

others_appended : {X : Type 0} (xs : List X) (x : X) (m : ℕ) → (m ≡ length xs) ⊎ (slice_get (xs ++ x ∷ []) m ≡ slice_get xs m)
others_appended [] x zero = inl refl
others_appended [] x (suc m) = inr refl
others_appended (y ∷ xs) x zero = inr refl
others_appended (y ∷ xs) x (suc m) = next_or (others_appended xs x m)

pub changed_put : {X : Type 0} (n : ℕ) (f : X → X) (xs : List X) (x : X) → slice_get xs n ≡ Some x → ItemPut xs (changed_at n f xs) n (f x)
changed_put n f xs x there = record { there = get_changed n f xs x there; others = others_changed n f xs }

-- two changes at one place differ there alone
pub both_put : {X : Type 0} (n : ℕ) (f g : X → X) (xs : List X) (x : X) → slice_get xs n ≡ Some x → ItemPut (changed_at n f xs) (changed_at n g xs) n (g x)
both_put n f g xs x there = record {
  there = get_changed n g xs x there;
  others = λ m. go m (others_changed n g xs m) (others_changed n f xs m);
}
  where
    go : (m : ℕ) → (m ≡ n) ⊎ (slice_get (changed_at n g xs) m ≡ slice_get xs m) → (m ≡ n) ⊎ (slice_get (changed_at n f xs) m ≡ slice_get xs m) →
        (m ≡ n) ⊎ (slice_get (changed_at n g xs) m ≡ slice_get (changed_at n f xs) m)
    go m (inl e) other = inl e
    go m (inr e) (inl f) = inl f
    go m (inr e) (inr f) = inr (e ∙ sym f)

pub appended_put : {X : Type 0} (xs : List X) (x : X) → ItemPut xs (xs ++ x ∷ []) (length xs) x
appended_put xs x = record { there = get_last xs x; others = others_appended xs x }

pub map_put : {X Y : Type 0} (g : X → Y) (before later : List X) (n : ℕ) (x : X) → ItemPut before later n x → ItemPut (map g before) (map g later) n (g x)
map_put g before later n x put = record {
  there = get_map g later n ∙ ap (λ o. option_map g o) put.there;
  others = λ m. go m (put.others m);
}
  where
    go : (m : ℕ) → (m ≡ n) ⊎ (slice_get later m ≡ slice_get before m) → (m ≡ n) ⊎ (slice_get (map g later) m ≡ slice_get (map g before) m)
    go m (inl e) = inl e
    go m (inr e) = inr (get_map g later m ∙ ap (λ o. option_map g o) e ∙ sym (get_map g before m))

-- ---- places of lines

-- a line is put at a place, where one was or was not
pub record LinePut (before later : List (List Line)) (n k : ℕ) (l : Line) : Type 0 where
  pub there : line_at later n k ≡ Some l
  pub others : (m j : ℕ) → ((m ≡ n) × (j ≡ k)) ⊎ (line_at later m j ≡ line_at before m j)

-- in the lines of one client
pub client_put : (before later : List (List Line)) (n k : ℕ) (old new_lines : List Line) (l : Line) → slice_get before n ≡ Some old →
    ItemPut before later n new_lines → ItemPut old new_lines k l → LinePut before later n k l
client_put before later n k old new_lines l was outer inner = record {
  there = ap (λ o. line_in o k) outer.there ∙ inner.there;
  others = λ m j. go m j (outer.others m) (inner.others j);
}
  where
    go : (m j : ℕ) → (m ≡ n) ⊎ (slice_get later m ≡ slice_get before m) → (j ≡ k) ⊎ (slice_get new_lines j ≡ slice_get old j) →
        ((m ≡ n) × (j ≡ k)) ⊎ (line_at later m j ≡ line_at before m j)
    go m j (inr e) inner_case = inr (ap (λ o. line_in o j) e)
    go m j (inl e) (inl f) = inl (e, f)
    go m j (inl e) (inr f) = inr
        (ap (λ i. line_at later i j) e ∙ ap (λ o. line_in o j) outer.there ∙ f ∙ sym (ap (λ i. line_at before i j) e ∙ ap (λ o. line_in o j) was))

-- a client with one line stands behind all others
pub joined_put : (before : List (List Line)) (l : Line) → LinePut before (before ++ (l ∷ []) ∷ []) (length before) zero l
joined_put before l = record {
  there = ap (λ o. line_in o zero) (get_last before (l ∷ []));
  others = λ m j. go m j (others_appended before (l ∷ []) m);
}
  where
    one : (m j : ℕ) → m ≡ length before → ((m ≡ length before) × (j ≡ zero)) ⊎ (line_at (before ++ (l ∷ []) ∷ []) m j ≡ line_at before m j)
    one m zero e = inl (e, refl)
    one m (suc j) e = inr
        (ap (λ i. line_at (before ++ (l ∷ []) ∷ []) i (suc j)) e ∙ ap (λ o. line_in o (suc j)) (get_last before (l ∷ []))
        ∙ sym (ap (λ i. line_at before i (suc j)) e ∙ ap (λ o. line_in o (suc j)) (get_past before)))

    go : (m j : ℕ) → (m ≡ length before) ⊎ (slice_get (before ++ (l ∷ []) ∷ []) m ≡ slice_get before m) →
        ((m ≡ length before) × (j ≡ zero)) ⊎ (line_at (before ++ (l ∷ []) ∷ []) m j ≡ line_at before m j)
    go m j (inr e) = inr (ap (λ o. line_in o j) e)
    go m j (inl e) = one m j e

-- ---- lines are those of sessions

at_client : (o : Option Client) (k : ℕ) → line_in (option_map client_lines o) k ≡ option_map line_of (session_in k o)
at_client None k = refl
at_client (Some x) k = get_map line_of x.session.sessions k

pub line_at_is : (t : Table) (n k : ℕ) → line_at (lines_of t.clients) n k ≡ option_map line_of (session_of t n k)
unfolding session_of
line_at_is t n k = ap (λ o. line_in o k) (get_map client_lines t.clients n) ∙ at_client (slice_get t.clients n) k

-- the session of a line
pub record IsSessionOf (t : Table) (n k : ℕ) (l : Line) : Type 0 where
  pub session : Session
  pub there : session_of t n k ≡ Some session
  pub same : line_of session ≡ l

of_line : (t : Table) (n k : ℕ) (l : Line) (o : Option Session) → session_of t n k ≡ o → option_map line_of o ≡ Some l → IsSessionOf t n k l
of_line t n k l None is e = absurd (none_some e)
of_line t n k l (Some s) is e = record { session = s; there = is; same = some_same e }

pub session_by : (t : Table) (n k : ℕ) (l : Line) → line_at (lines_of t.clients) n k ≡ Some l → IsSessionOf t n k l
session_by t n k l at = of_line t n k l (session_of t n k) refl (sym (line_at_is t n k) ∙ at)

pub line_by : (t : Table) (n k : ℕ) (s : Session) → session_of t n k ≡ Some s → line_at (lines_of t.clients) n k ≡ Some (line_of s)
line_by t n k s there = line_at_is t n k ∙ ap (λ o. option_map line_of o) there
