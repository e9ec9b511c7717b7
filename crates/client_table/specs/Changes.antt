-- How the entries of a table are found and changed.
use Rattle.std.specs.Prelude.{ℕ, zero, suc, ◌==◌, not, Bool, true, false, List, [], ◌∷◌, option_map, find, slice_get, Option, Some, None}
use Rattle.vpn_base.specs.declared.address.Addr.{Addr}
use Rattle.vpn_base.specs.declared.names.Cid.{Cid}
use Rattle.client_table.specs.declared.key.Key.{Key}
use Rattle.client_table.specs.Finding.{has_number, is_at}
use Rattle.client_table.specs.Entries.{Entry}

-- ---- places

-- the first place, by whether the first item passes and by the first place among those behind it
abbrev pub earlier : Bool → Option ℕ → Option ℕ
earlier true rest = Some 0
earlier false None = None
earlier false (Some i) = Some (suc i)

-- the first place whose item passes
abbrev pub place_where : {X : Type 0} → (X → Bool) → List X → Option ℕ
place_where passes [] = None
place_where passes (x ∷ xs) = earlier (passes x) (place_where passes xs)

-- the item at a place, if there is one
abbrev pub item_at : {X : Type 0} → List X → Option ℕ → Option X
item_at xs None = None
item_at xs (Some i) = slice_get xs i

-- the list with the item at a place changed, and as it was where there is no such place
abbrev pub changed_at : {X : Type 0} → ℕ → (X → X) → List X → List X
changed_at i change [] = []
changed_at zero change (x ∷ xs) = change x ∷ xs
changed_at (suc i) change (x ∷ xs) = x ∷ changed_at i change xs

-- the same, where there may be no place
abbrev pub changed_where : {X : Type 0} → Option ℕ → (X → X) → List X → List X
changed_where None change xs = xs
changed_where (Some i) change xs = changed_at i change xs

-- the list without the item at a place
abbrev pub without_at : {X : Type 0} → ℕ → List X → List X
without_at i [] = []
without_at zero (x ∷ xs) = xs
without_at (suc i) (x ∷ xs) = x ∷ without_at i xs

-- the same, where there may be no place
abbrev pub without_where : {X : Type 0} → Option ℕ → List X → List X
without_where None xs = xs
without_where (Some i) xs = without_at i xs

-- ---- keys

-- a key with another address
abbrev pub with_address : Addr → Key → Key
with_address to k = record k { address = to }

-- a key with a name
abbrev pub with_name : List ℕ → Key → Key
with_name name k = record k { name = Some name }

-- whether another client than this one was found
abbrev pub is_other : ℕ → Option Cid → Bool
is_other n None = false
is_other n (Some m) = not (m.0 == n)

-- ---- who is here

-- whether the key of an entry passes
abbrev pub by_key : {V : Type 0} → (Key → Bool) → Entry V → Bool
by_key passes e = passes e.key

-- the first entry whose key passes
abbrev pub entry_where : {V : Type 0} → (Key → Bool) → List (Entry V) → Option (Entry V)
entry_where passes es = find (by_key passes) es

-- its number
abbrev pub number_where : {V : Type 0} → (Key → Bool) → List (Entry V) → Option Cid
number_where passes es = option_map (λ e. e.key.number) (entry_where passes es)

-- the place of the client of a number
abbrev pub place_of : {V : Type 0} → ℕ → List (Entry V) → Option ℕ
place_of n es = place_where (by_key (has_number n)) es

-- ---- changes

-- an entry with another key
abbrev pub with_key : {V : Type 0} → (Key → Key) → Entry V → Entry V
with_key change e = record e { key = change e.key }

-- an entry with another value
abbrev pub with_value : {V : Type 0} → V → Entry V → Entry V
with_value w e = record e { value = w }

-- the client of a number has another key
abbrev pub key_changed : {V : Type 0} → ℕ → (Key → Key) → List (Entry V) → List (Entry V)
key_changed n change es = changed_where (place_of n es) (with_key change) es

-- the client of a number is not here any more
abbrev pub without : {V : Type 0} → ℕ → List (Entry V) → List (Entry V)
without n es = without_where (place_of n es) es

-- ---- moves

-- whether a client may move to an address: no other one is there with its session id
abbrev pub may_move_as : {V : Type 0} → ℕ → Addr → List (Entry V) → Option (Entry V) → Bool
may_move_as n to es None = false
may_move_as n to es (Some e) = not (is_other n (number_where (is_at to e.key.sid) es))

-- the same for the client of this number, if it is here
abbrev pub may_move : {V : Type 0} → ℕ → Addr → List (Entry V) → Bool
may_move n to es = may_move_as n to es (entry_where (has_number n) es)

-- the entries after a move, if it may be
abbrev pub moved_if : {V : Type 0} → Bool → ℕ → Addr → List (Entry V) → List (Entry V)
moved_if true n to es = key_changed n (with_address to) es
moved_if false n to es = es
