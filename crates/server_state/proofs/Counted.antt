-- How many clients are here, and which peer ids are free.
use Rattle.std.proofs.Common.{◌≡◌, ◌≤◌, ◌<◌, ℕ, zero, suc, ◌+◌, max, ◌==◌, Bool, true, false, cond, List, [], ◌∷◌, length, count_by, refl, sym, ap, ◌∙◌, ⊎_elim, arith}
use Rattle.std.specs.Prelude.{◌&&◌, ◌||◌, nat_le, nat_lt, not}
use Rattle.std.specs.List.{list_any}
use Rattle.std.proofs.lemmas.Bool.{cases_lt, false≢true}
use Rattle.std.proofs.lemmas.Grind.{common_steps}
use Rattle.std.proofs.lemmas.List.Sums.{sum_by-cons}
use Rattle.client_table.specs.Changes.{by_key}
use Rattle.client_table.specs.Finding as keys
use Rattle.client_table.specs.PeerIds.{IsLeastUnused}
use Rattle.client_table.specs.Tables.{entries_of, most_of}
use Rattle.peer_table.specs.Peer.{Peer}
use Rattle.server_table.specs.Lookups.{free_peer_id, greatest_peer_id, has_peer_id, is_full, unless_used, unused_from}
use Rattle.server_table.specs.Table.{Client, Table}
use Rattle.server_state.specs.declared.state.ServerCore.{ServerCore}
use Rattle.server_state.specs.Core.{CoreStands, IsOfClient}
use Rattle.server_state.specs.Standing.{FirstStands, StandFrom}

-- ---- how many

one_more : (x : Client) (clients : List Client) (b : Bool) → x.is_here ≡ b
    → count_by (λ (x : Client). x.is_here) (x ∷ clients) ≡ cond b (suc (count_by (λ (x : Client). x.is_here) clients)) (count_by (λ (x : Client). x.is_here) clients)
one_more x clients b is = sum_by-cons (λ (x : Client). cond x.is_here 1 0) x clients ∙ ap (λ b. cond b 1 0 + count_by (λ (x : Client). x.is_here) clients) is ∙ step b (count_by (λ (x : Client). x.is_here) clients)
  where
    step : (b : Bool) (n : ℕ) → cond b 1 0 + n ≡ cond b (suc n) n
    step true n = omega arith
    step false n = omega arith

module _ {E : Type 0} (IsOf : E → ℕ → Client → Type 0) where
  count_step : (n : ℕ) (x : Client) (clients : List Client) (es : List E) (b : Bool) → x.is_here ≡ b
      → FirstStands IsOf (λ es. StandFrom IsOf es (suc n) clients) n x es b
      → ((es : List E) → StandFrom IsOf es (suc n) clients → length es ≡ count_by (λ (x : Client). x.is_here) clients)
      → length es ≡ count_by (λ (x : Client). x.is_here) (x ∷ clients)
  count_step n x clients [] true is h ih = absurd h
  count_step n x clients (e ∷ es) true is h ih = ap suc (ih es h.1) ∙ sym (one_more x clients true is)
  count_step n x clients es false is h ih = ih es h ∙ sym (one_more x clients false is)

  -- there are as many items as clients that are here
  count_is : (clients : List Client) (es : List E) (n : ℕ) → StandFrom IsOf es n clients → length es ≡ count_by (λ (x : Client). x.is_here) clients
  count_is [] es n h = ap length h
  count_is (x ∷ clients) es n h = count_step n x clients es x.is_here refl h (λ es h. count_is clients es (suc n) h)

  module _ (by_item : E → Bool) (by_client : Client → Bool)
      (agree : (e : E) (n : ℕ) (x : Client) → IsOf e n x → x.is_here ≡ true → by_item e ≡ by_client x)
      (gone : (x : Client) → x.is_here ≡ false → by_client x ≡ false) where
    any_step : (n : ℕ) (x : Client) (clients : List Client) (es : List E) (b : Bool) → x.is_here ≡ b
        → FirstStands IsOf (λ es. StandFrom IsOf es (suc n) clients) n x es b
        → ((es : List E) → StandFrom IsOf es (suc n) clients → list_any by_item es ≡ list_any by_client clients)
        → list_any by_item es ≡ (by_client x || list_any by_client clients)
    any_step n x clients [] true is h ih = absurd h
    any_step n x clients (e ∷ es) true is h ih =
        ap (λ b. b || list_any by_item es) (agree e n x h.0 is) ∙ ap (λ b. by_client x || b) (ih es h.1)
    any_step n x clients es false is h ih = ih es h ∙ sym (ap (λ b. b || list_any by_client clients) (gone x is))

    -- an item passes where a client passes
    any_is : (clients : List Client) (es : List E) (n : ℕ) → StandFrom IsOf es n clients → list_any by_item es ≡ list_any by_client clients
    any_is [] es n h = ap (list_any by_item) h
    any_is (x ∷ clients) es n h = any_step n x clients es x.is_here refl h (λ es h. any_is clients es (suc n) h)

full_same : (m n : ℕ) → not (nat_lt n m) ≡ nat_le m n
full_same m n = grind (arith, common_steps)

pub full_is : {S : Type 0} (means : S → Peer → Type 0) (core : ServerCore S) (t : Table) → CoreStands means core t
    → not (nat_lt (length (entries_of core.clients)) (most_of core.clients)) ≡ is_full t
unfolding is_full
full_is means core t h =
    full_same (most_of core.clients) (length (entries_of core.clients))
    ∙ ap (λ m. nat_le m (length (entries_of core.clients))) h.most
    ∙ ap (nat_le t.settings.max_clients) (count_is (IsOfClient means) t.clients (entries_of core.clients) 0 h.clients)

-- ---- peer ids

used_at_most : (p : ℕ) (clients : List Client) → list_any (has_peer_id p) clients ≡ true → p ≤ greatest_peer_id clients
used_at_most p [] e = absurd (false≢true e)
used_at_most p (x ∷ clients) e = step x.is_here (x.peer_id == p) (list_any (has_peer_id p) clients) refl e (used_at_most p clients)
  where
    same : (a b : ℕ) → (a == b) ≡ true → a ≡ b
    same a b e = grind (arith, common_steps)

    step : (h q rest : Bool) → (x.peer_id == p) ≡ q → ((h && q) || rest) ≡ true → (rest ≡ true → p ≤ greatest_peer_id clients) → p ≤ max x.peer_id (greatest_peer_id clients)
    step true true rest is e ih = omega (arith, same x.peer_id p is)
    step true false rest is e ih = omega (arith, ih e)
    step false q rest is e ih = omega (arith, ih e)

passed : (b : Bool) (n later u : ℕ) → b ≡ true → later ≡ u → unless_used b n later ≡ u
passed true n later u e is = is
passed false n later u e is = absurd (false≢true e)

stopped : (b : Bool) (n later : ℕ) → b ≡ false → unless_used b n later ≡ n
stopped true n later e = absurd (false≢true (sym e))
stopped false n later e = refl

-- the search finds the least one that is not used
finds : (most n u : ℕ) (clients : List Client) → n ≤ u → u ≤ n + most → list_any (has_peer_id u) clients ≡ false
    → ((m : ℕ) → m < u → list_any (has_peer_id m) clients ≡ true) → unused_from most n clients ≡ u
finds zero n u clients from to free used = omega (arith, from, to)
finds (suc most) n u clients from to free used =
    ⊎_elim (λ (lt : n < u). passed (list_any (has_peer_id n) clients) n (unused_from most (suc n) clients) u (used n lt)
    (finds most (suc n) u clients (omega (arith, lt)) (omega (arith, to)) free used))
    (λ (le : u ≤ n).
    let same : n ≡ u = omega (arith, from, le) in
    stopped (list_any (has_peer_id n) clients) n (unused_from most (suc n) clients) (ap (λ m. list_any (has_peer_id m) clients) same ∙ free) ∙ same)
    (cases_lt n u)

at_most_next : (u : ℕ) (clients : List Client) → ((m : ℕ) → m < u → list_any (has_peer_id m) clients ≡ true) → u ≤ suc (greatest_peer_id clients)
at_most_next zero clients used = omega arith
at_most_next (suc u) clients used = omega (arith, used_at_most u clients (used u (omega arith)))

pub free_is : {S : Type 0} (means : S → Peer → Type 0) (core : ServerCore S) (t : Table) (u : ℕ) → CoreStands means core t
    → IsLeastUnused (λ n. by_key (keys.has_peer_id n)) u (entries_of core.clients) → u ≡ free_peer_id t
unfolding free_peer_id
free_is means core t u h least =
    let same : (p : ℕ) → list_any (by_key (keys.has_peer_id p)) (entries_of core.clients) ≡ list_any (has_peer_id p) t.clients =
    λ p. any_is (IsOfClient means) (by_key (keys.has_peer_id p)) (has_peer_id p)
    (λ e n x is here. ap (λ q. q == p) is.peer_id ∙ sym (ap (λ b. b && (x.peer_id == p)) here))
    (λ x gone. ap (λ b. b && (x.peer_id == p)) gone)
    t.clients (entries_of core.clients) 0 h.clients in
    let used : (m : ℕ) → m < u → list_any (has_peer_id m) t.clients ≡ true = λ m lt. sym (same m) ∙ least.least m lt in
    sym (finds (suc (greatest_peer_id t.clients)) 0 u t.clients (omega arith) (omega (arith, at_most_next u t.clients used)) (sym (same u) ∙ least.unused) used)
